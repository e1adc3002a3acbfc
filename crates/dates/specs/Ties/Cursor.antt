-- The parts that a cursor shows, and what its part ahead is.
use Rattle.std.specs.Prelude.{List}
use Rattle.dates.specs.Believed.Parts.{Part}
use Rattle.dates.specs.Ties.Steps.{TokenIs, held}
use Rattle.dates.specs.declared.cursor.Cursor.TheInside.{Inside}

abbrev pub parts_ahead : Inside → List Part
parts_ahead c = held c.classes.now c.text.now c.ahead

abbrev pub IsCursor : Inside → Type 0
IsCursor c = TokenIs c.classes.now c.text.now (parts_ahead c) c.ahead
