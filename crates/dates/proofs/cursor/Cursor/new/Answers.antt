use Rattle.dates.proofs.PartLaws.{held_is, holds}
use Rattle.dates.proofs.cursor.Cursor.new.Goals as goal

pub invariant_of-result : goal.invariant_of-result
invariant_of-result c = holds c.part_from.ensures

pub returns : goal.returns
returns c = held_is c.part_from.ensures
