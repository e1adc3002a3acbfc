-- `dates::cursor::Cursor::step` meets its contract. Assumes nothing.
use mathlib.Core.Path.{sym, ap, ◌∙◌}
use Rattle.dates.specs.Executable.Form.{after}
use Rattle.dates.proofs.PartLaws.{held_is, holds}
use Rattle.dates.proofs.cursor.Cursor.step.Goals as goal

pub invariant_of-self : goal.invariant_of-self
invariant_of-self c = holds c.part_from-self-inside.ensures

pub returns : goal.returns
returns c = held_is c.part_from-self-inside.ensures ∙ sym c.self.invariant.rest_is ∙ ap after c.self.view_is
