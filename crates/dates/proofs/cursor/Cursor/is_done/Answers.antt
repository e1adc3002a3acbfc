-- `dates::cursor::Cursor::is_done` meets its contract. Assumes nothing.
use mathlib.Core.Path.{ap, ◌∙◌}
use Rattle.dates.specs.Executable.Form.{done}
use Rattle.dates.specs.Ties.Steps.{held}
use Rattle.dates.proofs.PartLaws.{ended_is}
use Rattle.dates.proofs.cursor.Cursor.is_done.Goals as goal

pub returns : goal.returns
unfolding held
returns c = c.eq.ensures ∙ ended_is c.self.inside.ahead.key _ _ ∙ ap done c.self.view_is
