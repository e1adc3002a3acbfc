-- `dates::cursor::Cursor::read_name` meets its contract. Assumes nothing.
use mathlib.Core.Path.{refl}
use Rattle.dates.proofs.NameLaws.{name_missed, name_met}
use Rattle.dates.specs.Executable.Form.{name_of}
use Rattle.dates.proofs.cursor.Cursor.read_name.Goals as goal

pub returns-in_err-run : goal.returns-in_err-run
unfolding name_of
returns-in_err-run c = rw c.from_residual.ensures (rw c.in_err-run.ensures, refl)

pub returns-in_err-place : goal.returns-in_err-place
unfolding name_of
returns-in_err-place c = rw c.from_residual-in_err-place.ensures (rw (c.in_ok-run.ensures.0, ← c.in_ok-run.ensures.1) (name_missed _ _ _ c.in_err-place.ensures), refl)

pub returns : goal.returns
unfolding name_of
returns c = rw (c.in_ok-run.ensures.0, ← c.in_ok-run.ensures.1, c.step.ensures) (name_met _ _ _ c.in_ok-place.ensures)
