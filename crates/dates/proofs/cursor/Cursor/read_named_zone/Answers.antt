-- `dates::cursor::Cursor::read_named_zone` meets its contract. Assumes nothing.
use native.Mathlib.Omega.{arith}
use mir.Syntax.{w16}
use mir.Val.{SFits}
use mir.Facts.{to_z-of_z}
use Rattle.dates.specs.Believed.Names.{zone_minutes}
use Rattle.dates.proofs.NameLaws.{zone_missed, zone_met}
use Rattle.dates.specs.Executable.Form.{zone_named, name_of}
use Rattle.dates.proofs.cursor.Cursor.read_named_zone.Goals as goal

pub returns-in_err-run : goal.returns-in_err-run
unfolding zone_named name_of
returns-in_err-run c = rw (c.from_residual.ensures, c.in_err-run.ensures)

pub returns-in_err-minutes : goal.returns-in_err-minutes
unfolding zone_named name_of
returns-in_err-minutes c = rw (c.from_residual-in_err-minutes.ensures, c.in_ok-run.ensures.0, ← c.in_ok-run.ensures.1, zone_missed _ _ _ zone_minutes c.in_err-minutes.ensures)

pub returns : goal.returns
unfolding zone_named name_of
returns c =
    let fits : SFits w16 c.in_ok-minutes.minutes = record { sfits = omega arith } in
    rw (c.in_ok-run.ensures.0, ← c.in_ok-run.ensures.1, c.step.ensures, to_z-of_z fits) (zone_met _ _ _ zone_minutes c.in_ok-minutes.ensures)
