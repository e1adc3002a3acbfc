-- `dates::calendar::month_length` meets its contract. Assumes nothing.
use mathlib.Core.Path.{◌≡◌}
use borrow.Author.Tests.{ne_eqb}
use native.Mathlib.Omega.{arith}
use lib.Dec.{eqb}
use lib.ListN.{get_or}
use Rattle.std.proofs.lemmas.Option.{gets}
use Rattle.std.proofs.lemmas.Grind.{common_steps}
use Rattle.octets.specs.Believed.Choice.{both}
use Rattle.octets.proofs.ChoiceLaws.{cast_bool}
use Rattle.dates.specs.Believed.Calendar.{leap}
use Rattle.dates.proofs.CalendarLaws.{lengths, length-of}
use Rattle.dates.proofs.calendar.month_length.Goals as goal
use Rattle.dates.proofs.calendar.month_length.Goals.{then-month-eq-FEBRUARY, else-month-eq-FEBRUARY}

pub returns : goal.returns
returns c =
    let a = c.args in
    let day : c.if-month-eq-FEBRUARY.leap_day ≡ both (eqb a.month 1) (leap a.year) = elim c.if-month-eq-FEBRUARY.branch [
      | then-month-eq-FEBRUARY w ↦ rw (w.leap_day-is, w.if-month-eq-FEBRUARY.true) w.is_leap-leap_day.ensures
      | else-month-eq-FEBRUARY w ↦ rw (w.leap_day-is, ne_eqb _ _ w.if-month-eq-FEBRUARY.false)
    ] in
    let days : c.unwrap_or.result ≡ get_or lengths a.month 0 = grind (arith, common_steps, gets) in
    rw (c.from.ensures, cast_bool c.if-month-eq-FEBRUARY.leap_day, days) (length-of a.year a.month c.if-month-eq-FEBRUARY.leap_day day)
