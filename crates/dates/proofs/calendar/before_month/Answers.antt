-- `dates::calendar::before_month` meets its contract. Assumes nothing.
use mathlib.Core.Path.{◌≡◌}
use borrow.Author.Tests.{lt-ltb, le-ltb}
use lib.Dec.{ltb}
use Rattle.octets.specs.Believed.Choice.{both}
use Rattle.octets.proofs.ChoiceLaws.{cast_bool}
use Rattle.dates.specs.Believed.Calendar.{leap}
use Rattle.dates.proofs.CalendarLaws.{before_month}
use Rattle.dates.proofs.calendar.before_month.Goals as goal
use Rattle.dates.proofs.calendar.before_month.Goals.{then-month-gt-FEBRUARY, else-month-gt-FEBRUARY}

pub returns : goal.returns
returns c =
    let a = c.args in
    let day : c.if-month-gt-FEBRUARY.leap_day ≡ both (ltb 1 a.month) (leap a.year) = elim c.if-month-gt-FEBRUARY.branch [
      | then-month-gt-FEBRUARY w ↦ rw (w.leap_day-is, lt-ltb 1 a.month w.if-month-gt-FEBRUARY.true) w.is_leap-leap_day.ensures
      | else-month-gt-FEBRUARY w ↦ rw (w.leap_day-is, le-ltb 1 a.month w.if-month-gt-FEBRUARY.false)
    ] in
    rw (c.from.ensures, cast_bool c.if-month-gt-FEBRUARY.leap_day) (before_month a.month c.requires a.year c.if-month-gt-FEBRUARY.leap_day day)
