-- `dates::cursor::Cursor::read_date` meets its contract. Assumes nothing.
use Rattle.dates.specs.Believed.Names.{month_names}
use mathlib.Core.Path.{◌≡◌}
use Rattle.dates.proofs.FormLaws.{dash_passed}
use Rattle.dates.specs.Executable.Form.{name_of, reading_of}
use Rattle.dates.proofs.cursor.Cursor.read_date.Goals as goal

pub returns-in_err-name : goal.returns-in_err-name
unfolding reading_of
returns-in_err-name c = rw (c.from_residual.ensures, c.in_err-name.ensures)

pub returns-in_err-day : goal.returns-in_err-day
unfolding reading_of
returns-in_err-day c = rw (c.from_residual-in_err-day.ensures, c.in_ok-name.ensures, c.in_err-day.ensures)

pub returns-in_err-month : goal.returns-in_err-month
unfolding reading_of
returns-in_err-month c =
    let e : name_of month_names _ ≡ _ = rw (dash_passed c.past.ensures) at c.in_err-month.ensures.0 in
    rw (c.from_residual-in_err-month.ensures, c.in_ok-name.ensures, c.in_ok-day.ensures, e)

pub returns-in_err-year : goal.returns-in_err-year
unfolding reading_of
returns-in_err-year c =
    let e : name_of month_names _ ≡ _ = rw (dash_passed c.past.ensures) at c.in_ok-month.ensures in
    rw (c.from_residual-in_err-year.ensures, c.in_ok-name.ensures, c.in_ok-day.ensures, e, rw (dash_passed c.past-2.ensures) at c.in_err-year.ensures)

pub returns-in_err-time : goal.returns-in_err-time
unfolding reading_of
returns-in_err-time c =
    let e : name_of month_names _ ≡ _ = rw (dash_passed c.past.ensures) at c.in_ok-month.ensures in
    rw (c.from_residual-in_err-time.ensures, c.in_ok-name.ensures, c.in_ok-day.ensures, e, rw (dash_passed c.past-2.ensures) at c.in_ok-year.ensures, c.in_err-time.ensures)

pub returns-in_err-zone : goal.returns-in_err-zone
unfolding reading_of
returns-in_err-zone c =
    let e : name_of month_names _ ≡ _ = rw (dash_passed c.past.ensures) at c.in_ok-month.ensures in
    rw (c.from_residual-in_err-zone.ensures, c.in_ok-name.ensures, c.in_ok-day.ensures, e, rw (dash_passed c.past-2.ensures) at c.in_ok-year.ensures, c.in_ok-time.ensures, c.in_err-zone.ensures)

pub returns-then-not-is_done : goal.returns-then-not-is_done
unfolding reading_of
returns-then-not-is_done c =
    let e : name_of month_names _ ≡ _ = rw (dash_passed c.past.ensures) at c.in_ok-month.ensures in
    rw (c.in_ok-name.ensures, c.in_ok-day.ensures, e, rw (dash_passed c.past-2.ensures) at c.in_ok-year.ensures, c.in_ok-time.ensures, c.in_ok-zone.ensures, ← c.is_done.ensures, c.if-not-is_done.true)

pub returns : goal.returns
unfolding reading_of
returns c =
    let e : name_of month_names _ ≡ _ = rw (dash_passed c.past.ensures) at c.in_ok-month.ensures in
    rw (c.in_ok-name.ensures, c.in_ok-day.ensures, e, rw (dash_passed c.past-2.ensures) at c.in_ok-year.ensures, c.in_ok-time.ensures, c.in_ok-zone.ensures, ← c.is_done.ensures, c.if-not-is_done.false)
