-- The bounds of a day that exists, and of a time.
use Rattle.std.specs.Prelude.{ℕ, ◌≤◌, ◌<◌}

pub record InCalendar (year month day : ℕ) : Type 0 where
  pub from : 1900 ≤ year
  pub to : year ≤ 9999
  pub month_is : month < 12
  pub first : 1 ≤ day
  pub last : day ≤ 31

pub record InDay (hour minute second : ℕ) : Type 0 where
  pub hours : hour ≤ 23
  pub minutes : minute ≤ 59
  pub seconds_are : second ≤ 59
