-- The moment that a date says, and document 01's number, position, count and value of each answer.
use Rattle.std.specs.Prelude.{ℕ, ◌+◌, ◌*◌, Bool, true, eqb, leb, ℤ, pos, ◌-ℤ◌, ◌*ℤ◌, Option, Some, None, Result, Ok, Err}
use Rattle.octets.specs.Believed.Choice.{pick, both}
use Rattle.octets.specs.Believed.Numbers.{accepted}
use Rattle.octets.specs.declared.answers.Fault.{Fault}
use Rattle.dates.specs.Believed.Calendar.{month_length, day_number, weekday}
use Rattle.dates.specs.declared.form.Written.{Written}

-- a day of the years 1900 to 9999
unfoldable pub day_exists : ℕ → ℕ → ℕ → Bool
day_exists year month day = both (both (leb 1900 year) (leb year 9999)) (both (leb 1 day) (leb day (month_length year month)))

-- up to 23:59:59
unfoldable pub time_exists : ℕ → ℕ → ℕ → Bool
time_exists hour minute second = both (leb hour 23) (both (leb minute 59) (leb second 59))

-- no name, or the true one
unfoldable pub name_true : Option ℕ → ℕ → Bool
name_true None days = true
name_true (Some name) days = eqb name (weekday days)

-- the number of the day that a date names
abbrev pub days_of : Written → ℕ
days_of w = day_number w.day.year w.day.month w.day.day

-- seconds of local time from 1 January 1900, 00:00
abbrev pub local_seconds : Written → ℕ
local_seconds w = days_of w * 86400 + w.time.hour * 3600 + w.time.minute * 60 + w.time.second

-- seconds of GMT from 1 January 1900, 00:00
abbrev pub seconds : ℕ → ℤ → ℤ
seconds local minutes = pos local -ℤ minutes *ℤ pos 60

abbrev pub in_zone : ℕ → Option ℤ → Option ℤ
in_zone local (Some minutes) = Some (seconds local minutes)
in_zone local None = None

-- the moment that a date says, if it is possible: seconds of GMT
unfoldable pub moment_of : Written → Option ℤ
moment_of w =
    pick (day_exists w.day.year w.day.month w.day.day)
    (pick (time_exists w.time.hour w.time.minute w.time.second)
    (pick (name_true w.name (days_of w)) (in_zone (local_seconds w) w.zone) None) None) None

-- document 01's number, position, count and value of each answer
abbrev pub number_of : Result ℤ Fault → ℕ
number_of (Ok value) = accepted
number_of (Err f) = f.number

abbrev pub position_of : Result ℤ Fault → ℕ
position_of (Ok value) = 0
position_of (Err f) = f.position

abbrev pub count_of : Result ℤ Fault → ℕ
count_of a = 0

abbrev pub value_of : Result ℤ Fault → ℤ
value_of (Ok value) = value
value_of (Err f) = pos 0

-- what an answer tells: all four
pub record Told : Type 0 where
  pub number : ℕ
  pub position : ℕ
  pub count : ℕ
  pub value : ℤ

abbrev pub told : Result ℤ Fault → Told
told a = record { number = number_of a; position = position_of a; count = count_of a; value = value_of a }
