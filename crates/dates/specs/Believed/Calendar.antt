-- The Gregorian calendar from 1 January 1900 on. Months count from 0, days of a month from 1.
use Rattle.std.specs.Prelude.{ℕ, zero, suc, ◌+◌, ◌-◌, ◌%◌, Bool, List, [], ◌∷◌, eqb, get_or, take}
use Rattle.octets.specs.Believed.Choice.{pick}

-- every fourth year, but of the hundreds only every fourth
unfoldable pub leap : ℕ → Bool
leap year = pick (eqb (year % 100) 0) (eqb (year % 400) 0) (eqb (year % 4) 0)

-- January to December
abbrev pub month_lengths : Bool → List ℕ
month_lengths leap_year = 31 ∷ pick leap_year 29 28 ∷ 31 ∷ 30 ∷ 31 ∷ 30 ∷ 31 ∷ 31 ∷ 30 ∷ 31 ∷ 30 ∷ 31 ∷ []

abbrev pub sum : List ℕ → ℕ
sum [] = 0
sum (x ∷ rest) = x + sum rest

unfoldable pub month_length : ℕ → ℕ → ℕ
month_length year month = get_or (month_lengths (leap year)) month 0

unfoldable pub days_before_month : ℕ → ℕ → ℕ
days_before_month year month = sum (take month (month_lengths (leap year)))

-- the days of the first `count` years from 1900 on
unfoldable pub days_of_years : ℕ → ℕ
days_of_years zero = 0
days_of_years (suc count) = days_of_years count + pick (leap (1900 + count)) 366 365

-- the days from 1 January 1900 to a day
unfoldable pub day_number : ℕ → ℕ → ℕ → ℕ
day_number year month day = days_of_years (year - 1900) + days_before_month year month + (day - 1)

-- the place of a day's name: 1 January 1900 was a Monday
abbrev pub weekday : ℕ → ℕ
weekday number = number % 7
