-- The grammar of dates: a rule for each thing that stands in front of other parts.
use Rattle.std.specs.Prelude.{◌≡◌, ℕ, ◌+◌, ◌-◌, ◌*◌, ◌/◌, ◌%◌, ◌<◌, List, [], ◌∷◌, leb, ℤ, pos, length, get_or, Option, Some, None}
use Rattle.octets.specs.Believed.Choice.{pick, both}
use Rattle.octets.specs.Believed.Classes.{letter, digit}
use Rattle.octets.specs.Believed.Octets.{plus_byte, comma_byte, minus_byte, zero_byte, colon_byte}
use Rattle.dates.specs.Believed.Names.{day_names, month_names, zone_names, zone_minutes, place, ahead, behind}
use Rattle.dates.specs.Believed.Parts.{Part}
use Rattle.dates.specs.declared.form.Written.{Written}

-- the decimal number whose digits are those of `high` and then these
abbrev pub decimal_from : ℕ → List ℕ → ℕ
decimal_from high [] = high
decimal_from high (b ∷ rest) = decimal_from (high * 10 + (b - zero_byte)) rest

unfoldable pub decimal : List ℕ → ℕ
decimal digits = decimal_from 0 digits

-- the number that a run of digits writes
abbrev pub num : Part → ℕ
num p = decimal p.bytes

-- HHMM after a sign: up to 2359, with minutes to 59; `None` is out of range
unfoldable pub offset_of : (ℕ → ℕ → ℤ) → ℕ → Option ℤ
offset_of direction hhmm =
    pick (both (leb (hhmm / 100) 23) (leb (hhmm % 100) 59)) (Some (direction (hhmm / 100) (hhmm % 100))) None

-- a run of so many digits
pub record Digits (count : ℕ) (p : Part) : Type 0 where
  pub run : p.key ≡ digit
  pub many : length p.bytes ≡ count

-- one of a list of names, at a place
pub record Name (names : List (List ℕ)) (at : ℕ) (p : Part) : Type 0 where
  pub run : p.key ≡ letter
  pub called : place names p.bytes ≡ at
  pub known : at < length names

-- day name and comma, which may be missing
pub data DayNameIs : List Part → Option ℕ → List Part → Type 0 where
  day_name : {p q : Part} {r : List Part} {name : ℕ} → Name day_names name p → q.key ≡ comma_byte → DayNameIs (p ∷ q ∷ r) (Some name) r
  no_day_name : {r : List Part} → DayNameIs r None r

-- a "-", which may be missing
pub data DashIs : List Part → List Part → Type 0 where
  dash : {p : Part} {r : List Part} → p.key ≡ minus_byte → DashIs (p ∷ r) r
  no_dash : {r : List Part} → DashIs r r

-- 1 or 2 digits
pub data DayIs : List Part → ℕ → List Part → Type 0 where
  one_digit : {p : Part} {r : List Part} → Digits 1 p → DayIs (p ∷ r) (num p) r
  two_digits : {p : Part} {r : List Part} → Digits 2 p → DayIs (p ∷ r) (num p) r

pub data MonthIs : List Part → ℕ → List Part → Type 0 where
  month : {p : Part} {r : List Part} {m : ℕ} → Name month_names m p → MonthIs (p ∷ r) m r

-- 2 digits, plus 1900, or 4
pub data YearIs : List Part → ℕ → List Part → Type 0 where
  short_year : {p : Part} {r : List Part} → Digits 2 p → YearIs (p ∷ r) (num p + 1900) r
  full_year : {p : Part} {r : List Part} → Digits 4 p → YearIs (p ∷ r) (num p) r

-- hour, minute and second: digit runs of 4 or 6, or 2:2, 2:4, 4:2, 2:2:2, read as pairs
pub data HourIs : List Part → ℕ → ℕ → ℕ → List Part → Type 0 where
  four : {p : Part} {r : List Part} → Digits 4 p → HourIs (p ∷ r) (num p / 100) (num p % 100) 0 r
  six : {p : Part} {r : List Part} → Digits 6 p → HourIs (p ∷ r) (num p / 10000) (num p / 100 % 100) (num p % 100) r
  two_two : {p c q : Part} {r : List Part} → Digits 2 p → c.key ≡ colon_byte → Digits 2 q → HourIs (p ∷ c ∷ q ∷ r) (num p) (num q) 0 r
  two_four : {p c q : Part} {r : List Part} → Digits 2 p → c.key ≡ colon_byte → Digits 4 q → HourIs (p ∷ c ∷ q ∷ r) (num p) (num q / 100) (num q % 100) r
  four_two : {p c q : Part} {r : List Part} → Digits 4 p → c.key ≡ colon_byte → Digits 2 q → HourIs (p ∷ c ∷ q ∷ r) (num p / 100) (num p % 100) (num q) r
  two_two_two : {p c q d s : Part} {r : List Part} → Digits 2 p → c.key ≡ colon_byte → Digits 2 q → d.key ≡ colon_byte → Digits 2 s
      → HourIs (p ∷ c ∷ q ∷ d ∷ s ∷ r) (num p) (num q) (num s) r

-- a name or letter, before which a "-" may stand, or a sign and HHMM; nothing follows the zone
pub data ZoneIs : List Part → Option ℤ → Type 0 where
  zone_name : {p : Part} {z : ℕ} → Name zone_names z p → ZoneIs (p ∷ []) (Some (get_or zone_minutes z (pos 0)))
  dashed_name : {s p : Part} {z : ℕ} → s.key ≡ minus_byte → Name zone_names z p → ZoneIs (s ∷ p ∷ []) (Some (get_or zone_minutes z (pos 0)))
  east : {s p : Part} → s.key ≡ plus_byte → Digits 4 p → ZoneIs (s ∷ p ∷ []) (offset_of ahead (num p))
  west : {s p : Part} → s.key ≡ minus_byte → Digits 4 p → ZoneIs (s ∷ p ∷ []) (offset_of behind (num p))

-- the parts write the date
pub data DateIs : List Part → Written → Type 0 where
  date : {l l₁ l₂ l₃ l₄ l₅ l₆ l₇ : List Part} {name : Option ℕ} {d m y h mi s : ℕ} {offset : Option ℤ}
      → DayNameIs l name l₁ → DayIs l₁ d l₂ → DashIs l₂ l₃ → MonthIs l₃ m l₄ → DashIs l₄ l₅ → YearIs l₅ y l₆ → HourIs l₆ h mi s l₇ → ZoneIs l₇ offset
      → DateIs l (record { name = name; day = record { year = y; month = m; day = d }; time = record { hour = h; minute = mi; second = s }; zone = offset })
