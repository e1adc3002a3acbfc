-- The days before a year by a formula, the tables of the months. Assumes nothing.
use mathlib.Core.Path.{◌≡◌, refl, sym}
use mathlib.Core.Bool.{Bool, true, false}
use mathlib.Core.List.{List, [], ◌∷◌}
use Prim.Native.Nat.{ℕ, zero, suc, ◌+◌, ◌-◌, ◌*◌, ◌/◌, ◌%◌, ◌≤◌, ◌<◌}
use native.Mathlib.Omega.{arith}
use native.Mathlib.Decide.{dec_lt}
use lib.Dec.{eqb, eqb→eq, leb, leb→le, ltb}
use lib.ListN.{get_or, take, get_or-eq_default}
use borrow.Author.Tests.{eqb-true, eqb-false, ne_eqb}
use Rattle.octets.specs.Believed.Choice.{pick, both}
use Rattle.octets.proofs.Tables.{at}
use Rattle.dates.specs.Believed.Calendar.{leap, month_lengths, sum, month_length, days_before_month, days_of_years}

-- ---- leap years

-- the leap years up to a year
abbrev leaps : ℕ → ℕ
leaps n = n / 4 + n / 400 - n / 100

-- a year more, by each divisor
module _ (n : ℕ) where
  by_4 : (t : Bool) → eqb ((n + 1) % 4) 0 ≡ t → (n + 1) / 4 ≡ n / 4 + pick t 1 0
  by_4 true e = omega (arith, eqb-true ((n + 1) % 4) 0 e)
  by_4 false e = omega (arith, eqb-false ((n + 1) % 4) 0 e)

  by_100 : (t : Bool) → eqb ((n + 1) % 100) 0 ≡ t → (n + 1) / 100 ≡ n / 100 + pick t 1 0
  by_100 true e = omega (arith, eqb-true ((n + 1) % 100) 0 e)
  by_100 false e = omega (arith, eqb-false ((n + 1) % 100) 0 e)

  by_400 : (t : Bool) → eqb ((n + 1) % 400) 0 ≡ t → (n + 1) / 400 ≡ n / 400 + pick t 1 0
  by_400 true e = omega (arith, eqb-true ((n + 1) % 400) 0 e)
  by_400 false e = omega (arith, eqb-false ((n + 1) % 400) 0 e)

  one_more : leaps (n + 1) ≡ leaps n + pick (leap (n + 1)) 1 0
  unfolding leap
  one_more = go (eqb ((n + 1) % 4) 0) refl (eqb ((n + 1) % 100) 0) refl (eqb ((n + 1) % 400) 0) refl
    where
      all : (a b c : Bool) → (n + 1) / 4 ≡ n / 4 + pick a 1 0 → (n + 1) / 100 ≡ n / 100 + pick b 1 0 → (n + 1) / 400 ≡ n / 400 + pick c 1 0
          → n / 4 + pick a 1 0 + (n / 400 + pick c 1 0) - (n / 100 + pick b 1 0) ≡ leaps n + pick (pick b c a) 1 0 → leaps (n + 1) ≡ leaps n + pick (pick b c a) 1 0
      all a b c x y z e = rw (x, y, z) e

      go : (a : Bool) → eqb ((n + 1) % 4) 0 ≡ a → (b : Bool) → eqb ((n + 1) % 100) 0 ≡ b → (c : Bool) → eqb ((n + 1) % 400) 0 ≡ c
          → leaps (n + 1) ≡ leaps n + pick (pick b c a) 1 0
      go true p true q true r = all true true true (by_4 true p) (by_100 true q) (by_400 true r) (omega arith)
      go true p true q false r = all true true false (by_4 true p) (by_100 true q) (by_400 false r) (omega arith)
      go true p false q true r = absurd (eqb-false ((n + 1) % 100) 0 q (omega (arith, eqb-true ((n + 1) % 400) 0 r)))
      go true p false q false r = all true false false (by_4 true p) (by_100 false q) (by_400 false r) (omega arith)
      go false p true q c r = absurd (eqb-false ((n + 1) % 4) 0 p (omega (arith, eqb-true ((n + 1) % 100) 0 q)))
      go false p false q true r = absurd (eqb-false ((n + 1) % 4) 0 p (omega (arith, eqb-true ((n + 1) % 400) 0 r)))
      go false p false q false r = all false false false (by_4 false p) (by_100 false q) (by_400 false r) (omega arith)

-- ---- the days before a year: up to 1899 there are 460 leap years

by_years : (count : ℕ) → days_of_years count + 460 ≡ count * 365 + leaps (1899 + count)
unfolding days_of_years
by_years zero = refl
by_years (suc count) = go (leap (1900 + count)) (by_years count) (rw more at (one_more (1899 + count)))
  where
    more : 1899 + count + 1 ≡ 1900 + count
    more = omega arith

    next : 1899 + suc count ≡ 1900 + count
    next = omega arith

    go : (t : Bool) → days_of_years count + 460 ≡ count * 365 + leaps (1899 + count) → leaps (1900 + count) ≡ leaps (1899 + count) + pick t 1 0
        → days_of_years count + pick t 366 365 + 460 ≡ suc count * 365 + leaps (1899 + suc count)
    go true e h = rw (next, h) (omega arith)
    go false e h = rw (next, h) (omega arith)

-- the formula of the code
pub record Formula (year : ℕ) : Type 0 where
  pub enough : 460 ≤ (year - 1900) * 365 + ((year - 1) / 4 + (year - 1) / 400) - (year - 1) / 100
  pub same : (year - 1900) * 365 + ((year - 1) / 4 + (year - 1) / 400) - (year - 1) / 100 - 460 ≡ days_of_years (year - 1900)
  pub small : year < 10000 → days_of_years (year - 1900) < 4000000

pub formula : (year : ℕ) → 1900 ≤ year → Formula year
formula year h =
    let e : 1899 + (year - 1900) ≡ year - 1 = omega arith in
    let k : days_of_years (year - 1900) + 460 ≡ (year - 1900) * 365 + leaps (year - 1) = rw e at (by_years (year - 1900)) in
    let x = apart ((year - 1900) * 365) ((year - 1) / 4) ((year - 1) / 400) ((year - 1) / 100) (days_of_years (year - 1900)) k (omega arith) in
    record { enough = x.0; same = x.1; small = λ l. omega (arith, k) }
  where
    apart : (a b c d n : ℕ) → n + 460 ≡ a + (b + c - d) → d ≤ b → (460 ≤ a + (b + c) - d) × (a + (b + c) - d - 460 ≡ n)
    apart a b c d n e l = (omega arith, omega arith)

-- ---- the months

-- the tables of the code, and the leap day on top
abbrev pub lengths : List ℕ
lengths = 31 ∷ 28 ∷ 31 ∷ 30 ∷ 31 ∷ 30 ∷ 31 ∷ 31 ∷ 30 ∷ 31 ∷ 30 ∷ 31 ∷ []

abbrev before : List ℕ
before = 0 ∷ 31 ∷ 59 ∷ 90 ∷ 120 ∷ 151 ∷ 181 ∷ 212 ∷ 243 ∷ 273 ∷ 304 ∷ 334 ∷ []

abbrev in_february : ℕ → Bool → ℕ
in_february month leap_year = pick (both (eqb month 1) leap_year) 1 0

abbrev past_february : ℕ → Bool → ℕ
past_february month leap_year = pick (both (ltb 1 month) leap_year) 1 0

-- a length is the table's; an entry is the sum of the lengths of the months before it, less than a year
abbrev length_right : Bool → ℕ → ℕ → Bool
length_right leap_year month days = eqb (days + in_february month leap_year) (get_or (month_lengths leap_year) month 0)

abbrev before_right : Bool → ℕ → ℕ → Bool
before_right leap_year month days = eqb (days + past_february month leap_year) (sum (take month (month_lengths leap_year)))

abbrev short : ℕ → ℕ → ℕ → Bool
short most month days = leb days most

module _ (month : ℕ) (h : month < 12) where
  lengths_right : (leap_year : Bool) → get_or lengths month 0 + in_february month leap_year ≡ get_or (month_lengths leap_year) month 0
  lengths_right true = eqb→eq _ _ (at (length_right true) lengths 0 tt month h)
  lengths_right false = eqb→eq _ _ (at (length_right false) lengths 0 tt month h)

  summed : (leap_year : Bool) → get_or before month 0 + past_february month leap_year ≡ sum (take month (month_lengths leap_year))
  summed true = eqb→eq _ _ (at (before_right true) before 0 tt month h)
  summed false = eqb→eq _ _ (at (before_right false) before 0 tt month h)

  one_at_most : (t : Bool) → pick t 1 0 ≤ 1
  one_at_most true = omega arith
  one_at_most false = omega arith

  -- the days before a month stand in the table
  pub before_month : (year : ℕ) (d : Bool) → d ≡ both (ltb 1 month) (leap year) → (get_or before month 0 + pick d 1 0 ≡ days_before_month year month) × (get_or before month 0 + pick d 1 0 < 366)
  unfolding days_before_month
  before_month year d e = (rw e (summed (leap year)), omega (arith, one_at_most d, leb→le (get_or before month 0) 334 (at (short 334) before 0 tt month h)))

  at_most_31 : (leap_year : Bool) → get_or (month_lengths leap_year) month 0 ≤ 31
  at_most_31 true = leb→le _ _ (at (short 31) (month_lengths true) 0 tt month h)
  at_most_31 false = leb→le _ _ (at (short 31) (month_lengths false) 0 tt month h)

-- there are twelve
pub no_month : (year month : ℕ) → 12 ≤ month → 0 ≡ month_length year month
unfolding month_length
no_month year month h = sym (get_or-eq_default (month_lengths (leap year)) 0 h)

pub length-of : (year month : ℕ) (d : Bool) → d ≡ both (eqb month 1) (leap year) → get_or lengths month 0 + pick d 1 0 ≡ month_length year month
unfolding month_length
length-of year month d e = elim (dec_lt month 12) [
  | yes h ↦ rw e (lengths_right month h (leap year))
  | no h ↦
      let n : (month ≡ 1 → ⊥) = λ z. absurd (omega arith) in
      let m : 12 ≤ month = omega arith in
      rw (e, ne_eqb month 1 n, get_or-eq_default lengths 0 m, get_or-eq_default (month_lengths (leap year)) 0 m)
]

pub length-small : (year month : ℕ) → month < 12 → month_length year month ≤ 31
unfolding month_length
length-small year month h = at_most_31 month h (leap year)
