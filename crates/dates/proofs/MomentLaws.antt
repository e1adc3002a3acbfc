-- The laws of days and times that exist, of true names, and of signed sums. Assumes nothing.
use mathlib.Core.Path.{◌≡◌}
use mathlib.Core.Bool.{Bool, true, false, cond}
use Prim.Native.Nat.{ℕ, zero, suc, ◌+◌, ◌-◌, ◌*◌, ◌≤◌, ◌<◌}
use native.Mathlib.Decide.{dec_lt}
use native.Mathlib.Omega.{arith}
use borrow.Author.Tests.{leb-true}
use lib.Dec.{leb, ltb}
use lib.IntN.{ℤ, pos, negsuc, neg_ℤ, sub_ℕ, ◌+ℤ◌, ◌-ℤ◌, ◌*ℤ◌}
use lib.Signed.{mag}
use mir.Syntax.{w16, w64}
use mir.Val.{SFits}
use Rattle.octets.specs.Believed.Choice.{both}
use Rattle.octets.proofs.ChoiceLaws.{both_parts}
use Rattle.dates.specs.Believed.Calendar.{month_length}
use Rattle.dates.specs.Believed.Answers.{day_exists, time_exists, seconds}
use Rattle.dates.specs.Ties.Moment.{InCalendar, InDay}
use Rattle.dates.proofs.CalendarLaws.{no_month, length-small}

-- ---- days

module _ (year month day : ℕ) where
  pub in_calendar : day_exists year month day ≡ true → InCalendar year month day
  unfolding day_exists
  in_calendar e =
      let a = both_parts (both (leb 1900 year) (leb year 9999)) _ e in
      let y = both_parts (leb 1900 year) _ a.0 in
      let d = both_parts (leb 1 day) _ a.1 in
      let one : 1 ≤ day = leb-true _ _ d.0 in
      let most : day ≤ month_length year month = leb-true _ _ d.1 in
      let m : month < 12 = elim (dec_lt month 12) [ yes h ↦ h | no h ↦ absurd (omega (arith, no_month year month (omega arith))) ] in
      record { from = leb-true _ _ y.0; to = leb-true _ _ y.1; month_is = m; first = one; last = omega (arith, length-small year month m) }

-- ---- times

module _ (hour minute second : ℕ) where
  pub in_day : time_exists hour minute second ≡ true → InDay hour minute second
  unfolding time_exists
  in_day e =
      let a = both_parts (leb hour 23) _ e in
      let b = both_parts (leb minute 59) _ a.1 in
      record { hours = leb-true _ _ a.0; minutes = leb-true _ _ b.0; seconds_are = leb-true _ _ b.1 }

-- ---- how large a signed sum or product can be

mag_neg : (z : ℤ) → mag (neg_ℤ z) ≤ mag z + 1
mag_neg (pos zero) = omega arith
mag_neg (pos (suc n)) = omega arith
mag_neg (negsuc n) = omega arith

mag_sub : (a b : ℕ) → mag (sub_ℕ a b) ≤ a + b
mag_sub a b = go (ltb a b)
  where
    go : (t : Bool) → mag (cond t (negsuc (b - suc a)) (pos (a - b))) ≤ a + b
    go true = omega arith
    go false = omega arith

mag_add : (x y : ℤ) → mag (x +ℤ y) ≤ mag x + mag y + 1
mag_add (pos a) (pos b) = omega arith
mag_add (pos a) (negsuc b) = omega (arith, mag_sub a (suc b))
mag_add (negsuc a) (pos b) = omega (arith, mag_sub b (suc a))
mag_add (negsuc a) (negsuc b) = omega arith

mag_sixty : (z : ℤ) → mag (z *ℤ pos 60) ≤ mag z * 60 + 61
mag_sixty (pos a) = omega arith
mag_sixty (negsuc a) = omega (arith, mag_neg (pos (suc a * 60)))

module _ (local : ℕ) (minutes : ℤ) (f : SFits w16 minutes) where
  pub sixty_fits : SFits w64 (minutes *ℤ pos 60)
  sixty_fits = record { sfits = omega (arith, mag_sixty minutes, f.sfits) }

  pub seconds_fit : local < 1000000000000000 → SFits w64 (seconds local minutes)
  seconds_fit h = record { sfits = omega (arith, mag_add (pos local) (neg_ℤ (minutes *ℤ pos 60)), mag_neg (minutes *ℤ pos 60), mag_sixty minutes, f.sfits) }

pub minus_fits : (n : ℕ) → n < 10000 → SFits w16 (pos 0 -ℤ pos n)
minus_fits n h = record { sfits = omega (arith, mag_add (pos 0) (neg_ℤ (pos n)), mag_neg (pos n)) }
