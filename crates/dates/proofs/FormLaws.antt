-- The value of digits, and what is past marks and names. Assumes nothing.
use mathlib.Core.Path.{◌≡◌, sym, ap, ◌∙◌}
use mathlib.Core.Bool.{Bool, true, false}
use mathlib.Core.List.{List}
use Prim.Native.Nat.{ℕ, ◌+◌, ◌-◌, ◌*◌, ◌^◌, ◌≤◌, ◌<◌}
use native.Mathlib.Nat.{pow-suc, pow-le-pow_right}
use native.Mathlib.Numerals.{add-one}
use native.Mathlib.Omega.{arith}
use lib.Dec.{eqb}
use Rattle.std.specs.Prelude.{Option, Some, None}
use Rattle.std.specs.Option.{is_some}
use lib.ListN.{length, get_or, drop}
use Rattle.octets.proofs.Parts.{from_here}
use Rattle.octets.specs.Believed.Octets.{comma_byte, minus_byte}
use Rattle.dates.specs.Believed.Names.{day_names}
use Rattle.dates.specs.Believed.Parts.{Part}
use Rattle.dates.specs.Believed.Grammar.{decimal_from}
use Rattle.dates.specs.Executable.Form.{first_key, after, name_of, day_name_of, past_dash}
use Rattle.dates.specs.Ties.Steps.{PastIs, ReadsOrStays}

pub decimal_step : (digits : List ℕ) (v i : ℕ) → i < length digits → decimal_from v (drop i digits) ≡ decimal_from (v * 10 + (get_or digits i 0 - 48)) (drop (i + 1) digits)
decimal_step digits v i h = ap (λ (l : List ℕ). decimal_from v l) (from_here digits i 0 h)

pub grows : (v x n : ℕ) → v < 1000 ^ n → x < 256 → v * 10 + x < 1000 ^ (n + 1)
grows v x n h k = let e : 1000 ^ (n + 1) ≡ 1000 ^ n * 1000 = rw add-one (pow-suc 1000 n) in omega arith

pub bounded : (v n k : ℕ) → v < 1000 ^ n → n ≤ k → v < 1000 ^ k
bounded v n k h l = omega (arith, pow-le-pow_right {n = 1000} (omega arith) l)

-- past a mark, or before what is no mark
module _ {l next : List Part} {mark : ℕ} {r : Bool} where
  pub passed : PastIs l mark next r → r ≡ true → (eqb (first_key l) mark ≡ true) × (next ≡ after l)
  passed x e = (sym x.is ∙ e, rw e at x.next_is)

  pub not_passed : PastIs l mark next r → r ≡ false → (eqb (first_key l) mark ≡ false) × (next ≡ l)
  not_passed x e = (sym x.is ∙ e, rw e at x.next_is)

pub dash_passed : {l next : List Part} {r : Bool} → PastIs l minus_byte next r → next ≡ past_dash l
unfolding past_dash
dash_passed x = rw x.is at x.next_is

-- past a day's name and a comma, or before what is none
module _ (l next : List Part) where
  pub day_named : (r : Option ℕ) → ReadsOrStays (name_of day_names l) l r next → is_some r ≡ true → eqb (first_key next) comma_byte ≡ true → day_name_of l ≡ Some (r, after next)
  unfolding day_name_of
  day_named None y e f = absurd (let z : ◌≡◌ {A = ℕ} 0 1 = cc in omega arith)
  day_named (Some n) y e f = rw (y, f)

  pub no_comma : (r : Option ℕ) → ReadsOrStays (name_of day_names l) l r next → is_some r ≡ true → eqb (first_key next) comma_byte ≡ false → day_name_of l ≡ None
  unfolding day_name_of
  no_comma None y e f = absurd (let z : ◌≡◌ {A = ℕ} 0 1 = cc in omega arith)
  no_comma (Some n) y e f = rw (y, f)

  pub no_day : (r : Option ℕ) → ReadsOrStays (name_of day_names l) l r next → is_some r ≡ false → day_name_of l ≡ Some (r, next)
  unfolding day_name_of
  no_day None y e = rw (y.0, y.1)
  no_day (Some n) y e = absurd (let z : ◌≡◌ {A = ℕ} 0 1 = cc in omega arith)
