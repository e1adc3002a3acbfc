-- Levels as bits. Assumes nothing.
use Prim.Native.Nat.{ℕ, zero, suc, ◌+◌, ◌*◌, ◌-◌, ◌%◌, ◌≤◌, ◌<◌}
use native.Mathlib.Omega.{arith}
use mathlib.Core.Path.{◌≡◌, refl, ◌∙◌}
use mathlib.Core.Bool.{Bool, true, false}
use mathlib.Core.List.{List, [], ◌∷◌}
use borrow.Author.Tests.{lt-ltb}
use lib.ListN.{length}
use Rattle.octets.specs.Believed.Numbers.{level_limit}
use Rattle.expansion.specs.Ties.Walk.{in_typed, with_list, without_one, without_typed}
use Rattle.expansion.specs.Ties.Steps.{bits_of, LevelsAre, Follows, InTypedIs}
use Rattle.expansion.specs.declared.levels.Levels.{Levels}

-- 2 ^ n
abbrev power : ℕ → ℕ
power zero = 1
power (suc n) = 2 * power n

-- so many levels are so many bits
bits_low : (s : List Bool) → bits_of s < power (length s)
bits_low [] = omega arith
bits_low (true ∷ s) = omega (arith, bits_low s)
bits_low (false ∷ s) = omega (arith, bits_low s)

power_more : (n m : ℕ) → power n ≤ power (m + n)
power_more n zero = let e : 0 + n ≡ n = omega arith in rw e (omega arith)
power_more n (suc m) = let e : suc m + n ≡ suc (m + n) = omega arith in rw e (omega (arith, power_more n m))

power_63 : (n : ℕ) → n < level_limit → power n ≤ 9223372036854775808
power_63 n h = let e : (63 - n) + n ≡ 63 = omega (arith, h) in let f : power n ≤ power ((63 - n) + n) = power_more n (63 - n) in rw e at f

pub bits_fit : (s : List Bool) → length s < level_limit → bits_of s < 9223372036854775808
bits_fit s h = omega (arith, bits_low s, power_63 (length s) h)

pub list_levels_lem : (levels after : Levels) → (levels.many ≡ level_limit → ⊥) → after.many ≡ levels.many + 1 → after.typed ≡ levels.typed % 9223372036854775808 * 2 → Follows levels after with_list
list_levels_lem levels after n e f s i =
    let h : length s < level_limit = omega (arith, i.many_is, levels.low, n) in
    let b = bits_fit s h in
    rw (lt-ltb (length s) level_limit h) (record { many_is = omega (arith, e, i.many_is); typed_is = omega (arith, f, i.typed_is, b) })

-- ---- typed addresses that end

-- some are left of levels, and the end of typed addresses leaves the same of both
pub record Left (s : List Bool) (levels : Levels) : Type 0 where
  rest : List Bool
  are : LevelsAre levels rest
  same : without_typed s ≡ without_typed rest

abbrev pub Comes : Levels → Levels → Type 0
Comes levels₀ levels = (s : List Bool) → LevelsAre levels₀ s → Left s levels

pub comes_first : (levels : Levels) → Comes levels levels
comes_first levels s i = record { rest = s; are = i; same = refl }

no_typed : (s : List Bool) → false ≡ in_typed s → without_typed s ≡ s
no_typed [] e = refl
no_typed (true ∷ s) e = cc
no_typed (false ∷ s) e = refl

no_levels : (s : List Bool) → length s ≤ 0 → without_typed s ≡ s
no_levels [] e = refl
no_levels (x ∷ s) e = absurd (omega (arith, e))

one_typed : (s : List Bool) → true ≡ in_typed s → without_typed s ≡ without_typed (without_one s)
one_typed [] e = cc
one_typed (true ∷ s) e = refl
one_typed (false ∷ s) e = cc

module _ {levels₀ levels : Levels} (h : Comes levels₀ levels) where
  ends : ((s : List Bool) → LevelsAre levels s → without_typed s ≡ s) → Follows levels₀ levels without_typed
  ends e s i = let l = h s i in rw (l.same ∙ e l.rest l.are) l.are

  pub comes_stop : InTypedIs levels false → Follows levels₀ levels without_typed
  comes_stop e = ends (λ s i. no_typed s (e s i))

  pub comes_end : levels.many ≤ 0 → Follows levels₀ levels without_typed
  comes_end e = ends (λ s i. no_levels s (omega (arith, e, i.many_is)))

  pub comes_next : {after : Levels} → InTypedIs levels true → Follows levels after without_one → Comes levels₀ after
  comes_next e f s i = let l = h s i in record { rest = without_one l.rest; are = f l.rest l.are; same = l.same ∙ one_typed l.rest (e l.rest l.are) }
