-- The rule of a table, proved at each of its entries by one test that is computed over the whole. Assumes nothing.
use mathlib.Core.Path.{◌≡◌, refl, ◌∙◌, sym, subst}
use mathlib.Core.Bool.{Bool, true, false}
use mathlib.Core.List.{List, [], ◌∷◌}
use Prim.Native.Nat.{ℕ, zero, suc, ◌+◌, ◌<◌}
use native.Mathlib.Nat.{add-zero, zero-add, add-suc, suc-add, le_of_suc-le-suc, not-suc-le-zero}
use lib.Dec.{T}
use lib.ListN.{length, get_or}
use Rattle.octets.specs.Believed.Choice.{both}
use Rattle.octets.specs.Believed.Tests.{every}

pub is_true : (t : Bool) → T t → t ≡ true
is_true true h = refl
is_true false h = absurd h

pub both_left : (a b : Bool) → T (both a b) → T a
both_left true b t = tt
both_left false b t = t

pub both_right : (a b : Bool) → T (both a b) → T b
both_right true b t = t
both_right false b t = absurd t

module _ {A : Type 0} (test : ℕ → A → Bool) where
  from : (xs : List A) (d : A) (i : ℕ) → T (every test i xs) → (k : ℕ) → k < length xs → T (test (i + k) (get_or xs k d))
  from [] d i t k h = absurd (not-suc-le-zero h)
  from (x ∷ xs) d i t zero h = subst (λ (m : ℕ). T (test m x)) (sym (add-zero i)) (both_left (test i x) (every test (suc i) xs) t)
  from (x ∷ xs) d i t (suc k) h =
      subst (λ (m : ℕ). T (test m (get_or xs k d))) (suc-add i k ∙ sym (add-suc i k))
      (from xs d (suc i) (both_right (test i x) (every test (suc i) xs) t) k (le_of_suc-le-suc h))

  -- a test that holds over the whole table holds at each entry
  pub at : (xs : List A) (d : A) → T (every test 0 xs) → (k : ℕ) → k < length xs → T (test k (get_or xs k d))
  at xs d t k h = subst (λ (m : ℕ). T (test m (get_or xs k d))) (zero-add k) (from xs d 0 t k h)
