-- The laws of comparing two texts. Assumes nothing.
use mathlib.Core.Path.{◌≡◌, refl, sym, ap, ap₂, ◌∙◌}
use mathlib.Core.Bool.{Bool, true, false, ◌&&◌, true≢false}
use mathlib.Core.Logic.{◌↔◌}
use mathlib.Core.List.{List, [], ◌∷◌, map, map-id}
use Prim.Native.Nat.{ℕ, suc, ◌≤◌}
use native.Mathlib.Omega.{arith}
use borrow.Author.Tests.{eq-eqb, eqb-true}
use lib.Dec.{eqb}
use lib.Pointwise.{pointwise}
use Rattle.std.specs.Prelude.{IsTrue}
use Rattle.std.specs.Char.{to_ascii_lowercase}
use Rattle.std.proofs.lemmas.Bool.Decides.{nat_tests}
use lib.ListN.{length, drop, drop_of_length-le}
use Rattle.octets.specs.Believed.Choice.{both}
use Rattle.octets.specs.Believed.Letters.{lower, same, same_bytes, same_letters}
use Rattle.octets.proofs.ChoiceLaws.{both_false, both_parts}

module _ (f : ℕ → ℕ) where
  -- texts of different lengths differ
  pub lengths_differ : (x y : List ℕ) → (length x ≡ length y → ⊥) → same f x y ≡ false
  unfolding same
  lengths_differ [] [] n = absurd (n refl)
  lengths_differ [] (b ∷ y) n = refl
  lengths_differ (a ∷ x) [] n = refl
  lengths_differ (a ∷ x) (b ∷ y) n = rw (lengths_differ x y (λ e. n (ap suc e))) (both_false (eqb (f a) (f b)))

  -- a text is the same as itself
  pub same_self : (x : List ℕ) → same f x x ≡ true
  unfolding same
  same_self [] = refl
  same_self (a ∷ x) = rw (eq-eqb (f a) (f a) refl) (same_self x)

  -- texts that are the same have the same bytes, each read through f
  pub same_true : (x y : List ℕ) → same f x y ≡ true → map f x ≡ map f y
  unfolding same
  same_true [] [] e = refl
  same_true [] (b ∷ y) e = absurd (let z : ◌≡◌ {A = ℕ} 0 1 = cc in omega arith)
  same_true (a ∷ x) [] e = absurd (let z : ◌≡◌ {A = ℕ} 0 1 = cc in omega arith)
  same_true (a ∷ x) (b ∷ y) e =
      let (h, t) = both_parts (eqb (f a) (f b)) (same f x y) e in
      ap₂ (λ c z. c ∷ z) (eqb-true (f a) (f b) h) (same_true x y t)

  -- to be the same is to have the same bytes, each read through f
  pub same_by_map : (x y : List ℕ) → same f x y ≡ same_bytes (map f x) (map f y)
  unfolding same
  same_by_map [] [] = refl
  same_by_map [] (b ∷ y) = refl
  same_by_map (a ∷ x) [] = refl
  same_by_map (a ∷ x) (b ∷ y) = ap (λ t. both (eqb (f a) (f b)) t) (same_by_map x y)

  -- at the end of both texts they agree
  pub both_end : (x y : List ℕ) (i : ℕ) → length x ≤ i → length y ≤ i → same f (drop i x) (drop i y) ≡ true
  unfolding same
  both_end x y i h k = rw (drop_of_length-le x h, drop_of_length-le y k)

-- the same bytes are the same text
pub same_bytes_lem : (x y : List ℕ) → same_bytes x y ≡ true → x ≡ y
same_bytes_lem x y e = sym (map-id x) ∙ same_true (λ b. b) x y e ∙ map-id y

-- ---- std's words

-- its small letter is this one
pub lower_ascii : (b : ℕ) → to_ascii_lowercase b ≡ lower b
unfolding lower
lower_ascii b = grind (arith, nat_tests)

pub lowers_ascii : (x : List ℕ) → map to_ascii_lowercase x ≡ map lower x
lowers_ascii [] = refl
lowers_ascii (b ∷ x) = ap₂ (λ c z. c ∷ z) (lower_ascii b) (lowers_ascii x)

both_and : (a b : Bool) → (a && b) ≡ both a b
both_and true b = refl
both_and false b = refl

-- its equality of texts is this one
pub equal_bytes : (x y : List ℕ) → pointwise eqb x y ≡ same_bytes x y
unfolding same
equal_bytes [] [] = refl
equal_bytes [] (b ∷ y) = refl
equal_bytes (a ∷ x) [] = refl
equal_bytes (a ∷ x) (b ∷ y) = both_and (eqb a b) (pointwise eqb x y) ∙ ap (λ t. both (eqb a b) t) (equal_bytes x y)

-- a test of equal small letters is this one
pub decided : (r : Bool) (x y : List ℕ) → IsTrue r ↔ (map to_ascii_lowercase x ≡ map to_ascii_lowercase y) → r ≡ same_letters x y
decided true x y i =
    let e : map lower x ≡ map lower y = sym (lowers_ascii x) ∙ i.0 refl ∙ lowers_ascii y in
    sym (same_by_map lower x y ∙ rw e (same_self (λ b. b) (map lower y)))
decided false x y i = of (same_letters x y) refl
  where
    of : (t : Bool) → same_letters x y ≡ t → false ≡ same_letters x y
    of false e = sym e
    of true e = absurd (true≢false (sym (i.1 (lowers_ascii x ∙ same_true lower x y e ∙ sym (lowers_ascii y)))))
