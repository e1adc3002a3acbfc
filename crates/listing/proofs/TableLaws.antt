-- The texts of the records of a table, one after the other. Assumes nothing.
use mathlib.Core.Path.{◌≡◌, refl, ap}
use mathlib.Core.List.{List, [], ◌∷◌}
use Prim.Native.Nat.{ℕ, suc, ◌+◌, ◌-◌, ◌≤◌, ◌<◌}
use native.Mathlib.Omega.{arith}
use lib.ListN.{length, get_or}
use Rattle.listing.specs.Believed.Listing.{each}
use Rattle.listing.specs.Ties.Putting.{tabulate}

module _ {A : Type 0} (text : A → List ℕ → List ℕ) (thing : ℕ → A) (many i : ℕ) (rest : List ℕ) where
  -- all of them are left
  pub each_all : each text (tabulate thing many 0) rest ≡ each text (tabulate thing (many - 0) 0) rest
  each_all = let e : many - 0 ≡ many = omega arith in rw e

  -- the next, and those after it
  pub each_next : i < many → each text (tabulate thing (many - i) i) rest ≡ text (thing i) (each text (tabulate thing (many - (i + 1)) (i + 1)) rest)
  unfolding each tabulate
  each_next h = let e : many - i ≡ suc (many - (i + 1)) = omega arith in rw e

  -- none is left
  pub each_none : many ≤ i → each text (tabulate thing (many - i) i) rest ≡ rest
  unfolding each tabulate
  each_none h = let e : many - i ≡ 0 = omega arith in rw e

-- things that are those of a list, number by number
pub tabulated : {A : Type 0} (thing : ℕ → A) (l : List A) (d : A) (i : ℕ) → ((k : ℕ) → k < length l → thing (i + k) ≡ get_or l k d) → tabulate thing (length l) i ≡ l
unfolding tabulate
tabulated thing [] d i e = refl
tabulated thing (a ∷ l) d i e =
    let z : i + 0 ≡ i = omega arith in
    let first : thing i ≡ a = rw z at (e 0 (omega arith)) in
    rw first (ap (λ r. a ∷ r) (tabulated thing l d (i + 1) (λ k h. let n : i + 1 + k ≡ i + suc k = omega arith in rw n (e (suc k) (omega arith)))))
