-- Records in order: their spans and names lie between two positions, and their starts ascend. Assumes nothing.
use Prim.Native.Nat.{ℕ, zero, suc, ◌≤◌, ◌<◌}
use native.Mathlib.Omega.{arith}
use mathlib.Core.List.{List, [], ◌∷◌, ◌++◌}
use lib.ListN.{length, get_or}
use Rattle.records.specs.Believed.AddressRecords.{AddressRecord}

-- a record's span lies between two positions, and its name in it
pub record Lies (from to : ℕ) (r : AddressRecord) : Type 0 where
  pub after_from : from ≤ r.start
  pub name_after : r.start ≤ r.name_start
  pub name_order : r.name_start ≤ r.name_end
  pub name_before : r.name_end ≤ r.end
  pub not_empty : r.start < r.end
  pub before_to : r.end ≤ to

-- records lie between two positions, and each starts after the start of the one before
abbrev pub Ascending : ℕ → ℕ → List AddressRecord → Type 0
Ascending from to [] = from ≤ to
Ascending from to (r ∷ rs) = Lies from to r × Ascending (suc r.start) to rs

ascending_le : (from to : ℕ) (rs : List AddressRecord) → Ascending from to rs → from ≤ to
ascending_le from to [] h = h
ascending_le from to (r ∷ rs) h = omega (arith, h.0)

pub lies_widen : (a b a' b' : ℕ) (r : AddressRecord) → Lies a b r → a' ≤ a → b ≤ b' → Lies a' b' r
lies_widen a b a' b' r h p q =
    record { after_from = omega (arith, h.after_from); name_after = h.name_after; name_order = h.name_order; name_before = h.name_before; not_empty = h.not_empty; before_to = omega (arith, h.before_to) }

pub ascending_widen : (a b a' b' : ℕ) (rs : List AddressRecord) → Ascending a b rs → a' ≤ a → b ≤ b' → Ascending a' b' rs
ascending_widen a b a' b' [] h p q = omega arith
ascending_widen a b a' b' (r ∷ rs) h p q =
    (lies_widen a b a' b' r h.0 p q, ascending_widen (suc r.start) b (suc r.start) b' rs h.1 (omega arith) q)

pub ascending_append : (a b c : ℕ) (rs ss : List AddressRecord) → Ascending a b rs → Ascending b c ss → Ascending a c (rs ++ ss)
ascending_append a b c [] ss h g = ascending_widen b c a c ss g h (omega arith)
ascending_append a b c (r ∷ rs) ss h g =
    (lies_widen a b a c r h.0 (omega arith) (ascending_le b c ss g), ascending_append (suc r.start) b c rs ss h.1 g)

-- each of them lies there
pub lies_at : (from to : ℕ) (rs : List AddressRecord) (i : ℕ) (d : AddressRecord) → Ascending from to rs → i < length rs → Lies from to (get_or rs i d)
lies_at from to [] i d h l = absurd (omega arith)
lies_at from to (r ∷ rs) zero d h l = h.0
lies_at from to (r ∷ rs) (suc i) d h l =
    lies_widen (suc r.start) to from to (get_or rs i d) (lies_at (suc r.start) to rs i d h.1 (omega arith)) (omega (arith, h.0)) (omega arith)
