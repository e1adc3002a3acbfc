-- Records stored in a table one after the other, over any layout. Assumes nothing.
use mathlib.Core.Path.{◌≡◌, refl, sym, ap, ◌∙◌}
use mathlib.Core.List.{List, [], ◌∷◌, ◌++◌, append_assoc, append-nil}
use Prim.Native.Nat.{ℕ, suc, ◌+◌, ◌*◌}
use native.Mathlib.Nat.{zero-mul, suc-mul, add-mul}
use native.Mathlib.Omega.{arith}
use lib.ListN.{length, length-append}
use lib.Seq.{sets}
use Rattle.octets.proofs.Parts.{sets-append, sets-behind_first}
use Rattle.records.specs.Believed.Layout.{Layout, size_in, bytes_in, table_in}
use Rattle.records.proofs.LayoutLaws.{length_by}

module _ {A : Type 0} (layout : Layout A) where
  pub length-bytes : (r : A) → length (bytes_in layout r) ≡ size_in layout
  length-bytes r = length_by layout.parts (layout.numbers r)

  pub length-table : (rs : List A) → length (table_in layout rs) ≡ length rs * size_in layout
  length-table [] = sym (zero-mul (size_in layout))
  length-table (r ∷ rs) =
      omega (arith, length-append (bytes_in layout r) (table_in layout rs), length-bytes r, length-table rs, suc-mul (length rs) (size_in layout))

  pub table-append : (rs ss : List A) → table_in layout (rs ++ ss) ≡ table_in layout rs ++ table_in layout ss
  table-append [] ss = refl
  table-append (r ∷ rs) ss = ap (λ t. bytes_in layout r ++ t) (table-append rs ss) ∙ sym (append_assoc (bytes_in layout r) (table_in layout rs) (table_in layout ss))

  -- records after others
  pub stored_behind : (table : List ℕ) (n : ℕ) (rs ss : List A)
      → sets (sets table (n * size_in layout) (table_in layout rs)) ((n + length rs) * size_in layout) (table_in layout ss) ≡ sets table (n * size_in layout) (table_in layout (rs ++ ss))
  stored_behind table n rs ss =
      let q : (n + length rs) * size_in layout ≡ n * size_in layout + length (table_in layout rs) = omega (arith, add-mul n (length rs) (size_in layout), length-table rs) in
      rw (q, table-append rs ss) (sym (sets-append (table_in layout rs) (table_in layout ss) table (n * size_in layout)))

  -- a record, and then those after it
  pub stored_first : (table : List ℕ) (n : ℕ) (r : A) (rs : List A)
      → sets table (n * size_in layout) (table_in layout (r ∷ rs)) ≡ sets (sets table (n * size_in layout) (bytes_in layout r)) (suc n * size_in layout) (table_in layout rs)
  stored_first table n r rs =
      let q : suc n * size_in layout ≡ n * size_in layout + length (bytes_in layout r) = omega (arith, suc-mul n (size_in layout), length-bytes r) in
      rw q (sets-append (bytes_in layout r) (table_in layout rs) table (n * size_in layout))

  -- a record in front of others, stored after them
  pub stored_in_front : (table : List ℕ) {between after : List ℕ} (n : ℕ) (r : A) (rs : List A) → between ≡ sets table (suc n * size_in layout) (table_in layout rs)
      → after ≡ sets between (n * size_in layout) (bytes_in layout r) → after ≡ sets table (n * size_in layout) (table_in layout (r ∷ rs))
  stored_in_front table n r rs e f =
      let q : suc n * size_in layout ≡ n * size_in layout + length (bytes_in layout r) = omega (arith, suc-mul n (size_in layout), length-bytes r) in
      f ∙ rw (e, q) (sets-behind_first (bytes_in layout r) (table_in layout rs) table (n * size_in layout))

  -- a record after all others
  pub stored_last : (table : List ℕ) (rs : List A) (r : A) → sets (sets table 0 (table_in layout rs)) (length rs * size_in layout) (bytes_in layout r) ≡ sets table 0 (table_in layout (rs ++ (r ∷ [])))
  stored_last table rs r =
      let n : length rs * size_in layout ≡ 0 + length (table_in layout rs) = omega (arith, length-table rs) in
      let b : table_in layout (rs ++ (r ∷ [])) ≡ table_in layout rs ++ bytes_in layout r = table-append rs (r ∷ []) ∙ ap (λ (l : List ℕ). table_in layout rs ++ l) (append-nil (bytes_in layout r)) in
      rw (n, b) (sym (sets-append (table_in layout rs) (bytes_in layout r) table 0))
