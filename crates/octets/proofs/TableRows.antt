-- A table of rows of numbers, one after the other: what stands in each column of each row, by one test over the whole. Assumes nothing.
use Prim.Native.Nat.{ℕ, ◌+◌, ◌*◌, ◌/◌, ◌%◌, ◌<◌}
use native.Mathlib.Nat.{add-zero, mul-add-div_right, mul-add-mod_self_right, div-eq_of_lt, mod-eq_of_lt}
use mathlib.Core.Path.{◌≡◌, ap, ◌∙◌}
use mathlib.Core.Bool.{Bool}
use mathlib.Core.List.{List}
use lib.Dec.{T, eqb, eqb→eq}
use lib.ListN.{length, get_or}
use Rattle.octets.specs.Believed.Tests.{every}
use Rattle.octets.proofs.Tables.{at}

module _ (width : ℕ) (cell : ℕ → ℕ → ℕ) where
  -- the number at an index is that of its row and column
  abbrev right : ℕ → ℕ → Bool
  right i n = eqb n (cell (i / width) (i % width))

  pub cell_at : 0 < width → (table : List ℕ) → T (every right 0 table) → (row column : ℕ) → column < width → row * width + column < length table → get_or table (row * width + column) 0 ≡ cell row column
  cell_at w table t row column l h =
      let p : (row * width + column) / width ≡ row = mul-add-div_right w row column ∙ ap (λ n. row + n) (div-eq_of_lt l) ∙ add-zero row in
      let q : (row * width + column) % width ≡ column = mul-add-mod_self_right row width column ∙ mod-eq_of_lt l in
      eqb→eq (get_or table (row * width + column) 0) _ (at right table 0 t (row * width + column) h) ∙ rw (p, q)
