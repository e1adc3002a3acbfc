-- The rule of the classes by byte range, carried from the test over the whole of a table to each entry. Assumes nothing.
use native.Mathlib.Omega.{arith}
use Prim.Native.Nat.{ℕ, ◌<◌}
use mathlib.Core.Path.{◌≡◌}
use mathlib.Core.List.{List}
use lib.Dec.{T, eqb, eqb→eq}
use lib.ListN.{length, get_or}
use Rattle.octets.specs.Believed.Tests.{every}
use Rattle.octets.specs.Believed.Classes.{class_of, is_class_of, by_range}
use Rattle.octets.proofs.Tables.{both_left, both_right, at}

pub entry : (table : List ℕ) → T (by_range table) → (b : ℕ) → b < 256 → get_or table b 0 ≡ class_of b
entry table t b h =
    let n : length table ≡ 256 = eqb→eq (length table) 256 (both_left (eqb (length table) 256) (every is_class_of 0 table) t) in
    eqb→eq (get_or table b 0) (class_of b) (at is_class_of table 0 (both_right (eqb (length table) 256) (every is_class_of 0 table) t) b (omega arith))
