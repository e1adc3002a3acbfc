-- The bytes of a record: how many they are, and that numbers which fit their parts are read back from them. Assumes nothing.
use mathlib.Core.Path.{◌≡◌, refl, sym, ap, ap₂, ◌∙◌}
use mathlib.Core.List.{List, [], ◌∷◌, ◌++◌, append_assoc}
use Prim.Native.Nat.{ℕ, zero, suc, ◌+◌, ◌^◌, ◌≤◌, ◌<◌}
use native.Mathlib.Omega.{arith}
use lib.ListN.{length, length-append, get_or-append}
use lib.Seq.{get_or-append-add}
use Rattle.octets.specs.Believed.Stored.{bytes_at, number_from}
use Rattle.octets.proofs.StoredLaws.{length-bytes_of, number_bytes_of}
use Rattle.records.specs.Believed.Layout.{Part, byte, number, width_of, part_bytes, size_of, bytes_by, numbers_from}

-- ---- how many bytes

pub length_part : (part : Part) (x : ℕ) → length (part_bytes part x) ≡ width_of part
length_part byte x = refl
length_part (number width) x = length-bytes_of width x

pub length_by : (parts : List Part) (xs : List ℕ) → length (bytes_by parts xs) ≡ size_of parts
length_by [] xs = refl
length_by (part ∷ parts) [] = omega (arith, length-append (part_bytes part 0) (bytes_by parts []), length_part part 0, length_by parts [])
length_by (part ∷ parts) (x ∷ xs) = omega (arith, length-append (part_bytes part x) (bytes_by parts xs), length_part part x, length_by parts xs)

-- ---- read back

-- of two runs, one after the other, the bytes of the first, and those of the second
pub bytes_first : (width : ℕ) (run rest : List ℕ) (k : ℕ) → k + width ≤ length run → bytes_at width (run ++ rest) k ≡ bytes_at width run k
bytes_first zero run rest k h = refl
bytes_first (suc width) run rest k h =
    ap₂ (λ b bytes. b ∷ bytes) (get_or-append run rest 0 k (omega arith)) (bytes_first width run rest (k + 1) (omega arith))

pub bytes_second : (width : ℕ) (run rest : List ℕ) (k : ℕ) → bytes_at width (run ++ rest) (length run + k) ≡ bytes_at width rest k
bytes_second zero run rest k = refl
bytes_second (suc width) run rest k =
    let e : length run + k + 1 ≡ length run + (k + 1) = omega arith in
    ap₂ (λ b bytes. b ∷ bytes) (get_or-append-add run rest k 0) (rw e (bytes_second width run rest (k + 1)))

-- the bytes of a run, all of them, after others
bytes_all : (front run rest : List ℕ) → bytes_at (length run) (front ++ (run ++ rest)) (length front) ≡ run
bytes_all front [] rest = refl
bytes_all front (b ∷ run) rest =
    let z : length front + 0 ≡ length front = omega arith in
    let n : length (front ++ (b ∷ [])) ≡ length front + 1 = length-append front (b ∷ []) in
    ap₂ (λ c bytes. c ∷ bytes) (rw z at (get_or-append-add front (b ∷ (run ++ rest)) 0 0))
    (rw (n, append_assoc) at (bytes_all (front ++ (b ∷ [])) run rest))

-- a part holds a number: a byte as it is, so many bytes what is below their power
abbrev pub Holds : Part → ℕ → Type 0
Holds byte x = Unit {0}
Holds (number width) x = x < 256 ^ width

-- .. and parts numbers, one each
abbrev pub Fit : List Part → List ℕ → Type 0
Fit [] [] = Unit {0}
Fit [] (x ∷ xs) = ⊥
Fit (part ∷ parts) [] = ⊥
Fit (part ∷ parts) (x ∷ xs) = Holds part x × Fit parts xs

part_number : (part : Part) (x : ℕ) → Holds part x → number_from 0 (part_bytes part x) ≡ x
part_number byte x h = omega arith
part_number (number width) x h = number_bytes_of width x h

module _ (table run : List ℕ) (at : ℕ) (same : (width k : ℕ) → k + width ≤ length run → bytes_at width table (at + k) ≡ bytes_at width run k) where
  -- from an offset on, where the bytes there are those of the parts
  back_from : (front : List ℕ) (parts : List Part) (xs : List ℕ) → Fit parts xs → run ≡ front ++ bytes_by parts xs → (offset : ℕ) → length front ≡ offset → numbers_from parts offset table at ≡ xs
  back_from front [] [] f e offset n = refl
  back_from front [] (x ∷ xs) f e offset n = absurd f
  back_from front (part ∷ parts) [] f e offset n = absurd f
  back_from front (part ∷ parts) (x ∷ xs) f e offset n =
      let w : length (part_bytes part x) ≡ width_of part = length_part part x in
      let more : length (front ++ part_bytes part x) ≡ offset + width_of part = omega (arith, length-append front (part_bytes part x)) in
      let all : length run ≡ offset + width_of part + length (bytes_by parts xs) =
      ap length e ∙ omega (arith, length-append front (part_bytes part x ++ bytes_by parts xs), length-append (part_bytes part x) (bytes_by parts xs)) in
      let here : bytes_at (width_of part) table (at + offset) ≡ part_bytes part x =
      same (width_of part) offset (omega arith) ∙ ap (λ l. bytes_at (width_of part) l offset) e ∙ rw (w, n) at (bytes_all front (part_bytes part x) (bytes_by parts xs)) in
      ap₂ (λ y ys. y ∷ ys) (ap (number_from 0) here ∙ part_number part x f.0)
      (back_from (front ++ part_bytes part x) parts xs f.1 (e ∙ sym (append_assoc front (part_bytes part x) (bytes_by parts xs))) (offset + width_of part) more)

  -- the numbers of a record whose bytes stand at a place of a table
  pub numbers_back : (parts : List Part) (xs : List ℕ) → Fit parts xs → run ≡ bytes_by parts xs → numbers_from parts 0 table at ≡ xs
  numbers_back parts xs f e = back_from [] parts xs f e 0 refl
