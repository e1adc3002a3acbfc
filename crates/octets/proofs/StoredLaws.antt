-- A number that is stored is read back, over any width. Assumes nothing.
use mathlib.Core.Path.{◌≡◌, refl, ◌∙◌}
use mathlib.Core.List.{List, [], ◌∷◌, ◌++◌}
use Prim.Native.Nat.{ℕ, zero, suc, ◌+◌, ◌*◌, ◌/◌, ◌%◌, ◌^◌, ◌≤◌, ◌<◌}
use native.Mathlib.Nat.{div-add-mod', div-lt_iff_lt-mul, pow-suc}
use native.Mathlib.Numerals.{add-one}
use native.Mathlib.Omega.{arith}
use lib.Dec.{lit<}
use lib.ListN.{length, take, drop, length-append, get_or-eq_default}
use lib.Seq.{sets, length-sets, drop-cons}
use Rattle.octets.proofs.Parts.{part-sets}
use Rattle.octets.specs.Believed.Stored.{bytes_of, bytes_at, number_from, number_at}

-- as many bytes as the width says
pub length-bytes_of : (width x : ℕ) → length (bytes_of width x) ≡ width
length-bytes_of zero x = refl
length-bytes_of (suc width) x = simp length-append (omega (arith, length-bytes_of width (x / 256)))

-- the last byte counts one
pub number_last : (high : ℕ) (bytes : List ℕ) (b : ℕ) → number_from high (bytes ++ (b ∷ [])) ≡ number_from high bytes * 256 + b
number_last high [] b = refl
number_last high (a ∷ bytes) b = number_last (high * 256 + a) bytes b

-- the bytes of a number hold it, if they are enough
pub number_bytes_of : (width x : ℕ) → x < 256 ^ width → number_from 0 (bytes_of width x) ≡ x
number_bytes_of zero x h = omega arith
number_bytes_of (suc width) x h =
    let k : x < 256 ^ width * 256 = rw (← pow-suc) h in
    let q : x / 256 < 256 ^ width = (div-lt_iff_lt-mul {k = 256} {y = 256 ^ width} (lit< tt)).1 k in
    let i : number_from 0 (bytes_of width (x / 256)) ≡ x / 256 = number_bytes_of width (x / 256) q in
    number_last 0 (bytes_of width (x / 256)) (x % 256) ∙ rw i (div-add-mod' x 256)

-- within the table the bytes at a place are a part of it
pub bytes_at_part : (width : ℕ) (table : List ℕ) (at : ℕ) → at + width ≤ length table → bytes_at width table at ≡ take width (drop at table)
bytes_at_part zero table at h = refl
bytes_at_part (suc width) table at h =
    rw (drop-cons table at 0 (omega arith), bytes_at_part width table (at + 1) (omega arith), add-one)

-- what is stored at a place stands there
pub bytes_stored : (bytes table : List ℕ) (at : ℕ) → at + length bytes ≤ length table → bytes_at (length bytes) (sets table at bytes) at ≡ bytes
bytes_stored bytes table at h =
    bytes_at_part (length bytes) (sets table at bytes) at (rw length-sets h) ∙ part-sets bytes table at h

-- a number that is stored is read back
pub number_stored : (width : ℕ) (table : List ℕ) (at x : ℕ) → at + width ≤ length table → x < 256 ^ width
    → number_at width (sets table at (bytes_of width x)) at ≡ x
number_stored width table at x h k =
    let n : length (bytes_of width x) ≡ width = length-bytes_of width x in
    let b : bytes_at width (sets table at (bytes_of width x)) at ≡ bytes_of width x = rw n at (bytes_stored (bytes_of width x) table at (rw n h)) in
    rw b (number_bytes_of width x k)

-- past the end of a table stand zeros
pub number_out : (width : ℕ) (table : List ℕ) (at : ℕ) → length table ≤ at → number_at width table at ≡ 0
number_out zero table at h = refl
number_out (suc width) table at h = rw (get_or-eq_default {A = ℕ} table 0 {n = at} h) (number_out width table (at + 1) (omega arith))
