-- The digits that `io::decimal` gives are those of the definition. Assumes nothing.
use mathlib.Core.Path.{◌≡◌, sym, ◌∙◌}
use mathlib.Core.List.{List, [], ◌∷◌, ◌++◌, append_assoc}
use Prim.Native.Nat.{ℕ, zero, suc, ◌+◌, ◌*◌, ◌-◌, ◌/◌, ◌%◌, ◌^◌, ◌≤◌, ◌<◌}
use native.Mathlib.Decide.{dec_lt}
use native.Mathlib.Numerals.{unary_clauses}
use native.Mathlib.Omega.{arith}
use borrow.Author.Tests.{lt-ltb, le-ltb}
use Rattle.io.specs.Digits.{hex_digit_ascii, last_digits, IsDigitCount}
use Rattle.listing.specs.Believed.Lines.{digits_of}

ten_pow : (j : ℕ) → 10 ^ suc j ≡ 10 ^ j * 10
ten_pow j = simp unary_clauses

pow_positive : (j : ℕ) → 1 ≤ 10 ^ j
pow_positive zero = omega arith
pow_positive (suc j) = omega (arith, ten_pow j, pow_positive j)

pow_more : (i : ℕ) → 100000000000000000000 ≤ 10 ^ (i + 20)
pow_more zero = omega arith
pow_more (suc i) = let e : suc i + 20 ≡ suc (i + 20) = omega arith in rw (e, ten_pow (i + 20)) (omega (arith, pow_more i))

-- a number of 64 bits has at most 20 digits
pub few_digits : (n k : ℕ) → n < 18446744073709551616 → IsDigitCount 10 1 n k → k ≤ 20
few_digits n k h (a, b, c) =
    elim (dec_lt 20 k) [
      | yes l ↦ let e : k - 1 ≡ k - 21 + 20 = omega arith in absurd (omega (arith, pow_more (k - 21), rw e at (c (omega arith))))
      | no l ↦ omega arith
    ]

glyph_digit : (n : ℕ) → hex_digit_ascii (n % 10) ≡ 48 + n % 10
glyph_digit n = let h : n % 10 < 10 = omega arith in rw (lt-ltb (n % 10) 10 h)

-- one digit less of a number is its digits without the last
shorter : (j n : ℕ) → 10 ≤ n → IsDigitCount 10 1 n (suc j) → IsDigitCount 10 1 (n / 10) j
shorter zero n h (a, b, c) = absurd (omega (arith, ten_pow 0))
shorter (suc j) n h (a, b, c) =
    let e : suc (suc j) - 1 ≡ suc j = omega arith in
    let d : suc j - 1 ≡ j = omega arith in
    (omega arith, omega (arith, ten_pow (suc j)), λ l. rw d (omega (arith, ten_pow j, rw e at (c (omega arith)))))

pub digits_are : (most k n : ℕ) (rest : List ℕ) → k ≤ most → IsDigitCount 10 1 n k → last_digits 10 k n ++ rest ≡ digits_of most n rest
unfolding digits_of
digits_are most zero n rest l f = absurd (omega (arith, f.0))
digits_are zero (suc k) n rest l f = absurd (omega arith)
digits_are (suc most) (suc k) n rest l f =
    elim (dec_lt n 10) [
      | yes h ↦ one k n rest h f ∙ sym (rw (lt-ltb n 10 h))
      | no h ↦
          append_assoc (last_digits 10 k (n / 10)) (hex_digit_ascii (n % 10) ∷ []) rest
          ∙ digits_are most k (n / 10) (hex_digit_ascii (n % 10) ∷ rest) (omega arith) (shorter k n (omega arith) f)
          ∙ rw (le-ltb n 10 (omega arith), glyph_digit n)
    ]
  where
    one : (k n : ℕ) (rest : List ℕ) → n < 10 → IsDigitCount 10 1 n (suc k) → last_digits 10 (suc k) n ++ rest ≡ (48 + n) ∷ rest
    one zero n rest h f = let e : n % 10 ≡ n = omega arith in rw (glyph_digit n, e)
    one (suc k) n rest h f =
        let e : suc (suc k) - 1 ≡ suc k = omega arith in
        absurd (omega (arith, ten_pow k, pow_positive k, rw e at (f.2 (omega arith))))
