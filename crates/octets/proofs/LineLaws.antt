-- CR and LF at a position. Assumes nothing.
use mathlib.Core.Path.{◌≡◌}
use mathlib.Core.Bool.{false}
use mathlib.Core.List.{List}
use Prim.Native.Nat.{ℕ, ◌+◌, ◌≤◌}
use borrow.Author.Tests.{eq-eqb, ne_eqb}
use lib.Dec.{eqb}
use lib.ListN.{length, get_or, get_or-eq_default}
use Rattle.octets.specs.Believed.Octets.{line_feed_byte, return_byte}
use Rattle.octets.specs.Believed.Text.{crlf_at}
use Rattle.octets.proofs.ChoiceLaws.{both_false}

module _ (text : List ℕ) (at : ℕ) where
  pub crlf_other : (get_or text at 0 ≡ return_byte → ⊥) → crlf_at text at ≡ false
  crlf_other n = rw (ne_eqb _ _ n)

  pub crlf_last : length text ≤ at + 1 → crlf_at text at ≡ false
  crlf_last h = rw (get_or-eq_default text 0 h) (both_false (eqb (get_or text at 0) return_byte))

  pub crlf_second : get_or text at 0 ≡ return_byte → crlf_at text at ≡ eqb (get_or text (at + 1) 0) line_feed_byte
  crlf_second e = rw (eq-eqb _ _ e)
