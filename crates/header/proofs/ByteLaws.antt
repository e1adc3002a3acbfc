-- Where CRLF and a body's end stand, from tests of single bytes. Assumes nothing.
use mathlib.Core.Path.{◌≡◌, ◌∙◌}
use mathlib.Core.Bool.{false}
use mathlib.Core.List.{List}
use Prim.Native.Nat.{ℕ, ◌+◌, ◌≤◌}
use native.Mathlib.Nat.{add-zero}
use lib.ListN.{length, drop, get_or}
use lib.Seq.{get_or-drop}
use Rattle.octets.specs.Believed.Octets.{return_byte}
use Rattle.octets.specs.Believed.Text.{crlf_at}
use Rattle.octets.proofs.LineLaws as line
use Rattle.header.specs.Believed.Fields.{crlf, ends_body}

module _ (message : List ℕ) (at : ℕ) where
  -- the first byte from a position on is the one there
  pub first_byte : get_or (drop at message) 0 0 ≡ get_or message at 0
  first_byte = rw (get_or-drop, add-zero)

  pub two_bytes : crlf (drop at message) ≡ crlf_at message at
  unfolding crlf
  two_bytes = simp (get_or-drop, add-zero)

  -- CRLF at a position: CR there, and LF after it
  pub crlf_other : (get_or message at 0 ≡ return_byte → ⊥) → crlf (drop at message) ≡ false
  crlf_other n = two_bytes ∙ line.crlf_other message at n

  pub crlf_last : length message ≤ at + 1 → crlf (drop at message) ≡ false
  crlf_last h = two_bytes ∙ line.crlf_last message at h

  -- a body's end at a position: CRLF, and no white space after it
  pub body_other : crlf (drop at message) ≡ false → ends_body (drop at message) ≡ false
  unfolding ends_body
  body_other n = rw n
