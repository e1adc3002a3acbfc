-- What a message holds from a position on, one law for each thing that a byte does. Assumes nothing.
use mathlib.Core.Path.{◌≡◌, ◌∙◌}
use mathlib.Core.Bool.{true, false}
use mathlib.Core.List.{List}
use Prim.Native.Nat.{ℕ, ◌+◌, ◌≤◌, ◌<◌}
use native.Mathlib.Numerals.{add-one}
use borrow.Author.Tests.{lt-ltb, le-ltb, eq-eqb, ne_eqb}
use lib.ListN.{length, drop, get_or, drop_of_length-le}
use lib.Seq.{drop-cons}
use Rattle.octets.specs.Believed.Classes.{is_white}
use Rattle.octets.specs.Believed.Numbers.{name_fault, byte_above_127}
use Rattle.octets.specs.Believed.Octets.{colon_byte}
use Rattle.header.specs.Believed.Fields.{field, ended, fault, State, line_start, in_name, in_body, before_line_feed, name_holds, name_starts_with, crlf, ends_body, at_line_start, at_name, at_body, move, at_end, follow, header_from, header_at}
use Rattle.records.specs.Believed.FieldRecords.{field_of}
use Rattle.header.proofs.ByteLaws.{first_byte}

module _ (message : List ℕ) where
  -- the message ends
  pub ends : (at : ℕ) (state : State) → length message ≤ at → header_at message at state ≡ at_end state at
  unfolding header_from
  ends at state h = rw (drop_of_length-le message h)

  module _ (at : ℕ) (h : at < length message) where
    -- a byte makes its move
    pub moves : (state : State)
        → header_at message at state ≡ follow (move state (drop at message) at) (λ next. header_at message (at + 1) next)
    unfolding header_from
    moves state = simp (add-one, drop-cons message at 0 h)

    -- at a line start
    pub empty_line : crlf (drop at message) ≡ true → header_at message at line_start ≡ ended
    unfolding at_line_start
    empty_line e = moves line_start ∙ rw e

    module _ (n : crlf (drop at message) ≡ false) where
      pub name_starts : name_starts_with (get_or message at 0) ≡ true → header_at message at line_start ≡ header_at message (at + 1) (in_name at (at + 1))
      unfolding at_line_start
      name_starts s = moves line_start ∙ rw (n, first_byte message at, s)

      pub no_name : name_starts_with (get_or message at 0) ≡ false → header_at message at line_start ≡ fault name_fault at
      unfolding at_line_start
      no_name s = moves line_start ∙ rw (n, first_byte message at, s)

    -- in a name
    module _ (s e : ℕ) where
      pub name_ends : get_or message at 0 ≡ colon_byte → header_at message at (in_name s e) ≡ header_at message (at + 1) (in_body s e (at + 1))
      unfolding at_name
      name_ends c = moves (in_name s e) ∙ simp (first_byte message at, eq-eqb _ _ c)

      module _ (n : get_or message at 0 ≡ colon_byte → ⊥) where
        pub name_fault_lem : name_holds (get_or message at 0) ≡ false → header_at message at (in_name s e) ≡ fault name_fault at
        unfolding at_name
        name_fault_lem i = moves (in_name s e) ∙ simp (first_byte message at, ne_eqb _ _ n, i)

        module _ (i : name_holds (get_or message at 0) ≡ true) where
          pub name_white : is_white (get_or message at 0) ≡ true → header_at message at (in_name s e) ≡ header_at message (at + 1) (in_name s e)
          unfolding at_name
          name_white w = moves (in_name s e) ∙ simp (first_byte message at, ne_eqb _ _ n, i, w)

          pub name_other : is_white (get_or message at 0) ≡ false → header_at message at (in_name s e) ≡ header_at message (at + 1) (in_name s (at + 1))
          unfolding at_name
          name_other w = moves (in_name s e) ∙ simp (first_byte message at, ne_eqb _ _ n, i, w)

    -- in a body
    module _ (s e b : ℕ) where
      pub body_fault : 127 < get_or message at 0 → header_at message at (in_body s e b) ≡ fault byte_above_127 at
      unfolding at_body
      body_fault k = moves (in_body s e b) ∙ simp (first_byte message at, lt-ltb _ _ k)

      module _ (k : get_or message at 0 ≤ 127) where
        pub body_goes : ends_body (drop at message) ≡ false → header_at message at (in_body s e b) ≡ header_at message (at + 1) (in_body s e b)
        unfolding at_body
        body_goes n = moves (in_body s e b) ∙ rw (first_byte message at, le-ltb _ _ k, n)

        pub body_ends : ends_body (drop at message) ≡ true
            → header_at message at (in_body s e b)
            ≡ field (field_of s e b at) (header_at message (at + 1) before_line_feed)
        unfolding at_body
        body_ends n = moves (in_body s e b) ∙ rw (first_byte message at, le-ltb _ _ k, n)
