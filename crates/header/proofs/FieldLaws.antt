-- The positions of a field are ordered and lie in the message, and fields ascend. Assumes nothing.
use mathlib.Core.Path.{◌≡◌, refl, sym, subst, subst⁻¹, ◌∙◌}
use mathlib.Core.Bool.{Bool, true, false}
use mathlib.Core.List.{List}
use Prim.Native.Nat.{ℕ, zero, suc, ◌+◌, ◌-◌, ◌≤◌, ◌<◌}
use native.Mathlib.Decide.{dec_lt}
use native.Mathlib.Omega.{arith}
use borrow.Author.Tests.{eqb-true, eqb-false}
use lib.Dec.{eqb}
use lib.ListN.{length, drop, get_or}
use Rattle.octets.specs.Believed.Classes.{is_white}
use Rattle.octets.specs.Believed.Octets.{colon_byte}
use Rattle.header.specs.Believed.Fields.{Header, field, ended, fault, fields_of, State, line_start, in_name, in_body, before_line_feed, name_holds, name_starts_with, crlf, ends_body, header_at, header_of}
use Rattle.records.specs.Believed.FieldRecords.{Field, no_field}
use Rattle.header.proofs.ByteLaws.{crlf_last, body_other}
use Rattle.header.proofs.HeaderLaws.{ends, moves, empty_line, name_starts, no_name, name_ends, name_fault_lem, name_white, name_other, body_fault, body_goes, body_ends}

-- the positions of a field ascend, and the CRLF after its body lies in the message
pub record Ordered (message : List ℕ) (f : Field) : Type 0 where
  pub named : f.name_start < f.name_end
  pub colon : f.name_end < f.body_start
  pub bodied : f.body_start ≤ f.body_end
  pub within : f.body_end + 2 ≤ length message

-- a field found at a line start: it starts there, and the header goes on after its CRLF
pub record Found (message : List ℕ) (start : ℕ) (f : Field) (rest : Header) : Type 0 where
  pub starts : f.name_start ≡ start
  pub ordered : Ordered message f
  pub goes_on : rest ≡ header_at message (f.body_end + 2) line_start

-- the first thing of a header, from a line start on
abbrev pub First : List ℕ → ℕ → Header → Type 0
First message start (field f rest) = Found message start f rest
First message start ended = Unit {0}
First message start (fault number position) = Unit {0}

-- what holds of a state at a position, whose field started at `start`
abbrev Fits : ℕ → ℕ → State → Type 0
Fits start at line_start = start ≡ at
Fits start at (in_name s e) = (s ≡ start) × (s < e) × (e ≤ at)
Fits start at (in_body s e b) = (s ≡ start) × (s < e) × (e < b) × (b ≤ at)
Fits start at before_line_feed = ⊥

cases {ℓ} : {A : Type ℓ} → (t : Bool) → (t ≡ true → A) → (t ≡ false → A) → A
cases true f g = f refl
cases false f g = g refl

false_true : false ≡ true → ⊥
false_true e = let z : ◌≡◌ {A = ℕ} 0 1 = cc in omega arith

module _ (message : List ℕ) where
  -- CRLF lies in the message
  crlf_within : (at : ℕ) → crlf (drop at message) ≡ true → at + 1 < length message
  crlf_within at e =
      elim (dec_lt (at + 1) (length message)) [
        | yes h ↦ h
        | no h ↦ absurd (false_true (sym (crlf_last message at (omega arith)) ∙ e))
      ]

  body_crlf : (at : ℕ) → ends_body (drop at message) ≡ true → crlf (drop at message) ≡ true
  body_crlf at e = cases (crlf (drop at message)) (λ t. t) (λ n. absurd (false_true (sym (body_other message at n) ∙ e)))

  -- after a body's end the next line starts
  next_line : (at : ℕ) → at + 1 < length message → header_at message (at + 1) before_line_feed ≡ header_at message (at + 2) line_start
  next_line at h =
      let two : at + 1 + 1 ≡ at + 2 = omega arith in
      moves message (at + 1) h before_line_feed ∙ rw two

  module _ (start : ℕ) where
    is : {h k : Header} → h ≡ k → First message start k → First message start h
    is e x = subst⁻¹ (λ (z : Header). First message start z) e x

    -- at the end of the message, and where `left` bytes are left
    last : (at : ℕ) (state : State) → length message ≤ at → First message start (header_at message at state)
    last at line_start h = is (ends message at line_start h) tt
    last at (in_name s e) h = is (ends message at (in_name s e) h) tt
    last at (in_body s e b) h = is (ends message at (in_body s e b) h) tt
    last at before_line_feed h = is (ends message at before_line_feed h) tt

    from : (left at : ℕ) (state : State) → length message ≡ at + left → Fits start at state → First message start (header_at message at state)
    from zero at state h fits = last at state (omega arith)
    from (suc left) at line_start h fits =
        cases (crlf (drop at message))
        (λ e. is (empty_line message at (omega arith) e) tt)
        (λ n.
        cases (name_starts_with (get_or message at 0))
        (λ s. is (name_starts message at (omega arith) n s) (from left (at + 1) (in_name at (at + 1)) (omega arith) (sym fits, omega arith, omega arith)))
        (λ s. is (no_name message at (omega arith) n s) tt))
    from (suc left) at (in_name s e) h fits =
        cases (eqb (get_or message at 0) colon_byte)
        (λ t.
        let c : get_or message at 0 ≡ colon_byte = eqb-true _ _ t in
        is (name_ends message at (omega arith) s e c)
        (from left (at + 1) (in_body s e (at + 1)) (omega arith) (fits.0, fits.1, omega arith, omega arith)))
        (λ t.
        let c : get_or message at 0 ≡ colon_byte → ⊥ = eqb-false _ _ t in
        cases (name_holds (get_or message at 0))
        (λ i.
        cases (is_white (get_or message at 0))
        (λ w. is (name_white message at (omega arith) s e c i w) (from left (at + 1) (in_name s e) (omega arith) (fits.0, fits.1, omega arith)))
        (λ w. is (name_other message at (omega arith) s e c i w) (from left (at + 1) (in_name s (at + 1)) (omega arith) (fits.0, omega arith, omega arith))))
        (λ i. is (name_fault_lem message at (omega arith) s e c i) tt))
    from (suc left) at (in_body s e b) h fits =
        elim (dec_lt 127 (get_or message at 0)) [
          | yes k ↦ is (body_fault message at (omega arith) s e b k) tt
          | no k ↦
              cases (ends_body (drop at message))
              (λ n.
              let w : at + 1 < length message = crlf_within at (body_crlf at n) in
              is (body_ends message at (omega arith) s e b (omega arith) n)
              (record { starts = fits.0; ordered = record { named = fits.1; colon = fits.2; bodied = fits.3; within = omega arith }; goes_on = next_line at w }))
              (λ n. is (body_goes message at (omega arith) s e b (omega arith) n) (from left (at + 1) (in_body s e b) (omega arith) (fits.0, fits.1, fits.2, omega arith)))
        ]
    from (suc left) at before_line_feed h fits = absurd fits

  -- the first field at a line start
  pub first : (start : ℕ) → start ≤ length message → First message start (header_at message start line_start)
  first start h = from start (length message - start) start line_start (omega arith) refl

-- the fields of a header ascend from a line start on
abbrev pub Ascend : List ℕ → ℕ → Header → Type 0
Ascend message start (field f rest) = Found message start f rest × Ascend message (f.body_end + 2) rest
Ascend message start ended = start ≤ length message
Ascend message start (fault number position) = start ≤ length message

module _ (message : List ℕ) where
  ascend : (h : Header) (start : ℕ) → start ≤ length message → header_at message start line_start ≡ h → Ascend message start h
  ascend (field f rest) start l e =
      let x : Found message start f rest = subst (λ (z : Header). First message start z) e (first message start l) in
      (x, ascend rest (f.body_end + 2) x.ordered.within (sym x.goes_on))
  ascend ended start l e = l
  ascend (fault number position) start l e = l

  -- the fields of a message ascend
  pub fields_ascend : Ascend message 0 (header_of message)
  fields_ascend = ascend (header_of message) 0 (omega arith) refl

  at_index : (h : Header) (start : ℕ) → Ascend message start h → (n : ℕ) → n < length (fields_of h) → Ordered message (get_or (fields_of h) n no_field)
  at_index (field f rest) start (x, more) zero l = x.ordered
  at_index (field f rest) start (x, more) (suc n) l = at_index rest (f.body_end + 2) more n (omega arith)
  at_index ended start x n l = absurd (omega arith)
  at_index (fault number position) start x n l = absurd (omega arith)

  -- the positions of each are ordered and lie in the message
  pub fields_ordered : (n : ℕ) → n < length (fields_of (header_of message)) → Ordered message (get_or (fields_of (header_of message)) n no_field)
  fields_ordered n l = at_index (header_of message) 0 fields_ascend n l
