-- What finding one field, and passing the bytes of a body, tells of the header. Assumes nothing.
use mathlib.Core.Path.{◌≡◌, refl, ◌∙◌}
use mathlib.Core.Bool.{true, false}
use mathlib.Core.List.{List}
use Rattle.std.specs.Prelude.{Some, None, Ok, Err}
use Rattle.octets.specs.Believed.Answers.{fault as fault_at}
use Prim.Native.Nat.{ℕ, ◌+◌, ◌≤◌, ◌<◌}
use native.Mathlib.Omega.{arith}
use lib.Dec.{leb}
use borrow.Author.Tests.{leb-true}
use lib.ListN.{length, drop, get_or}
use Rattle.records.specs.Believed.FieldRecords.{field_of}
use Rattle.header.specs.Believed.Fields.{Header, field, ended, fault, line_start, ends_body, header_at}
use Rattle.header.specs.Ties.Steps.{record_of, first_of, plain, GoesOn}
use Rattle.records.specs.declared.field.FieldRecord.{FieldRecord}
use Rattle.octets.specs.declared.answers.Fault.{Fault}
use Rattle.octets.proofs.ChoiceLaws.{both_parts}
use Rattle.header.proofs.ByteLaws.{crlf_other, body_other}
use Rattle.header.proofs.HeaderLaws.{body_goes}
use Rattle.header.proofs.FieldLaws.{First, first}

-- a field was found
pub record Gave (message : List ℕ) (at : ℕ) (f : FieldRecord) (h : Header) : Type 0 where
  pub is : h ≡ field (field_of f.name.start f.name.end f.body.start f.body.end) (header_at message (f.body.end + 2) line_start)
  pub past : at < f.body.end
  pub within : f.body.end + 2 ≤ length message

module _ (message : List ℕ) (at : ℕ) where
  gave_of : (f : FieldRecord) (h : Header) → First message at h → Ok (Some f) ≡ first_of h → Gave message at f h
  unfolding first_of
  gave_of f (field g rest) x e =
      let p : f ≡ record_of g = cc in
      rw p (record { is = rw x.goes_on; past = omega arith; within = omega arith })
  gave_of f ended x e = absurd (let z : ◌≡◌ {A = ℕ} 0 1 = cc in omega arith)
  gave_of f (fault n p) x e = absurd (let z : ◌≡◌ {A = ℕ} 0 1 = cc in omega arith)

  pub gave : {f : FieldRecord} → at ≤ length message → Ok (Some f) ≡ first_of (header_at message at line_start)
      → Gave message at f (header_at message at line_start)
  gave l e = gave_of _ (header_at message at line_start) (first message at l) e

-- the header's end was found
pub gave_end : (h : Header) → Ok None ≡ first_of h → h ≡ ended
unfolding first_of
gave_end (field f rest) e = absurd (let z : ◌≡◌ {A = ℕ} 0 1 = cc in omega arith)
gave_end ended e = refl
gave_end (fault n p) e = absurd (let z : ◌≡◌ {A = ℕ} 0 1 = cc in omega arith)

-- a fault was found
pub gave_fault : (h : Header) {e : Fault} → Err e ≡ first_of h → h ≡ fault e.number e.position
unfolding first_of
gave_fault (field f rest) e = absurd (let z : ◌≡◌ {A = ℕ} 0 1 = cc in omega arith)
gave_fault ended e = absurd (let z : ◌≡◌ {A = ℕ} 0 1 = cc in omega arith)
gave_fault (fault m q) {e = x} e = let p : x ≡ fault_at m q = cc in rw p

-- ---- a body that goes on

-- no byte is passed
pub goes_nowhere : (message : List ℕ) (at : ℕ) → at ≤ length message → GoesOn message at at
goes_nowhere message at h = record { from = omega arith; within = h; same = λ name end start. refl }

-- a byte is passed that is no fault and does not end the body
pub goes_past : (message : List ℕ) (at : ℕ) → at < length message → get_or message at 0 ≤ 127 → ends_body (drop at message) ≡ false → GoesOn message at (at + 1)
goes_past message at h high n =
    record { from = omega arith; within = omega arith; same = λ name end start. body_goes message at h name end start high n }

-- a plain byte is passed
pub goes_plain : (message : List ℕ) (at : ℕ) → at < length message → 14 ≤ get_or message at 0 → get_or message at 0 ≤ 127 → GoesOn message at (at + 1)
goes_plain message at h low high =
    goes_past message at h high (body_other message at (crlf_other message at (λ e. omega arith)))

-- bytes are passed, and then others
pub goes_both : {message : List ℕ} {at p q r : ℕ} → GoesOn message at p → GoesOn message p q → q ≡ r → GoesOn message at r
goes_both first second e =
    record {
      from = omega (arith, first.from, second.from);
      within = rw e at second.within;
      same = λ name end start. first.same name end start ∙ rw e at (second.same name end start);
    }

-- after others a plain byte is passed
pub goes_one : {message : List ℕ} {at p q : ℕ} → GoesOn message at p → p < length message → plain (get_or message p 0) ≡ true → p + 1 ≡ q → GoesOn message at q
goes_one {message} {p = p} before h e q =
    let b = get_or message p 0 in
    let two = both_parts (leb 14 b) (leb b 127) e in
    goes_both before (goes_plain message p h (leb-true 14 b two.0) (leb-true b 127 two.1)) q
