-- Splitting a message goes field by field: the header, answered and stored, is what is left of it. Assumes nothing.
use mathlib.Core.Path.{◌≡◌, refl, sym, ap, ◌∙◌}
use mathlib.Core.Bool.{true, false}
use mathlib.Core.List.{List}
use Rattle.std.specs.Prelude.{Result, Ok, Err}
use Prim.Native.Nat.{ℕ, ◌+◌, ◌*◌, ◌/◌, ◌≤◌, ◌<◌}
use native.Mathlib.Decide.{dec_lt}
use native.Mathlib.Numerals.{add-one}
use native.Mathlib.Omega.{arith}
use borrow.Author.Tests.{lt-ltb, le-ltb}
use lib.Dec.{ltb}
use lib.ListN.{length, take}
use lib.Seq.{sets, length-sets}
use Rattle.octets.specs.Believed.Choice.{pick}
use Rattle.octets.specs.Believed.Numbers.{message_limit, message_too_long}
use Rattle.octets.specs.Believed.Stored.{room_for}
use Rattle.octets.specs.Believed.Answers.{Answered}
use Rattle.octets.proofs.AnswerLaws.{answered}
use Rattle.octets.proofs.Parts.{staged}
use Rattle.octets.specs.declared.answers.Answer.{Answer}
use Rattle.octets.specs.declared.answers.Answer.TheVariants.{Accepted, Refused, NoRoom}
use Rattle.records.specs.Believed.FieldRecords.{field_of, field_layout, field_record_size, field_bytes, field_table}
use Rattle.records.proofs.TableLaws.{stored_first, length-table}
use Rattle.header.specs.Believed.Fields.{Header, field, ended, fault, fields_of, line_start, header_at, header_of}
use Rattle.header.specs.Believed.Split.{answer_in, answer_for, split_answer, table_after, split_table}
use Rattle.header.specs.Ties.Steps.{count_in}
use Rattle.records.specs.declared.field.FieldRecord.{FieldRecord}
use Rattle.octets.specs.declared.answers.Fault.{Fault}
use Rattle.header.proofs.StepLaws.{Gave}

-- what is left at a position, after `count` fields
pub record Left (message lent table : List ℕ) (at count : ℕ) : Type 0 where
  pub within : at ≤ length message
  pub few : count ≤ at
  pub same_length : length table ≡ length lent
  pub counts : count_in 0 (header_of message) ≡ count_in count (header_at message at line_start)
  pub stored : sets lent 0 (field_table (fields_of (header_of message))) ≡ sets table (count * field_record_size) (field_table (fields_of (header_at message at line_start)))

-- the fields are counted and stored
pub record Done (message lent : List ℕ) (r : Result ℕ Fault) (table : List ℕ) : Type 0 where
  pub many : r ≡ count_in 0 (header_of message)
  pub stored : table ≡ sets lent 0 (field_table (fields_of (header_of message)))

pub at_start : (message lent : List ℕ) → Left message lent lent 0 0
at_start message lent = record { within = omega arith; few = omega arith; same_length = refl; counts = refl; stored = refl }

module _ {message lent table : List ℕ} {at count : ℕ} (left : Left message lent table at count) where
  -- a field is stored
  pub after_field : {f : FieldRecord} {next : List ℕ} → Gave message at f (header_at message at line_start)
      → next ≡ sets table (count * field_record_size) (field_bytes (field_of f.name.start f.name.end f.body.start f.body.end)) → Left message lent next (f.body.end + 2) (count + 1)
  unfolding count_in
  after_field {f} gave e =
      record {
        within = gave.within;
        few = omega arith;
        same_length = ap length e ∙ simp length-sets left.same_length;
        counts = left.counts ∙ ap (λ (h : Header). count_in count h) gave.is;
        stored =
            left.stored
            ∙ rw (gave.is, add-one count) (stored_first field_layout table count (field_of f.name.start f.name.end f.body.start f.body.end) (fields_of (header_at message (f.body.end + 2) line_start)) ∙ rw (sym e));
      }

  -- nothing more is stored at the header's end and at a fault
  pub at_ended : header_at message at line_start ≡ ended → Done message lent (Ok count) table
  unfolding count_in
  at_ended e = record { many = sym (left.counts ∙ rw e); stored = sym (left.stored ∙ rw e) }

  pub at_fault : {e : Fault} → header_at message at line_start ≡ fault e.number e.position → Done message lent (Err e) table
  unfolding count_in
  at_fault e = record { many = sym (left.counts ∙ rw e); stored = sym (left.stored ∙ rw e) }

-- what is answered where `room` records fit, from the count or the fault
abbrev pub answer_by : ℕ → Result ℕ Fault → Answer
answer_by room (Ok count) = pick (ltb room count) (NoRoom count) (Accepted count)
answer_by room (Err e) = Refused e.number e.position

answer_counts : (room count : ℕ) (h : Header) → answer_in room count h ≡ answer_by room (count_in count h)
unfolding answer_in count_in
answer_counts room count (field f rest) = answer_counts room (count + 1) rest
answer_counts room count ended = refl
answer_counts room count (fault number position) = refl

-- an accepted answer counts the fields, and they fit
pub counted : (room count n : ℕ) (h : Header) → answer_in room count h ≡ Accepted n → (n ≡ count + length (fields_of h)) × (n ≤ room)
unfolding answer_in
counted room count n (field f rest) e = let (c, fits) = counted room (count + 1) n rest e in (omega arith, fits)
counted room count n ended e =
    elim (dec_lt room count) [
      | yes h ↦ absurd (let t : ltb room count ≡ true = lt-ltb room count h in let z : ◌≡◌ {A = ℕ} 0 1 = cc in omega arith)
      | no h ↦
          let t : ltb room count ≡ false = le-ltb room count (omega arith) in
          let c : count ≡ n = cc in
          (omega arith, omega arith)
    ]
counted room count n (fault number position) e = absurd (let z : ◌≡◌ {A = ℕ} 0 1 = cc in omega arith)

-- the answer of splitting, and the table afterwards
abbrev pub Split : List ℕ → List ℕ → Answer → List ℕ → Type 0
Split message table r after = Answered (split_answer message table) (split_table message table) r after

module _ (message table : List ℕ) where
  settled : (r : Answer) → split_answer message table ≡ r → Split message table r (table_after r message table)
  settled r e = answered (sym e) (rw e)

  pub too_long : message_limit < length message → Split message table (Refused message_too_long message_limit) table
  unfolding answer_for
  too_long h = settled (Refused message_too_long message_limit) (rw (lt-ltb _ _ h))

  module _ (h : length message ≤ message_limit) {r : Result ℕ Fault} (e : r ≡ count_in 0 (header_of message)) where
    within_limit : split_answer message table ≡ answer_by (room_for field_record_size table) r
    unfolding answer_for
    within_limit = rw (le-ltb _ _ h, e) (answer_counts (room_for field_record_size table) 0 (header_of message))

    pub refused : {x : Fault} → r ≡ Err x → Split message table (Refused x.number x.position) table
    refused {x} i = settled (Refused x.number x.position) (within_limit ∙ rw i)

    module _ {n : ℕ} (i : r ≡ Ok n) where
      pub no_room : length table / field_record_size < n → Split message table (NoRoom n) table
      no_room less = settled (NoRoom n) (within_limit ∙ rw (i, lt-ltb _ _ less))

      module _ (fits : n ≤ length table / field_record_size) where
        accepted : split_answer message table ≡ Accepted n
        accepted = within_limit ∙ rw (i, le-ltb _ _ fits)

        -- accepted by the first run, and stored by the second
        pub stored_again : {after : List ℕ} → after ≡ sets table 0 (field_table (fields_of (header_of message))) → Split message table (Accepted n) after
        stored_again same = let s = settled (Accepted n) accepted in answered s.answer_is (same ∙ s.bytes_are)

        -- accepted by the first run, and copied from where it stored
        pub copied : (room : List ℕ) {front after : List ℕ} → n * field_record_size ≤ length room → front ≡ sets room 0 (field_table (fields_of (header_of message)))
            → after ≡ sets table 0 (take (n * field_record_size) front) → Split message table (Accepted n) after
        copied room large first second =
            let fs = fields_of (header_of message) in
            let c = counted (room_for field_record_size table) 0 n (header_of message) (answer_counts _ 0 (header_of message) ∙ rw (sym e, i, le-ltb _ _ fits)) in
            let l : n * field_record_size ≡ length (field_table fs) = omega (arith, length-table field_layout fs) in
            stored_again (second ∙ rw (first, l) (staged table room (field_table fs) (omega arith)))
