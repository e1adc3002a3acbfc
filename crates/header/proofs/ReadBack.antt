-- The field records of a table, read back, are the positions of the fields. Assumes nothing.
use mathlib.Core.Path.{◌≡◌}
use mathlib.Core.Bool.{true}
use mathlib.Core.List.{List}
use Prim.Native.Nat.{ℕ, ◌*◌, ◌/◌, ◌≤◌, ◌<◌}
use native.Mathlib.Decide.{dec_lt}
use native.Mathlib.Omega.{arith}
use borrow.Author.Tests.{lt-ltb, le-ltb}
use lib.Dec.{ltb}
use lib.ListN.{length, get_or}
use lib.Seq.{sets}
use Rattle.octets.specs.Believed.Numbers.{message_limit}
use Rattle.octets.specs.Believed.Stored.{room_for}
use Rattle.octets.specs.declared.answers.Answer.TheVariants.{Accepted}
use Rattle.records.specs.Believed.FieldRecords.{no_field, field_record_size, field_table, field_in}
use Rattle.records.proofs.ReadBack.{field_back}
use Rattle.header.specs.Believed.Fields.{fields_of, header_of}
use Rattle.header.specs.Believed.Split.{answer_in, answer_for, split_answer, split_table}
use Rattle.header.proofs.FieldLaws.{Ordered, fields_ordered}
use Rattle.header.proofs.SplitLaws.{counted}

module _ (message : List ℕ) (limited : length message ≤ message_limit) where
  -- each field is read back from a table with room for all
  pub fields_back : (table : List ℕ) → length (fields_of (header_of message)) * field_record_size ≤ length table
      → (i : ℕ) → i < length (fields_of (header_of message))
      → field_in (sets table 0 (field_table (fields_of (header_of message)))) i ≡ get_or (fields_of (header_of message)) i no_field
  fields_back table room i l =
      let o : Ordered message (get_or (fields_of (header_of message)) i no_field) = fields_ordered message i l in
      field_back (fields_of (header_of message)) table room i l
      (record { name_start_lem = omega arith; name_end_lem = omega arith; body_start = omega arith; body_end = omega arith })

-- an accepted message: the count is the number of its fields, and each is read back from the table
pub record Accept (message table : List ℕ) (n : ℕ) : Type 0 where
  pub limited : length message ≤ message_limit
  pub count : n ≡ length (fields_of (header_of message))
  pub fits : n ≤ length table / field_record_size
  pub are : (i : ℕ) → i < n → field_in (split_table message table) i ≡ get_or (fields_of (header_of message)) i no_field

module _ (message table : List ℕ) (n : ℕ) (e : split_answer message table ≡ Accepted n) where
  within_limit : length message ≤ message_limit
  unfolding answer_for
  within_limit =
      elim (dec_lt message_limit (length message)) [
        | yes h ↦
            absurd (let t : ltb message_limit (length message) ≡ true = lt-ltb _ _ h in let z : ◌≡◌ {A = ℕ} 0 1 = cc in omega arith)
        | no h ↦ omega arith
      ]

  answered : answer_in (room_for field_record_size table) 0 (header_of message) ≡ Accepted n
  unfolding answer_for
  answered = rw (le-ltb message_limit (length message) within_limit) at e

  pub accept : Accept message table n
  accept =
      let (c, fits) = counted (room_for field_record_size table) 0 n (header_of message) answered in
      record {
        limited = within_limit;
        count = omega arith;
        fits = fits;
        are = λ i l. rw e (fields_back message within_limit table (omega arith) i (omega arith));
      }
