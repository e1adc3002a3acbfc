-- What is printed of a message, from the table of its fields. Assumes nothing.
use mathlib.Core.Path.{◌≡◌, sym, ap, ◌∙◌}
use mathlib.Core.List.{List, []}
use Prim.Native.Nat.{ℕ, ◌+◌, ◌*◌}
use native.Mathlib.Omega.{arith}
use lib.ListN.{length, drop}
use lib.Seq.{sets}
use Rattle.octets.specs.Believed.Numbers.{table_records}
use Rattle.octets.specs.Ties.Writing.{WroteBy, in_window}
use Rattle.octets.proofs.Writes.{nothing_more, window_all}
use Rattle.octets.specs.declared.answers.Answer.{Answer}
use Rattle.octets.specs.declared.answers.Answer.TheVariants.{Accepted, Refused, NoRoom}
use Rattle.records.specs.Believed.FieldRecords.{no_field, field_record_size, field_in}
use Rattle.header.specs.Believed.Fields.{fields_of, header_of}
use Rattle.header.specs.Believed.Split.{answer_for, split_answer, split_table}
use Rattle.header.proofs.FieldLaws.{fields_ordered}
use Rattle.header.proofs.ReadBack.{accept}
use Rattle.listing.specs.Ties.Putting.{tabulate, Holds, Fits}
use Rattle.listing.proofs.TableLaws.{tabulated}

-- a text that is written from its start on
pub whole : (from : ℕ) {f : List ℕ → List ℕ} {o p : List ℕ} {r : ℕ} {text : List ℕ} → WroteBy (in_window from) f o 0 p r → f [] ≡ text
    → (r ≡ length text) × (p ≡ sets o 0 (drop from text))
whole from {f} {o} {p} {r} w e = rw (← e) (omega (arith, w.count []), sym (nothing_more from p r) ∙ sym (w.same []) ∙ window_all from o (f []))

module _ (message table : List ℕ) (size : table_records * field_record_size ≡ length table) where
  -- a table after splitting holds the fields
  held : (n : ℕ) → split_answer message table ≡ Accepted n → Holds message (split_table message table) n
  held n e =
      let a = accept message table n e in
      record {
        few = omega (arith, a.fits, size);
        named = λ k l.
            let o = fields_ordered message k (omega (arith, a.count)) in
            rw (a.are k l) (record { order = omega (arith, o.named); within = omega (arith, o.colon, o.bodied, o.within) });
        are = ap (λ m. tabulate (field_in (split_table message table)) m 0) a.count
            ∙ tabulated (field_in (split_table message table)) (fields_of (header_of message)) no_field 0 (λ k l. let z : 0 + k ≡ k = omega arith in rw z (a.are k (omega (arith, a.count))));
      }

  by_answer : (r : Answer) → split_answer message table ≡ r → Fits message (split_table message table) r
  by_answer (Accepted n) e = held n e
  by_answer (Refused number position) e = tt
  by_answer (NoRoom needed) e = tt

  pub fits : {r : Answer} {after : List ℕ} → r ≡ split_answer message table → after ≡ split_table message table → Fits message after r
  fits {r} e f = rw f (by_answer r (sym e))

  -- the answer is the same in any table of this size
  pub same_answer : {r : Answer} → r ≡ split_answer message table → r ≡ answer_for table_records message
  same_answer e = e ∙ rw (← size)
