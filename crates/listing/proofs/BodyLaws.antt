-- What is printed of a body, from what the readers answer. Assumes nothing.
use mathlib.Core.Path.{◌≡◌, refl, sym, ap, subst, ◌∙◌}
use mathlib.Core.Bool.{Bool, true, false}
use mathlib.Core.List.{List, [], ◌∷◌, ◌++◌}
use Prim.Native.Nat.{ℕ, ◌+◌, ◌*◌, ◌/◌, ◌≤◌}
use native.Mathlib.Omega.{arith}
use borrow.Author.Tests.{ltb-false}
use denote.Enum.Declared.{tag_of}
use types.Run.{OneOf, miss}
use lib.Dec.{ltb}
use lib.ListN.{length}
use lib.Seq.{sets}
use lib.IntN.{ℤ}
use Rattle.std.specs.Prelude.{Result, Ok, Err}
use Rattle.octets.specs.Believed.Numbers.{table_records, too_little_room}
use Rattle.octets.specs.Believed.Octets.{line_feed_byte}
use Rattle.octets.specs.Believed.Text.{bytes, part}
use Rattle.octets.specs.Ties.Writing.{WroteBy}
use Rattle.octets.proofs.Writes.{wrote_as, wrote_both, wrote_three}
use Rattle.octets.specs.declared.answers.Answer.{Answer}
use Rattle.octets.specs.declared.answers.Answer.TheVariants.{Accepted, Refused, NoRoom}
use Rattle.octets.specs.declared.answers.Fault.{Fault}
use Rattle.records.specs.Believed.AddressRecords.{address_record_size, no_record, table_bytes, record_in}
use Rattle.records.specs.Believed.FieldRecords.{Field}
use Rattle.header.specs.Believed.Names.{known_of, holds_addresses}
use Rattle.header.specs.declared.names.Known.{Known}
use Rattle.header.specs.declared.names.Known.TheVariants as known
use Rattle.header.specs.contracts.names.Known.{the_type}
use Rattle.scanner.specs.declared.Class.{Class}
use Rattle.grammar.specs.Believed.Grammar.{Forest}
use Rattle.grammar.specs.Believed.Records.{count, records}
use Rattle.grammar.proofs.Any.Records.{length-records}
use Rattle.grammar.proofs.Any.Positions.{ReadBack}
use Rattle.addresses.specs.Believed.Outcome.{Outcome, refusal, derived, outcome_by}
use Rattle.editions.specs.Believed.Outcome.{outcome_of}
use Rattle.editions.proofs.Judgements.{AnsweredBy, JudgedOf, refused_at, listed as list_of, judged_of, unchanged_733}
use Rattle.listing.specs.Believed.Lines.{signed, field_line, address_line, refused_line}
use Rattle.listing.specs.Believed.Listing.{each, listed, unless_refused, address_body, date_text, other_body, body, field_text}
use Rattle.listing.specs.Ties.Putting.{tabulate}
use Rattle.listing.proofs.TableLaws.{tabulated}

module _ (edition : ℕ) (message : List ℕ) (start end : ℕ) (table : List ℕ) (size : table_records * address_record_size ≡ length table) where
  -- what the reader's answer says of what is printed
  abbrev pub Printed : Answer → List ℕ → Type 0
  Printed (Accepted many) after =
      (many ≤ table_records) × ((rest : List ℕ) → each address_line (tabulate (record_in after) many 0) rest ≡ address_body edition message start end rest)
  Printed (Refused number position) after = (rest : List ℕ) → refused_line number position rest ≡ address_body edition message start end rest
  Printed (NoRoom needed) after = (rest : List ℕ) → refused_line too_little_room 0 rest ≡ address_body edition message start end rest

  abbrev PrintedOf : Outcome → Type 0
  PrintedOf o = Printed o.answer o.table

  abbrev text_of : Outcome → List ℕ
  text_of o = unless_refused o.answer o.table

  room_is : length table / address_record_size ≡ table_records
  room_is = rw (← size)

  module _ {N : Type 0} (k : Forest Class N) (back : ReadBack k) (answered : AnsweredBy edition message start end (λ A refuse derive. derive N k)) where
    -- the records in the table are those of the list
    records_in : count k ≤ table_records → tabulate (record_in (sets table 0 (table_bytes (records k)))) (count k) 0 ≡ records k
    records_in h =
        let n : count k ≡ length (records k) = sym (length-records k) in
        ap (λ m. tabulate (record_in (sets table 0 (table_bytes (records k)))) m 0) n
        ∙ tabulated (record_in (sets table 0 (table_bytes (records k)))) (records k) no_record 0
        (λ i l. let z : 0 + i ≡ i = omega arith in rw z (back table (omega (arith, size)) i (omega arith) (omega arith)))

    -- what is printed of a list
    of_list : (rest : List ℕ) (o : Outcome) → listed rest k ≡ o → text_of o ≡ address_body edition message start end rest
    of_list rest o e = ap text_of (sym (answered Outcome (refusal rest) (λ M j. listed rest j) ∙ e))

    in_room : (t : Bool) → ltb table_records (count k) ≡ t → PrintedOf (derived table k)
    in_room true e =
        let d : derived table k ≡ record { answer = NoRoom (count k); table = table } = rw (room_is, e) in
        subst (λ (o : Outcome). PrintedOf o) (sym d) (λ rest. of_list rest (record { answer = NoRoom (count k); table = rest }) (rw e))
    in_room false e =
        let d : derived table k ≡ record { answer = Accepted (count k); table = sets table 0 (table_bytes (records k)) } = rw (room_is, e) in
        let few : count k ≤ table_records = ltb-false table_records (count k) e in
        subst (λ (o : Outcome). PrintedOf o) (sym d)
        (few, λ rest. ap (λ l. each address_line l rest) (records_in few) ∙ of_list rest (record { answer = Accepted (count k); table = each address_line (records k) rest }) (rw e))

  by_case : JudgedOf edition message start end → PrintedOf (outcome_of edition message start end table)
  by_case (refused_at n p f) = subst (λ (o : Outcome). PrintedOf o) (sym (f Outcome (refusal table) (λ N k. derived table k))) (λ rest. ap text_of (sym (f Outcome (refusal rest) (λ N k. listed rest k))))
  by_case (list_of k back f) = subst (λ (o : Outcome). PrintedOf o) (sym (f Outcome (refusal table) (λ N j. derived table j))) (in_room k back f _ refl)

  pub printed : {r : Answer} {after : List ℕ} → r ≡ (outcome_of edition message start end table).answer → after ≡ (outcome_of edition message start end table).table → Printed r after
  printed e f = rw (e, f) (by_case (judged_of edition message start end))

-- in RFC 733 it is what the reader that takes no edition gives
pub body_733 : (message : List ℕ) (start end : ℕ) (rest : List ℕ) → address_body 733 message start end rest ≡ (let o = outcome_by (λ lent k. listed lent k) message start end rest in unless_refused o.answer o.table)
body_733 message start end rest = ap (λ (o : Outcome). unless_refused o.answer o.table) (unchanged_733 (refusal rest) (λ N k. listed rest k) message start end)

-- a date, and a body that is none
pub accepted_date : {store : List ℕ → ℕ → List ℕ → List ℕ} (s : ℤ) {r : Result ℤ Fault} {o p q z : List ℕ} {n a b c : ℕ} → r ≡ Ok s
    → WroteBy store (λ rest. bytes "date " ++ rest) o n p a → WroteBy store (signed s) p a q b → WroteBy store (λ rest. line_feed_byte ∷ rest) q b z c → WroteBy store (date_text r) o n z c
accepted_date s e w x y = rw e (wrote_three {f = λ rest. bytes "date " ++ rest} {g = signed s} {h = λ rest. line_feed_byte ∷ rest} w x y)

pub refused_date : {store : List ℕ → ℕ → List ℕ → List ℕ} {r : Result ℤ Fault} {f : Fault} {o p : List ℕ} {n a : ℕ} → r ≡ Err f → WroteBy store (refused_line f.number f.position) o n p a → WroteBy store (date_text r) o n p a
refused_date e w = rw e w

-- the lines of a body, by what its name holds
module _ (edition : ℕ) (k : Known) (message : List ℕ) (start end : ℕ) {store : List ℕ → ℕ → List ℕ → List ℕ} {o p : List ℕ} {n a : ℕ} where
  pub address_name : holds_addresses k ≡ true → WroteBy store (address_body edition message start end) o n p a → WroteBy store (body edition k message start end) o n p a
  address_name e w = wrote_as (λ rest. sym (rw e)) w

  pub no_address_name : holds_addresses k ≡ false → WroteBy store (other_body k message start end) o n p a → WroteBy store (body edition k message start end) o n p a
  no_address_name e w = wrote_as (λ rest. sym (rw e)) w

-- a name that is neither a date's nor an address list's gives no line
pub other_name : (k : Known) (message : List ℕ) (start end : ℕ) (rest : List ℕ) → OneOf (1 ∷ 2 ∷ 3 ∷ 4 ∷ 5 ∷ 6 ∷ []) (tag_of the_type k) → other_body k message start end rest ≡ rest
other_name known.Date message start end rest o = absurd (miss (1 ∷ 2 ∷ 3 ∷ 4 ∷ 5 ∷ 6 ∷ []) 0 tt o)
other_name known.From message start end rest o = refl
other_name known.ReplyTo message start end rest o = refl
other_name known.To message start end rest o = refl
other_name known.Cc message start end rest o = refl
other_name known.Bcc message start end rest o = refl
other_name known.Other message start end rest o = refl

-- a field's line, and then the lines of its body
pub field_text_lem : (edition : ℕ) (message : List ℕ) (f : Field) {k : Known} {store : List ℕ → ℕ → List ℕ → List ℕ} {o p q : List ℕ} {n a b : ℕ} → k ≡ known_of (part message f.name_start f.name_end)
    → WroteBy store (field_line f) o n p a → WroteBy store (body edition k message f.body_start f.body_end) p a q b → WroteBy store (field_text edition message f) o n q b
unfolding field_text
field_text_lem edition message f e w x = wrote_both {f = field_line f} w (rw e at x)
