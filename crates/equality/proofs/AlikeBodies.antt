-- Two bodies that scan alike are answered alike, by the reader and by the writer. Assumes nothing.
use Prim.Native.Nat.{ℕ, ◌≤◌}
use native.Mathlib.Omega.{arith}
use mathlib.Core.Path.{◌≡◌, refl, ap}
use mathlib.Core.Bool.{Bool, true, false}
use mathlib.Core.List.{List, []}
use lib.Dec.{ltb}
use lib.ListN.{length, take}
use lib.Seq.{sets}
use Rattle.octets.specs.Believed.Choice.{pick}
use Rattle.octets.specs.Believed.Numbers.{message_limit, level_limit}
use Rattle.octets.specs.Believed.Stored.{room_for}
use Rattle.octets.specs.declared.answers.Answer.TheVariants.{Accepted, Refused, NoRoom}
use Rattle.records.specs.Believed.AddressRecords.{address_record_size, table_bytes}
use Rattle.scanner.specs.Believed.Scanning.{Scanned, next, scan, symbols_of}
use Rattle.scanner.specs.Believed.Answers.{unless_fault, fault_of}
use Rattle.grammar.specs.Believed.Language.{Verdict, accepted, refused, number, start_of}
use Rattle.grammar.specs.Believed.Records.{count, records}
use Rattle.grammar.specs.Believed.Rfc733.{Derivation}
use Rattle.grammar.specs.Executable.Machine733.{answer}
use Rattle.grammar.proofs.Rfc733.Condition3.{answer_derives}
use Rattle.grammar.specs.Executable.Trees733.{Class, Sym}
use Rattle.addresses.specs.Believed.Condition3.{IsList}
use Rattle.addresses.specs.Believed.Editions.{body_symbols}
use Rattle.addresses.specs.Believed.Outcome.{Outcome, refusal, derived, outcome}
use Rattle.addresses.proofs.Judgements.{ListBody, RefusedBody, faulty_read, refused_read, listed_read}
use Rattle.plain.specs.Believed.Meaning.{meaning}
use Rattle.plain.specs.Believed.PlainText.{plain_text, addresses_text}
use Rattle.plain.specs.Believed.Written.{written, plain_outcome}
use Rattle.equality.specs.Believed.Exchange.{SameAnswer}
use Rattle.equality.proofs.Pairs.{no_symbol, one_symbol}
use Rattle.equality.proofs.Shifts.{AlikeSymbols, alike_keeps, AlikeScans, both_ended, both_next, both_fault}
use Rattle.equality.proofs.Relabels.{derived_alike, same_lists}
use Rattle.equality.proofs.Verdicts.{refused_alike}

-- ---- scans that are alike

alike_symbols : {r s : Scanned} → AlikeScans r s → AlikeSymbols (symbols_of r) (symbols_of s)
unfolding symbols_of
alike_symbols both_ended = no_symbol
alike_symbols (both_next x a) = one_symbol x (alike_symbols a)
alike_symbols (both_fault n p q) = no_symbol

-- neither has a fault, or both have one of the same number
data AlikeFaults (r s : Scanned) : Type 0 where
  faultless : fault_of r ≡ Accepted 0 → fault_of s ≡ Accepted 0 → AlikeFaults r s
  faulty : (n p q : ℕ) → Refused n p ≡ fault_of r → Refused n q ≡ fault_of s → AlikeFaults r s

behind_symbols : {x y : Sym} {r s : Scanned} → AlikeFaults r s → AlikeFaults (next x r) (next y s)
unfolding unless_fault
behind_symbols (faultless e f) = faultless e f
behind_symbols (faulty n p q e f) = faulty n p q e f

alike_faults : {r s : Scanned} → AlikeScans r s → AlikeFaults r s
unfolding unless_fault
alike_faults both_ended = faultless refl refl
alike_faults (both_next x a) = behind_symbols (alike_faults a)
alike_faults (both_fault n p q) = faulty n p q refl refl

faultless_by : {r s : Scanned} → AlikeFaults r s → fault_of r ≡ Accepted 0 → fault_of s ≡ Accepted 0
faultless_by (faultless e f) h = f
faultless_by (faulty n p q e f) h = absurd (let z : ◌≡◌ {A = ℕ} 0 1 = cc in omega arith)

pub faultless_too : {r s : Scanned} → AlikeScans r s → fault_of r ≡ Accepted 0 → fault_of s ≡ Accepted 0
faultless_too a h = faultless_by (alike_faults a) h

-- ---- two bodies that scan alike are answered alike

-- the body of a message passes the checks 1 and 13
pub record Checked (message : List ℕ) (start end : ℕ) : Type 0 where
  pub short : length message ≤ message_limit
  pub ordered : start ≤ end
  pub inside : end ≤ length message

-- both are refused with one number, or both are lists of the same addresses
pub data Alike (message : List ℕ) (start end : ℕ) (other : List ℕ) (start' end' : ℕ) : Type 1 where
  both_refused : (n p q : ℕ) → RefusedBody message start end n p → RefusedBody other start' end' n q → Alike message start end other start' end'
  both_listed : (k j : Derivation) → ListBody message start end k → ListBody other start' end' j → meaning j ≡ meaning k → count j ≡ count k → Alike message start end other start' end'

module _ {message other : List ℕ} {start end start' end' : ℕ} (c : Checked message start end) (d : Checked other start' end') (a : AlikeScans (scan (take end message) start) (scan (take end' other) start')) where
  -- a list is a list again
  pub list_again : fault_of (scan (take end' other) start') ≡ Accepted 0 → {k : Derivation} → IsList (body_symbols message start end) k
      → (j : Derivation) × ListBody other start' end' j × (meaning j ≡ meaning k) × (count j ≡ count k)
  list_again f l =
      let r = derived_alike alike_keeps l.derived (alike_symbols a) in
      let again : IsList (body_symbols other start' end') r.again = record { derived = r.derived; within = omega (arith, r.deep, l.within) } in
      (r.again, record { clean = record { short = d.short; ordered = d.ordered; inside = d.inside; faultless = f }; list = again }, same_lists r.alike, r.counted)

  by_verdict_lem : fault_of (scan (take end message) start) ≡ Accepted 0 → fault_of (scan (take end' other) start') ≡ Accepted 0 → (v : Verdict Class Derivation) → answer level_limit (body_symbols message start end) ≡ v → Alike message start end other start' end'
  by_verdict_lem f g (accepted k) e =
      let (p, q) = answer_derives level_limit {xs = body_symbols message start end} e in
      let l : IsList (body_symbols message start end) k = record { derived = p; within = q } in
      let (j, b, m, n) = list_again g l in
      both_listed k j (record { clean = record { short = c.short; ordered = c.ordered; inside = c.inside; faultless = f }; list = l }) b m n
  by_verdict_lem f g (refused why rest) e =
      let (place, there, e') = refused_alike alike_keeps level_limit (alike_symbols a) why rest e in
      both_refused (number why) (start_of end rest) (start_of end' place) (refused_read message start end c.short c.ordered c.inside f e) (refused_read other start' end' d.short d.ordered d.inside g e')

  by_faults : AlikeFaults (scan (take end message) start) (scan (take end' other) start') → Alike message start end other start' end'
  by_faults (faultless f g) = by_verdict_lem f g _ refl
  by_faults (faulty n p q f g) = both_refused n p q (faulty_read message start end c.short c.ordered c.inside f) (faulty_read other start' end' d.short d.ordered d.inside g)

  pub alike : Alike message start end other start' end'
  alike = by_faults (alike_faults a)

-- ---- the answers

-- of a list, in a lent table
answer_of : (test : Bool) (n : ℕ) (table u v : List ℕ)
    → SameAnswer (pick test (record { answer = NoRoom n; table = table }) (record { answer = Accepted n; table = u })) (pick test (record { answer = NoRoom n; table = table }) (record { answer = Accepted n; table = v }))
answer_of true n table u v = record { number = refl; count = refl }
answer_of false n table u v = record { number = refl; count = refl }

pub same_read : {message other : List ℕ} {start end start' end' : ℕ} → Alike message start end other start' end' → (table : List ℕ) → SameAnswer (outcome message start end table) (outcome other start' end' table)
same_read (both_refused n p q f g) table = rw (f Outcome (refusal table) (derived table), g Outcome (refusal table) (derived table)) (record { number = refl; count = refl })
same_read (both_listed k j b b' m n) table =
    rw (listed_read b (refusal table) (derived table), listed_read b' (refusal table) (derived table), n) (answer_of (ltb (room_for address_record_size table) (count k)) (count k) table (sets table 0 (table_bytes (records k))) (sets table 0 (table_bytes (records j))))

-- the plain text of the same addresses
pub same_plain : (k j : Derivation) → meaning j ≡ meaning k → plain_text j ≡ plain_text k
same_plain k j m = ap (λ l. addresses_text l []) m

pub same_written : {message other : List ℕ} {start end start' end' : ℕ} → Alike message start end other start' end' → (lent : List ℕ) → SameAnswer (plain_outcome message start end lent) (plain_outcome other start' end' lent)
same_written (both_refused n p q f g) lent = rw (f Outcome (refusal lent) (written lent), g Outcome (refusal lent) (written lent)) (record { number = refl; count = refl })
same_written (both_listed k j b b' m n) lent = rw (listed_read b (refusal lent) (written lent), listed_read b' (refusal lent) (written lent), same_plain k j m) (record { number = refl; count = refl })

pub same_text : {message other : List ℕ} {start end start' end' : ℕ} → Alike message start end other start' end' → (lent : List ℕ) → (plain_outcome message start end lent).table ≡ (plain_outcome other start' end' lent).table
same_text (both_refused n p q f g) lent = rw (f Outcome (refusal lent) (written lent), g Outcome (refusal lent) (written lent))
same_text (both_listed k j b b' m n) lent = rw (listed_read b (refusal lent) (written lent), listed_read b' (refusal lent) (written lent), same_plain k j m)
