-- What the address reader answers and leaves in the lent table, in document 01's order of checks: 1, 13, the faults of scanning, 8, 9 or 10, then 11.
-- The verdict is that of the executable layer, the only right one by `Decides`; `Condition3` says the same over the grammar alone.
use Rattle.std.specs.Prelude.{ℕ, List, ltb, take}
use Rattle.std.proofs.lemmas.List.Edits.{sets}
use Rattle.octets.specs.Believed.Choice.{pick}
use Rattle.octets.specs.Believed.Answers.{Answered}
use Rattle.octets.specs.Believed.Numbers.{level_limit}
use Rattle.octets.specs.Believed.Stored.{room_for}
use Rattle.octets.specs.declared.answers.Answer.{Answer}
use Rattle.octets.specs.declared.answers.Answer.TheVariants.{Accepted, Refused, NoRoom}
use Rattle.records.specs.Believed.AddressRecords.{address_record_size, table_bytes}
use Rattle.scanner.specs.Believed.Symbols.{Symbol}
use Rattle.scanner.specs.Believed.Scanning.{scan_by}
use Rattle.scanner.specs.Believed.Answers.{body_checked, unless_fault}
use Rattle.scanner.specs.declared.Class.{Class}
use Rattle.grammar.specs.Believed.Grammar.{Forest}
use Rattle.grammar.specs.Believed.Language.{Verdict, accepted, refused, number, start_of}
use Rattle.grammar.specs.Believed.Records.{count, records}
use Rattle.grammar.specs.Believed.Rfc733.{Derivation}
use Rattle.grammar.specs.Executable.Machine733.{answer}
use Rattle.addresses.specs.Believed.Editions.{Edition, edition733, symbols_in}

-- an answer, and the lent bytes afterwards
pub record Outcome : Type 0 where
  pub answer : Answer
  pub table : List ℕ

-- an answer and the lent bytes afterwards are those of an outcome
abbrev pub AnsweredBy : Outcome → Answer → List ℕ → Type 0
AnsweredBy o r after = Answered o.answer o.table r after

-- a refusal leaves the lent bytes as they were
abbrev pub refusal : List ℕ → ℕ → ℕ → Outcome
refusal table number position = record { answer = Refused number position; table = table }

-- a derivation: its records at the front of the table, or 11 with their count where there is too little room
abbrev pub derived : {N : Type 0} → List ℕ → Forest Class N → Outcome
derived table k =
    pick (ltb (room_for address_record_size table) (count k)) (record { answer = NoRoom (count k); table = table })
    (record { answer = Accepted (count k); table = sets table 0 (table_bytes (records k)) })

-- a verdict on a body with this end: what is answered of a derivation, or the refusal
abbrev pub by_verdict : {N A : Type 0} → (ℕ → ℕ → A) → (Forest Class N → A) → ℕ → Verdict Class (Forest Class N) → A
by_verdict refuse derive end (accepted k) = derive k
by_verdict refuse derive end (refused why rest) = refuse (number why) (start_of end rest)

-- .. where its records are written
abbrev pub decided : {N : Type 0} → ℕ → List ℕ → Verdict Class (Forest Class N) → Outcome
decided end table verdict = by_verdict (refusal table) (derived table) end verdict

-- ---- in any edition, by a verdict on the symbols

-- what is answered for any message and positions, of a derivation or of a refusal
abbrev pub read_in : {N A : Type 0} → Edition N → (List (Symbol Class) → Verdict Class (Forest Class N)) → (ℕ → ℕ → A) → (Forest Class N → A) → List ℕ → ℕ → ℕ → A
read_in edition verdict refuse derive message start end =
    body_checked refuse message start end
    (unless_fault refuse (scan_by edition.classes (take end message) start) (by_verdict refuse derive end (verdict (symbols_in edition message start end))))

-- the outcome for any message, positions and table
abbrev pub outcome_in : {N : Type 0} → Edition N → (List (Symbol Class) → Verdict Class (Forest Class N)) → List ℕ → ℕ → ℕ → List ℕ → Outcome
outcome_in edition verdict message start end table = read_in edition verdict (refusal table) (derived table) message start end

-- ---- in RFC 733

-- what is answered of a list of at most so many levels or of a refusal
abbrev pub read_within : {A : Type 0} → ℕ → (ℕ → ℕ → A) → (Derivation → A) → List ℕ → ℕ → ℕ → A
read_within limit refuse derive message start end = read_in edition733 (answer limit) refuse derive message start end

-- .. of at most 64 levels
abbrev pub body_read : {A : Type 0} → (ℕ → ℕ → A) → (Derivation → A) → List ℕ → ℕ → ℕ → A
body_read refuse derive message start end = read_within level_limit refuse derive message start end

-- the outcome for any message, positions and lent bytes, where this is written of a derivation
abbrev pub outcome_by : (List ℕ → Derivation → Outcome) → List ℕ → ℕ → ℕ → List ℕ → Outcome
outcome_by written message start end lent = body_read (refusal lent) (written lent) message start end

-- the outcome for any message, positions and table
abbrev pub outcome : List ℕ → ℕ → ℕ → List ℕ → Outcome
outcome message start end table = outcome_by derived message start end table
