-- In any edition: what a verdict decides, what two runs of a reader give, and that condition 3 says what the outcome says. Assumes nothing.
use mathlib.Core.Path.{◌≡◌, refl, sym, ap, ◌∙◌}
use mathlib.Core.List.{List}
use Prim.Native.Nat.{ℕ, ◌/◌, ◌≤◌, ◌<◌}
use native.Mathlib.Omega.{arith}
use borrow.Author.Tests.{lt-ltb, le-ltb}
use lib.ListN.{length, take}
use lib.Seq.{sets, length-take-le}
use Rattle.octets.specs.Believed.Numbers.{message_limit, level_limit, accepted as number-accepted, too_little_room}
use Rattle.octets.specs.Believed.Answers.{telling}
use Rattle.octets.specs.Believed.Stored.{room_for}
use Rattle.octets.specs.declared.answers.Answer.{Answer}
use Rattle.octets.specs.declared.answers.Answer.TheVariants.{Accepted, Refused, NoRoom}
use Rattle.scanner.specs.Believed.Symbols.{Symbol}
use Rattle.scanner.specs.Believed.Scanning.{scan_by}
use Rattle.scanner.specs.Believed.Answers.{fault_of}
use Rattle.scanner.specs.declared.Class.{Class}
use Rattle.scanner.proofs.BodyChecks.{in_order, unless_none, CleanBy}
use Rattle.grammar.specs.Believed.Grammar.{Forest}
use Rattle.grammar.specs.Believed.Language.{Verdict, accepted, refused}
use Rattle.grammar.specs.Believed.Records.{count, records}
use Rattle.grammar.specs.Executable.{Decides}
use Rattle.grammar.proofs.Any.Reader.{answer_accepts, answer_derives}
use Rattle.addresses.specs.Believed.Editions.{Edition}
use Rattle.octets.proofs.AnswerLaws.{answered}
use Rattle.records.specs.Believed.AddressRecords.{address_record_size, table_bytes}
use Rattle.addresses.specs.Believed.Editions.{symbols_in}
use Rattle.addresses.specs.Believed.Outcome.{Outcome, AnsweredBy, refusal, derived, by_verdict, decided, read_in, outcome_in}
use Rattle.addresses.specs.Believed.Condition3.{IsListIn, Settled, Condition3In}
use Rattle.addresses.specs.Ties.Whole.{IsListed, IsRefused, WholeIs, TwiceIs, Body}
use Rattle.grammar.specs.declared.Whole.{Whole}
use Rattle.grammar.specs.declared.Whole.TheVariants as whole
use Rattle.grammar.specs.declared.Whole.TheVariants.{Listed}

-- ---- two runs

module _ {N : Type 0} (verdict : List (Symbol Class) → Verdict Class (Forest Class N)) (classes text : List ℕ) {at : ℕ} (table : List ℕ) where
  pub twice_refused : {number-told place : ℕ} → IsRefused verdict classes text at number-told place → TwiceIs verdict classes text at table table (Refused number-told place)
  twice_refused s = record { answer_is = rw (s.verdict_is, s.number_is, s.place_is); table_is = rw s.verdict_is }

  pub twice_no_room : {dry after : List ℕ} {n : ℕ} → IsListed verdict classes text at dry after n → length table / address_record_size < n → TwiceIs verdict classes text at table table (NoRoom n)
  twice_no_room l h =
      let q : room_for address_record_size table < count l.derivation = rw (← l.count_is) h in
      record { answer_is = rw (l.verdict_is, lt-ltb (room_for address_record_size table) (count l.derivation) q, l.count_is); table_is = rw (l.verdict_is, lt-ltb (room_for address_record_size table) (count l.derivation) q) }

  -- a list that there is room for: the second run answers as the first did, and leaves its records
  pub twice_written : {dry half : List ℕ} {n : ℕ} (after : List ℕ) → IsListed verdict classes text at dry half n → n ≤ length table / address_record_size → (w : Whole) → WholeIs verdict classes text at table after w
      → TwiceIs verdict classes text at table after (Accepted n)
  twice_written after d h (Listed m) l =
      let e : accepted d.derivation ≡ accepted l.derivation = sym d.verdict_is ∙ l.verdict_is in
      let k : d.derivation ≡ l.derivation = cc in
      let q : count d.derivation ≤ room_for address_record_size table = rw (← d.count_is) h in
      record {
        answer_is = rw (d.verdict_is, le-ltb (room_for address_record_size table) (count d.derivation) q, d.count_is);
        table_is = l.stored ∙ rw (← k, d.verdict_is, le-ltb (room_for address_record_size table) (count d.derivation) q);
      }
  twice_written after d h (whole.Refused number-told place) s =
      let e : accepted d.derivation ≡ refused s.why s.rest = sym d.verdict_is ∙ s.verdict_is in
      absurd (let z : ◌≡◌ {A = ℕ} 0 1 = cc in omega arith)

-- ---- the outcome

module _ {N : Type 0} (edition : Edition N) (verdict : List (Symbol Class) → Verdict Class (Forest Class N)) (message : List ℕ) (start end : ℕ) (short : length message ≤ message_limit) (ordered : start ≤ end) (inside : end ≤ length message) where
  -- of a body without fault the verdict on its symbols decides
  pub verdict_decides : fault_of (scan_by edition.classes (take end message) start) ≡ Accepted 0 → {A : Type 0} (refuse : ℕ → ℕ → A) (derive : Forest Class N → A)
      → read_in edition verdict refuse derive message start end ≡ by_verdict refuse derive end (verdict (symbols_in edition message start end))
  verdict_decides f refuse derive = in_order refuse message start end _ short ordered inside ∙ unless_none refuse (scan_by edition.classes (take end message) start) _ f

  -- what is decided of its symbols is the outcome
  pub twice_outcome : fault_of (scan_by edition.classes (take end message) start) ≡ Accepted 0 → {table after : List ℕ} {r : Answer} → TwiceIs (λ xs. verdict (edition.taken xs)) edition.classes (take end message) start table after r
      → AnsweredBy (outcome_in edition verdict message start end table) r after
  twice_outcome f {table} x =
      let z = verdict (symbols_in edition message start end) in
      let e : decided (length (take end message)) table z ≡ outcome_in edition verdict message start end table =
      ap (λ (n : ℕ). decided n table z) (length-take-le end message inside) ∙ sym (verdict_decides f (refusal table) (derived table)) in
      answered (x.answer_is ∙ ap (λ (o : Outcome). o.answer) e) (x.table_is ∙ ap (λ (o : Outcome). o.table) e)

-- a clean body may be read
pub clean_text : {classes message : List ℕ} {start end : ℕ} → CleanBy classes message start end → Body classes (take end message) start
clean_text {message = message} {end = end} x =
    let n = length-take-le end message x.inside in
    record { inside = omega (arith, n, x.ordered); short = omega (arith, n, x.inside, x.short); faultless = record { none = x.faultless } }

-- ---- condition 3

module _ {N : Type 0} (edition : Edition N) (least : ℕ) (answer : ℕ → List (Symbol Class) → Verdict Class (Forest Class N)) (decides : Decides edition.grammar edition.list least answer) (below : least ≤ level_limit) where
  module _ (symbols : List (Symbol Class)) (end : ℕ) (table : List ℕ) where
    by_verdict_lem : (v : Verdict Class (Forest Class N)) → answer level_limit symbols ≡ v → Settled edition symbols end table (decided end table v).answer (decided end table v).table
    by_verdict_lem (accepted k) e =
        record {
          one = λ j j' d d'. decides.one j j' symbols d d';
          with_room = λ k' d h. let q = same k' d in (rw (le-ltb (room_for address_record_size table) (count k) (rw q h)) (ap (λ z. telling number-accepted 0 (count z)) q), rw (le-ltb (room_for address_record_size table) (count k) (rw q h)) (ap (λ z. sets table 0 (table_bytes (records z))) q));
          without_room = λ k' d h. let q = same k' d in (rw (lt-ltb (room_for address_record_size table) (count k) (rw q h)) (ap (λ z. telling too_little_room 0 (count z)) q), rw (lt-ltb (room_for address_record_size table) (count k) (rw q h)));
          no_list = λ f. let d = answer_derives edition.grammar edition.list least answer decides level_limit below {xs = symbols} e in absurd (f k (record { derived = d.0; within = d.1 }));
        }
      where
        same : (k' : Forest Class N) → IsListIn edition symbols k' → k ≡ k'
        same k' d = let f : accepted k ≡ accepted k' = sym e ∙ answer_accepts edition.grammar edition.list least answer decides level_limit below d.derived d.within in cc
    by_verdict_lem (refused why rest) e =
        record {
          one = λ j j' d d'. decides.one j j' symbols d d';
          with_room = λ k d h. absurd (never k d);
          without_room = λ k d h. absurd (never k d);
          no_list = λ f. (record { why = why; rest = rest; right = rw e at (decides.right level_limit below symbols); tells = refl }, refl);
        }
      where
        never : (k : Forest Class N) → IsListIn edition symbols k → ⊥
        never k d =
            let f : refused why rest ≡ accepted k = sym e ∙ answer_accepts edition.grammar edition.list least answer decides level_limit below d.derived d.within in
            let z : ◌≡◌ {A = ℕ} 0 1 = cc in
            omega arith

  -- what the outcome says, condition 3 says
  pub settles : (message : List ℕ) (start end : ℕ) (table : List ℕ) (r : Answer) (after : List ℕ)
      → AnsweredBy (outcome_in edition (answer level_limit) message start end table) r after → Condition3In edition message start end table r after
  settles message start end table r after a h k l n =
      rw (a.answer_is, a.bytes_are, verdict_decides edition (answer level_limit) message start end h k l n (refusal table) (derived table))
      (by_verdict_lem (symbols_in edition message start end) end table (answer level_limit (symbols_in edition message start end)) refl)
