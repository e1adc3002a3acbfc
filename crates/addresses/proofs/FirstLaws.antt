-- A body is read first, and only a refusal looks for its first fault. Assumes nothing.
use mathlib.Core.Path.{◌≡◌, refl, sym, ap, ◌∙◌}
use mathlib.Core.List.{List, []}
use Prim.Native.Nat.{ℕ, ◌*◌, ◌/◌, ◌≤◌, ◌<◌}
use native.Mathlib.Omega.{arith}
use lib.ListN.{length, take}
use lib.Seq.{sets}
use Rattle.octets.specs.Believed.Numbers.{no_list_goes_on, level_limit}
use Rattle.std.specs.Prelude.{Result, Ok, Err}
use Rattle.addresses.specs.declared.Refusal.{Refusal}
use Rattle.octets.specs.declared.answers.Answer.{Answer}
use Rattle.octets.specs.declared.answers.Answer.TheVariants.{Accepted, Refused, NoRoom}
use Rattle.octets.proofs.Parts.{staged}
use Rattle.records.specs.Believed.AddressRecords.{address_layout, address_record_size, table_bytes}
use Rattle.records.proofs.TableLaws.{length-table}
use Rattle.grammar.specs.Believed.Records.{records}
use Rattle.grammar.proofs.Any.Records.{length-records}
use Rattle.scanner.specs.Believed.Scanning.{scan_by}
use Rattle.scanner.specs.Believed.Answers.{unless_fault}
use Rattle.scanner.specs.Ties.Cursors.{next_from, apart_in, next_in}
use Rattle.scanner.specs.Ties.Steps.{Faultless}
use Rattle.scanner.specs.declared.Next.TheVariants.{Ended, Fault}
use Rattle.scanner.specs.declared.cursor.Cursor.{Cursor}
use Rattle.scanner.specs.declared.cursor.Ahead.{Ahead}
use Rattle.scanner.specs.declared.cursor.Ahead.TheVariants.{Symbol, End, Faulty}
use Rattle.scanner.proofs.BodyChecks.{unless_refused, unless_none}
use Rattle.grammar.specs.Executable.Machine733.{answer}
use Rattle.grammar.specs.declared.Whole.{Whole}
use Rattle.grammar.specs.declared.Whole.TheVariants as whole
use Rattle.grammar.specs.declared.Whole.TheVariants.{Listed}
use Rattle.addresses.specs.declared.Walk.{Walk}
use Rattle.addresses.specs.Ties.Steps.{number_told, place_told, coming, symbols_ahead, fault_from, fault_ahead, Onward, ListReads, ListIs}
use Rattle.addresses.specs.Ties.Whole.{BodyRead, IsRefused, WholeIs, TwiceIs, ListedClean, WholeFirst, FaultFirst}
use Rattle.addresses.proofs.CursorSteps.{found_in}
use Rattle.addresses.proofs.AnyEdition.{twice_refused, twice_no_room, twice_written}
use Rattle.addresses.proofs.WholeLaws.{outermost, verdict_listed, verdict_stops, verdict_closed, whole_listed, whole_stops, whole_closed}

-- no symbol is left, and no fault
ended_in : (cursor : Cursor) → cursor.ahead ≡ End → next_in cursor ≡ Ended
unfolding next_in
ended_in cursor e = ap (λ (a : Ahead). next_from a cursor.start cursor.end cursor.length (apart_in cursor)) e

faulty_in : (cursor : Cursor) {n : ℕ} → cursor.ahead ≡ Faulty n → next_in cursor ≡ Fault n cursor.start
unfolding next_in
faulty_in cursor e = ap (λ (a : Ahead). next_from a cursor.start cursor.end cursor.length (apart_in cursor)) e

never : {n p m : ℕ} → Refused n p ≡ Accepted m → ⊥
never e = let z : ◌≡◌ {A = ℕ} 0 1 = cc in omega arith

module _ (classes text : List ℕ) (limit at : ℕ) where
  -- ---- a list of at most so many levels

  -- what is told of the list of a body
  abbrev pub BodyIs : List ℕ → List ℕ → Result Unit Refusal → Walk → Type 0
  BodyIs table after r walk = ListReads classes text at (outermost limit) table after r walk × Onward classes text (fault_from classes text at) r walk

  -- a walk that begins a body
  pub begun : (before : Walk) → before.cursor.end ≡ at → before.free ≡ 0 → (table after : List ℕ) (r : Result Unit Refusal) (walk : Walk) → ListIs classes text before record { left = limit; parent = 0 } table after r walk → BodyIs table after r walk
  begun before e f table after r walk x = rw (e, f) at x

  pub body_stops : {table after : List ℕ} (why : Refusal) (walk : Walk) → BodyIs table after (Err why) walk → BodyRead classes text limit at table after (whole.Refused (number_told why) (place_told (length text) why walk))
  body_stops why walk l = record { whole = λ e f. whole_stops classes text (rw e at l.0); within = record { clean = λ f. rw (verdict_stops classes text limit at l.0) refl; faulty = λ n p q. refl } }

  module _ {table after : List ℕ} (walk : Walk) (l : BodyIs table after (Ok tt) walk) where
    -- it reads to the end
    pub body_end : walk.cursor.ahead ≡ End → BodyRead classes text limit at table after (Listed walk.free)
    body_end e =
        let clean : Faultless classes text at = record { none = l.1 ∙ ap (fault_ahead classes text) (ended_in walk.cursor e) } in
        let nothing : symbols_ahead classes text (coming walk) ≡ [] = rw (ended_in walk.cursor e) refl in
        record {
          whole = λ m. record { listed = whole_listed classes text (coming walk) (rw m at l.0.read) nothing; faultless = clean };
          within = record { clean = λ f. rw (verdict_listed classes text limit at (coming walk) l.0.read nothing) refl; faulty = λ n p q. absurd (never (q ∙ clean.none)) };
        }

    -- .. or not
    body_from : (a : Ahead) → walk.cursor.ahead ≡ a → (walk.cursor.ahead ≡ End → ⊥) → BodyRead classes text limit at table after (whole.Refused no_list_goes_on walk.cursor.start)
    body_from (Symbol class) e o =
        record { whole = λ m f. whole_closed classes text (rw (m, found_in walk.cursor e) at l.0.read); within = record { clean = λ f. rw (verdict_closed classes text limit at (rw (found_in walk.cursor e) at l.0.read)) refl; faulty = λ n p q. refl } }
    body_from End e o = absurd (o e)
    body_from (Faulty number) e o =
        let z : Faultless classes text at → ⊥ = λ f. never (sym (l.1 ∙ ap (fault_ahead classes text) (faulty_in walk.cursor e)) ∙ f.none) in
        record { whole = λ m f. absurd (z f); within = record { clean = λ f. absurd (z f); faulty = λ n p q. refl } }

    pub body_behind : (walk.cursor.ahead ≡ End → ⊥) → BodyRead classes text limit at table after (whole.Refused no_list_goes_on walk.cursor.start)
    body_behind o = body_from walk.cursor.ahead refl o

module _ (classes text : List ℕ) where
  -- ---- the answer

  module _ {at : ℕ} (table : List ℕ) where
    pub first_refused : {number-told place : ℕ} {r : Answer} → (Faultless classes text at → IsRefused (answer level_limit) classes text at number-told place)
        → r ≡ unless_fault Refused (scan_by classes text at) (Refused number-told place) → FaultFirst (answer level_limit) classes text at table table r
    first_refused s e =
        record {
          clean = λ f. rw (e ∙ unless_none Refused (scan_by classes text at) _ f.none) (twice_refused (answer level_limit) classes text table (s f));
          faulty = λ n p q. (e ∙ unless_refused Refused (scan_by classes text at) _ q, refl);
        }

    -- a list has no fault
    listed_first : {dry half after : List ℕ} {n : ℕ} {r : Answer} → ListedClean (answer level_limit) classes text at dry half n → TwiceIs (answer level_limit) classes text at table after r → FaultFirst (answer level_limit) classes text at table after r
    listed_first l t = record { clean = λ f. t; faulty = λ n p q. absurd (never (q ∙ l.faultless.none)) }

    pub first_no_room : {dry half : List ℕ} {n : ℕ} → ListedClean (answer level_limit) classes text at dry half n → length table / address_record_size < n → FaultFirst (answer level_limit) classes text at table table (NoRoom n)
    first_no_room l h = listed_first l (twice_no_room (answer level_limit) classes text table l.listed h)

    -- the second run is like the first
    as_whole : {dry half : List ℕ} {n : ℕ} (after : List ℕ) → ListedClean (answer level_limit) classes text at dry half n → (w : Whole) → WholeFirst (answer level_limit) classes text at table after w → WholeIs (answer level_limit) classes text at table after w
    as_whole after l (Listed m) x = x.listed
    as_whole after l (whole.Refused number-told place) x = x l.faultless

    pub first_written : {dry half : List ℕ} {n : ℕ} (after : List ℕ) → ListedClean (answer level_limit) classes text at dry half n → n ≤ length table / address_record_size → (w : Whole) → WholeFirst (answer level_limit) classes text at table after w
        → FaultFirst (answer level_limit) classes text at table after (Accepted n)
    first_written after l h w x = listed_first l (twice_written (answer level_limit) classes text table after l.listed h w (as_whole after l w x))

    -- one run beside the table, in room for all the records
    pub first_copied : (room half : List ℕ) {n : ℕ} {after : List ℕ} → ListedClean (answer level_limit) classes text at room half n → n ≤ length room / address_record_size → n ≤ length table / address_record_size
        → after ≡ sets table 0 (take (n * address_record_size) half) → FaultFirst (answer level_limit) classes text at table after (Accepted n)
    first_copied room half {n} {after} l g h e =
        let k = l.listed.derivation in
        let rs = records k in
        let c : n ≡ length rs = l.listed.count_is ∙ sym (length-records k) in
        let size : n * address_record_size ≡ length (table_bytes rs) = omega (arith, length-table address_layout rs, c) in
        let fits : length (table_bytes rs) ≤ length room = omega (arith, size, g) in
        first_written after l h (Listed n)
        record { listed = record { derivation = k; verdict_is = l.listed.verdict_is; count_is = l.listed.count_is; stored = e ∙ rw (l.listed.stored, size) (staged table room (table_bytes rs) fits) }; faultless = l.faultless }
