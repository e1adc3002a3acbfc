-- The records of a list in a body, read back from a table, and what an accepted answer says of it. Assumes nothing.
use mathlib.Core.Path.{◌≡◌, refl, ap, ◌∙◌}
use mathlib.Core.Bool.{Bool, true, false}
use mathlib.Core.List.{List, [], ◌∷◌}
use Prim.Native.Nat.{ℕ, ◌*◌, ◌/◌, ◌≤◌, ◌<◌}
use native.Mathlib.Omega.{arith}
use borrow.Author.Tests.{ltb-false}
use lib.Dec.{ltb}
use lib.ListN.{length, get_or, take}
use lib.Seq.{sets, length-take-le}
use Rattle.octets.specs.Believed.Numbers.{message_limit}
use Rattle.octets.specs.Believed.Stored.{room_for}
use Rattle.octets.specs.declared.answers.Answer.TheVariants.{Accepted, NoRoom}
use Rattle.records.specs.Believed.AddressRecords.{address_record_size, no_record, table_bytes, record_in}
use Rattle.scanner.specs.Believed.Symbols.{Symbol}
use Rattle.scanner.specs.declared.Class.{Class}
use Rattle.scanner.proofs.Spans.{Placed, none, one, placed}
use Rattle.grammar.specs.Believed.Grammar.{Forest}
use Rattle.grammar.specs.Believed.Records.{count, records}
use Rattle.grammar.specs.Believed.Rfc733.{Derivation}
use Rattle.grammar.proofs.Any.Positions.{SymbolsUpTo, ReadBack, read_back}
use Rattle.addresses.specs.Believed.Editions.{Edition, edition733, edition822}
use Rattle.addresses.specs.Believed.Outcome.{Outcome, refusal, derived, outcome}
use Rattle.addresses.proofs.BodyRecords.{records_half}
use Rattle.addresses.proofs.Judgements.{ListBodyIn, ListBody, Judged, refused_at, listed, listed_read, judged}

-- ---- in any edition

-- an edition takes the symbols where they are
abbrev pub TakesInPlace : {N : Type 0} → Edition N → Type 0
TakesInPlace edition = (limit : ℕ) (xs : List (Symbol Class)) → SymbolsUpTo limit xs → SymbolsUpTo limit (edition.taken xs)

pub takes_733 : TakesInPlace edition733
takes_733 limit xs u = u

pub takes_822 : TakesInPlace edition822
takes_822 limit [] u = tt
takes_822 limit (x ∷ xs) u = (u.0, u.1, takes_822 limit xs u.2)

-- the symbols of a text do not lie past its end
placed_up_to : {classes text : List ℕ} {end at limit : ℕ} {xs : List (Symbol Class)} → end ≤ limit → Placed classes text end at xs → SymbolsUpTo limit xs
placed_up_to h none = tt
placed_up_to h (one a b c q m rest) = (omega arith, omega arith, placed_up_to h rest)

-- the records of a list in a body are read back
pub body_read_back : {N : Type 0} (edition : Edition N) → TakesInPlace edition → {message : List ℕ} {start end : ℕ} {k : Forest Class N} → ListBodyIn edition message start end k → ReadBack k
body_read_back edition takes {message} {start} {end} {k} b =
    let text = take end message in
    let within : length text ≤ message_limit = omega (arith, length-take-le end message b.clean.inside, b.clean.inside, b.clean.short) in
    let u = takes message_limit _ (placed_up_to within (placed edition.classes text start)) in
    read_back k message_limit (omega arith) (rw b.list.derived.yields u)

-- ---- in RFC 733

-- the record of each address is read back
pub record_read : {message : List ℕ} {start end : ℕ} {k : Derivation} → ListBody message start end k → (table : List ℕ) → count k * address_record_size ≤ length table
    → (i : ℕ) → i < count k → record_in (sets table 0 (table_bytes (records k))) i ≡ get_or (records k) i no_record
record_read b table fits i l = body_read_back edition733 takes_733 b table fits i l (omega (arith, records_half b, b.clean.inside, b.clean.short))

-- ---- an accepted body

-- it is a list, the answer counts its records, and they fit and are written
abbrev pub AcceptedList : List ℕ → ℕ → ℕ → List ℕ → ℕ → Type 0
AcceptedList message start end table n =
    (k : Derivation) × ListBody message start end k × (n ≡ count k) × (n ≤ length table / address_record_size)
    × ((outcome message start end table).table ≡ sets table 0 (table_bytes (records k)))

module _ (message : List ℕ) (start end : ℕ) (table : List ℕ) (n : ℕ) (e : (outcome message start end table).answer ≡ Accepted n) where
  by_room : (k : Derivation) → ListBody message start end k → (test : Bool) → ltb (room_for address_record_size table) (count k) ≡ test → AcceptedList message start end table n
  by_room k b true t =
      let f : (outcome message start end table).answer ≡ NoRoom (count k) = ap (λ (o : Outcome). o.answer) (listed_read b (refusal table) (derived table)) ∙ rw t in
      absurd (let z : ◌≡◌ {A = ℕ} 0 1 = cc in omega arith)
  by_room k b false t =
      let f : (outcome message start end table).answer ≡ Accepted (count k) = ap (λ (o : Outcome). o.answer) (listed_read b (refusal table) (derived table)) ∙ rw t in
      let g : (outcome message start end table).table ≡ sets table 0 (table_bytes (records k)) = ap (λ (o : Outcome). o.table) (listed_read b (refusal table) (derived table)) ∙ rw t in
      let c : n ≡ count k = cc in
      (k, b, c, omega (arith, ltb-false (room_for address_record_size table) (count k) t), g)

  by_judgement : Judged message start end → AcceptedList message start end table n
  by_judgement (refused_at m p f) =
      let g = ap (λ (o : Outcome). o.answer) (f Outcome (refusal table) (derived table)) in
      absurd (let z : ◌≡◌ {A = ℕ} 0 1 = cc in omega arith)
  by_judgement (listed k b) = by_room k b _ refl

  pub accepted_list : AcceptedList message start end table n
  accepted_list = by_judgement (judged message start end)
