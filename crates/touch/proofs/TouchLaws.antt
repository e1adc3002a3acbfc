-- What the tool answers, from what the scanner and the address reader answer. Assumes nothing.
use mathlib.Core.Path.{◌≡◌, refl, sym, ap, subst, ◌∙◌}
use mathlib.Core.Bool.{Bool, true, false}
use mathlib.Core.List.{List}
use Prim.Native.Nat.{ℕ, ◌+◌, ◌*◌, ◌/◌, ◌≤◌, ◌<◌}
use native.Mathlib.Decide.{dec_lt}
use native.Mathlib.Omega.{arith}
use borrow.Author.Tests.{le-ltb, lt-ltb, le-leb, lt-leb, ltb-false}
use lib.Dec.{ltb}
use lib.ListN.{length}
use lib.Seq.{sets}
use Rattle.std.specs.Prelude.{Err}
use Rattle.octets.specs.Believed.Answers.{fault}
use Rattle.octets.specs.Believed.Numbers.{level_limit, table_records, body_out_of_order}
use Rattle.octets.specs.declared.answers.Answer.{Answer}
use Rattle.octets.specs.declared.answers.Answer.TheVariants as reader
use Rattle.records.specs.Believed.AddressRecords.{address_record_size, table_bytes, no_record}
use Rattle.scanner.specs.Believed.Answers.{body_scanned}
use Rattle.scanner.specs.Believed.Categories.{category_at}
use Rattle.scanner.specs.declared.Class.{Class}
use Rattle.scanner.specs.declared.Category.{Category}
use Rattle.scanner.proofs.BodyChecks.{Clean, when_clean, when_refused}
use Rattle.grammar.specs.Believed.Language.{Verdict, accepted, refused, number, start_of}
use Rattle.grammar.specs.Believed.Records.{count, records}
use Rattle.grammar.specs.Believed.Rfc733.{Derivation}
use Rattle.grammar.specs.Executable.Machine733.{answer}
use Rattle.grammar.proofs.Rfc733.Condition3.{answer_accepts, answer_derives, decides}
use Rattle.grammar.proofs.Any.Records.{length-records, parent_smaller}
use Rattle.grammar.specs.Executable.Trees733.{Sym}
use Rattle.addresses.specs.Believed.Editions.{edition733, body_symbols}
use Rattle.addresses.specs.Believed.Outcome.{derived, outcome}
use Rattle.addresses.specs.Believed.Outcome as addresses
use Rattle.addresses.specs.Believed.Condition3.{IsList}
use Rattle.addresses.proofs.BodyRecords.{in_body}
use Rattle.addresses.proofs.Judgements.{ListBody, no_list_refused, list_body, decided_read}
use Rattle.addresses.proofs.RecordsRead.{record_read}
use Rattle.expected.specs.Believed.Things.{sum_of}
use Rattle.expected.specs.Executable.Named.{named, expected_in}
use Rattle.expected.proofs.NameLaws.{before_refused, names_right}
use Rattle.touch.specs.Believed.Around.{around, first_plus, Climbs}
use Rattle.touch.specs.Believed.Answers.{Touched, byte, told, AnsweredBy, Outcome, unchanged, refusal, byte_of, of_list}
use Rattle.touch.specs.Believed.Touched.{decided, touched}
use Rattle.touch.specs.Believed.ByGrammar.{NamedThere, ByGrammar}
use Rattle.touch.specs.Ties.Climbing.{Holds, HeldList, ClimbIs}
use Rattle.touch.specs.declared.Untouched.TheVariants.{Expected, NoRoom}
use Rattle.touch.proofs.Nesting.{nested, nested_height}
use Rattle.touch.proofs.AroundLaws.{around_climbs, around_few}

-- the parts of an outcome
pub parts : {o o' : Outcome} → o' ≡ o → (o.answer ≡ o'.answer) × (o.path ≡ o'.path)
parts e = (ap (λ (z : Outcome). z.answer) (sym e), ap (λ (z : Outcome). z.path) (sym e))

module _ (message : List ℕ) (start end place : ℕ) (path : List ℕ) where
  abbrev symbols : List Sym
  symbols = body_symbols message start end

  abbrev whole : Outcome
  whole = touched message start end place path

  -- ---- the order of the checks

  -- a body that is not read is refused ..
  pub unread : {n p : ℕ} → reader.Refused n p ≡ body_scanned message start end → whole ≡ refusal path n p
  unread e = when_refused message start end (refusal path) _ e

  -- .. and of one that is read the verdict decides
  pub read : Clean message start end → {v : Verdict Class Derivation} → answer level_limit symbols ≡ v → whole ≡ decided message start end place path v
  read x e = when_clean message start end (refusal path) _ x ∙ ap (decided message start end place path) e

  -- ---- over the grammar

  named_there : Clean message start end → expected_in message start end ≡ sum_of (named level_limit symbols)
  named_there x = when_clean message start end (λ n p. 0) _ x

  -- symbols that are no list are refused as condition 3 has it, and names are told there
  no_list : Clean message start end → {r : Touched} {after : List ℕ} → r ≡ whole.answer → after ≡ whole.path → ((k : Derivation) → IsList symbols k → ⊥) → NamedThere symbols end r × (after ≡ path)
  no_list x e f n =
      let u = no_list_refused edition733 0 answer decides (omega arith) symbols n in
      let (before, splits) = before_refused level_limit symbols u.rest u.why u.right in
      let q = read x u.verdict_is in (
        record {
          why = u.why;
          before = before;
          rest = u.rest;
          right = u.right;
          splits = splits;
          named = named level_limit symbols;
          tells = ap told (e ∙ ap (λ (o : Outcome). o.answer) q ∙ ap (λ n. Err (Expected (fault (number u.why) (start_of end u.rest)) n)) (named_there x));
          exactly = names_right level_limit symbols u.why before u.rest u.right splits;
        },
        f ∙ ap (λ (o : Outcome). o.path) q,
      )

  by_grammar : {r : Touched} {after : List ℕ} → r ≡ whole.answer → after ≡ whole.path → ByGrammar message start end place path r after
  by_grammar e f short ordered inside faultless =
      let x : Clean message start end = record { short = short; ordered = ordered; inside = inside; faultless = faultless } in
      record {
        list = λ k d.
            let q = read x (answer_accepts level_limit d.derived d.within) in
            (ap told (e ∙ ap (λ (o : Outcome). o.answer) q), f ∙ ap (λ (o : Outcome). o.path) q);
        no_list = λ n. no_list x e f n;
      }

  -- the two promises of the entry point
  abbrev pub Promised : Touched → List ℕ → Type 0
  Promised r after = AnsweredBy whole r after × ByGrammar message start end place path r after

  pub promised : (o : Outcome) → whole ≡ o → Promised o.answer o.path
  promised o e =
      let (p, q) = parts e in
      (record { told_is = ap told p; path_is = q; answer_is = p }, by_grammar p q)

  -- .. of a body that is refused with 8, 9 or 10
  pub promised_names : {n p names : ℕ} → whole ≡ unchanged path (Err (Expected (fault n p) (expected_in message start end))) → names ≡ expected_in message start end → Promised (Err (Expected (fault n p) names)) path
  promised_names {n} {p} e f = promised _ (e ∙ ap (λ m. unchanged path (Err (Expected (fault n p) m))) (sym f))

  -- .. of a list
  pub promised_list : (k : Derivation) {r : Touched} {after : List ℕ} → whole ≡ of_list message start end place path k → (r ≡ (of_list message start end place path k).answer) × (after ≡ (of_list message start end place path k).path) → Promised r after
  promised_list k e (p, q) =
      let (a, b) = parts e in
      (record { told_is = ap told (p ∙ a); path_is = q ∙ b; answer_is = p ∙ a }, by_grammar (p ∙ a) (q ∙ b))

  -- ---- what the reader answers

  module _ (table : List ℕ) (size : table_records * address_record_size ≡ length table) where
    -- a list whose records the table holds
    pub record Held (many : ℕ) (after : List ℕ) : Type 0 where
      pub derivation : Derivation
      pub held : HeldList message start end after many derivation
      pub is : whole ≡ of_list message start end place path derivation

    -- what each of its answers means
    abbrev pub Means : Answer → List ℕ → Type 0
    Means (reader.Accepted many) after = Held many after
    Means (reader.Refused n p) after = whole ≡ unchanged path (Err (Expected (fault n p) (expected_in message start end)))
    Means (reader.NoRoom needed) after = whole ≡ unchanged path (Err (NoRoom needed))

    abbrev MeansOf : addresses.Outcome → Type 0
    MeansOf o = Means o.answer o.table

    holds : {k : Derivation} → ListBody message start end k → count k ≤ table_records → Holds (sets table 0 (table_bytes (records k))) (count k) (records k)
    holds {k} b few =
        let n : length (records k) ≡ count k = length-records k in
        record { many_is = sym n; few = few; are = record_read b table (omega (arith, size)); parents = λ i l. parent_smaller k i no_record (omega arith) }

    room_is : length table / address_record_size ≡ table_records
    room_is = rw (← size)

    by_room : (k : Derivation) → ListBody message start end k → whole ≡ of_list message start end place path k → (t : Bool) → ltb table_records (count k) ≡ t → MeansOf (derived table k)
    by_room k b q true e =
        let d : derived table k ≡ record { answer = reader.NoRoom (count k); table = table } = rw (room_is, e) in
        subst (λ (o : addresses.Outcome). MeansOf o) (sym d) (q ∙ rw e)
    by_room k b q false e =
        let d : derived table k ≡ record { answer = reader.Accepted (count k); table = sets table 0 (table_bytes (records k)) } = rw (room_is, e) in
        subst (λ (o : addresses.Outcome). MeansOf o) (sym d) (record { derivation = k; held = record { body = b; holds = holds b (ltb-false table_records (count k) e) }; is = q })

    by_verdict_lem : (x : Clean message start end) (v : Verdict Class Derivation) → answer level_limit symbols ≡ v → MeansOf (outcome message start end table)
    by_verdict_lem x (accepted k) e =
        let d = answer_derives level_limit {xs = symbols} e in
        let b : ListBody message start end k = list_body message start end x (record { derived = d.0; within = d.1 }) in
        subst (λ (o : addresses.Outcome). MeansOf o) (sym (decided_read message start end x.short x.ordered x.inside level_limit x.faultless e (addresses.refusal table) (derived table))) (by_room k b (read x e) _ refl)
    by_verdict_lem x (refused why rest) e =
        subst (λ (o : addresses.Outcome). MeansOf o) (sym (decided_read message start end x.short x.ordered x.inside level_limit x.faultless e (addresses.refusal table) (derived table))) (read x e)

    pub means : Clean message start end → {r : Answer} {after : List ℕ} → r ≡ (outcome message start end table).answer → after ≡ (outcome message start end table).table → Means r after
    means x e f = rw (e, f) (by_verdict_lem x _ refl)

  -- ---- a place of a list

  -- a path of one number more than there are levels is always enough
  pub path_enough : {k : Derivation} → ListBody message start end k → length (around place (records k)) ≤ level_limit + 1
  path_enough b =
      let n = nested start end b.list.derived (in_body b) in
      omega (arith, around_few n place, nested_height start end b.list.derived (in_body b), b.list.within)

  module _ {table : List ℕ} {many : ℕ} {k : Derivation} (h : HeldList message start end table many k) where
    in_room : ltb table_records (count k) ≡ false
    in_room = le-ltb table_records (count k) (omega (arith, h.holds.few, h.holds.many_is, length-records k))

    pub outside_body : ((start ≤ place) × (place < end) → ⊥) → of_list message start end place path k ≡ refusal path body_out_of_order 0
    outside_body n =
        elim (dec_lt place start) [
          | yes l ↦ rw (in_room, lt-leb start place l)
          | no l ↦ elim (dec_lt place end) [
            | yes m ↦ absurd (n (omega arith, m))
            | no m ↦ rw (in_room, le-leb start place (omega arith), le-ltb place end (omega arith))
          ]
        ]

    pub in_the_body : start ≤ place → place < end → of_list message start end place path k ≡ byte_of message start end place path k
    in_the_body l m = rw (in_room, le-leb start place l, lt-ltb place end m)

    -- climbing from the last record that covers it finds those around it
    pub climbs : Climbs (records k) (first_plus (around place (records k))) (around place (records k))
    climbs = around_climbs (nested start end h.body.list.derived (in_body h.body)) place

    -- .. and what is told of the byte
    pub byte_told : {is : Category} {last n : ℕ} {after : List ℕ} → is ≡ category_at message start end place → last ≡ first_plus (around place (records k)) → last ≤ many → ClimbIs table last 0 path after n
        → start ≤ place → place < end → (byte is n ≡ (of_list message start end place path k).answer) × (after ≡ (of_list message start end place path k).path)
    byte_told {last = last} {n = n} e l low f g m =
        let ns = around place (records k) in
        let c : Climbs (records k) last ns = rw l climbs in
        let (a, b) = f many (records k) ns h.holds low c in
        let i : n ≡ length ns = omega (arith, b) in
        parts (in_the_body g m ∙ rw (← e, ← i, ← a))
