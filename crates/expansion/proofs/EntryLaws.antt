-- The entry point: its answer, from the walk over the body, and its promises. Assumes nothing.
use Prim.Native.Nat.{ℕ, ◌≤◌, ◌<◌}
use native.Mathlib.Omega.{arith}
use mathlib.Core.Path.{◌≡◌, refl, sym, ap, ◌∙◌}
use mathlib.Core.List.{List, [], ◌++◌}
use lib.ListN.{length, take}
use lib.Seq.{sets}
use Rattle.octets.specs.Believed.Classes.{class_table}
use Rattle.octets.specs.Believed.Numbers.{opening_limit}
use Rattle.octets.specs.declared.answers.Answer.TheVariants.{Accepted, Refused, NoRoom}
use Rattle.octets.proofs.AnswerLaws.{answered}
use Rattle.octets.proofs.Parts.{no_front}
use Rattle.octets.proofs.Writes.{too_long, fitting}
use Rattle.grammar.specs.Believed.Rfc733.{Derivation}
use Rattle.addresses.specs.Believed.Outcome as addresses
use Rattle.addresses.specs.Believed.Outcome.{outcome}
use Rattle.addresses.proofs.Judgements.{RefusedBody, listed_read, scanned_unlisted, unscanned}
use Rattle.addresses.proofs.Told.{SomeList, refused_told}
use Rattle.plain.specs.Believed.Meaning.{meaning}
use Rattle.plain.specs.Believed.PlainText.{addresses_text}
use Rattle.plain.specs.Believed.RoundTrip.{AcceptedBody}
use Rattle.plain.specs.Believed.Written.{written}
use Rattle.plain.specs.declared.places.Place.TheVariants.{Start}
use Rattle.plain.proofs.PlainLaws.{accepted_list}
use Rattle.expansion.specs.Believed.Expansion.{Expansion, stopped, reached, expansion}
use Rattle.expansion.specs.Believed.Outcome.{Outcome, refusal, expanded, expand_outcome, AnsweredBy}
use Rattle.expansion.specs.Believed.Promises.{Promises}
use Rattle.expansion.specs.Ties.Walk.{halted, wrote, walked}
use Rattle.addresses.specs.Ties.Steps.{symbols_from}
use Rattle.expansion.specs.Ties.Steps.{TextWalked, BodyWent, BodyWalked, trail_outcome, ListExpanded}
use Rattle.std.specs.Prelude.{Result, Ok, Err, None}
use Rattle.expansion.specs.declared.Expanded.{Expanded}
use Rattle.expansion.specs.declared.Stage.{Stage}
use Rattle.expansion.specs.declared.Stopped.{Stopped}
use Rattle.expansion.proofs.ExpansionLaws.{expansion_promised}
use Rattle.expansion.proofs.WalkLaws.{walked_expansion}
use Rattle.expansion.proofs.WalkThrough.{onward}
use Rattle.expansion.proofs.WithoutInclude.{without_include}

-- ---- the walk over a body

-- where it begins
abbrev pub first : Stage
first = record { place = Start; openings = 0; written = 0 }

module _ (classes store text : List ℕ) (start : ℕ) where
  pub body_walked : (out after : List ℕ) (r : Result Stage Stopped) → TextWalked classes store text start None first out after r → BodyWalked classes store text start out after r
  body_walked out after (Ok r) g =
      let y = g.onward opening_limit (omega arith) in
      record { written_text = y.put []; trail = y.same (λ place u. wrote [] u); count = omega (arith, y.wrote.count []); stored = sym (y.wrote.same []) }
  body_walked out after (Err s) f = f opening_limit (λ place u. wrote [] u) (omega arith)

  -- ---- what is answered of it; the first walk was on the empty front of the lent text

  module _ (lent front : List ℕ) (none : length front ≡ 0) where
    pub list_stopped : {n p u : ℕ} → walked store (symbols_from classes text start) ≡ halted n p u → ListExpanded classes store text start lent (front ++ lent) (record { answer = Refused n p; openings = u })
    list_stopped e = rw e (record { answered = answered refl (no_front front lent none); openings_is = refl })

    module _ {out after : List ℕ} {r : Stage} (w : BodyWent classes store text start out after r) where
      pub list_too_long : length (front ++ lent) < r.written → ListExpanded classes store text start lent (front ++ lent) (record { answer = NoRoom r.written; openings = r.openings })
      list_too_long h =
          let f = too_long w.written_text lent front r.written w.count none h in
          rw w.trail (record { answered = answered f.0 f.1; openings_is = refl })

      -- the second walk writes the same
      again : (later : List ℕ) (r' : Result Stage Stopped) → BodyWalked classes store text start (front ++ lent) later r' → later ≡ sets (front ++ lent) 0 w.written_text
      again later (Ok r') v =
          let e : wrote v.written_text r'.openings ≡ wrote w.written_text r.openings = sym v.trail ∙ w.trail in
          let f : v.written_text ≡ w.written_text = cc in
          v.stored ∙ ap (sets (front ++ lent) 0) f
      again later (Err s) v =
          let e : halted s.fault.number s.fault.position s.openings ≡ wrote w.written_text r.openings = sym v ∙ w.trail in
          cc

      pub list_fitting : r.written ≤ length (front ++ lent) → (later : List ℕ) (r' : Result Stage Stopped) → BodyWalked classes store text start (front ++ lent) later r'
          → ListExpanded classes store text start lent later (record { answer = Accepted r.written; openings = r.openings })
      list_fitting h later r' v =
          let f = fitting w.written_text lent front later r.written r.written w.count none h w.count (again later r' v) in
          rw w.trail (record { answered = answered f.0 f.1; openings_is = refl })

-- ---- the promises

module _ (message : List ℕ) (start end : ℕ) (store lent : List ℕ) where
  -- of an accepted body
  accepted_outcome : {k : Derivation} → AcceptedBody message start end k → expand_outcome message start end store lent ≡ expanded lent (expansion store k)
  accepted_outcome a = listed_read (accepted_list message start end a) (refusal lent 0) (λ k. expanded lent (expansion store k))

  abbrev pub Promised : Expanded → List ℕ → Type 0
  Promised r after = AnsweredBy (expand_outcome message start end store lent) r after × Promises message start end store lent r after

  -- of a refused one
  refused_with : {n p : ℕ} {r : Expanded} {after : List ℕ} → RefusedBody message start end n p → AnsweredBy (expand_outcome message start end store lent) r after → AnsweredBy (refusal lent 0 n p) r after
  refused_with f e = rw (f Outcome (refusal lent 0) (λ k. expanded lent (expansion store k))) at e

  promised : (r : Expanded) (after : List ℕ) → AnsweredBy (expand_outcome message start end store lent) r after → Promised r after
  promised r after e =
      let expands : (k : Derivation) → AcceptedBody message start end k → AnsweredBy (expanded lent (expansion store k)) r after = λ k a. rw (accepted_outcome a) at e in (
        e,
        record {
          expands = expands;
          promised = λ k a. expansion_promised store a;
          without_include = λ k a n.
              let f : AnsweredBy (expanded lent (reached (meaning k) 0)) r after = rw (without_include store a.list.derived n) at (expands k a) in
              let p = listed_read (accepted_list message start end a) (addresses.refusal lent) (written lent) in
              rw p (f.answered, f.openings_is);
          no_list = λ s n.
              let w = scanned_unlisted message start end s (λ k d. n k (record { scans = s; list = d })) in
              let f = refused_with w.reads e in
              (record { why = w.why; rest = w.rest; right = w.right; tells = f.answered.told_is }, f.openings_is, f.answered.bytes_are);
          unread = λ n p s.
              let f = refused_with (unscanned message start end s) e in
              (f.answered.told_is, f.openings_is, f.answered.bytes_are);
        },
      )

  -- the reader refuses
  pub refused_promised : (table : List ℕ) (n p : ℕ) → Refused n p ≡ (outcome message start end table).answer → Promised (record { answer = Refused n p; openings = 0 }) lent
  refused_promised table n p e =
      promised (record { answer = Refused n p; openings = 0 }) lent
      (rw (refused_told message start end table n p e Outcome (refusal lent 0) (λ k. expanded lent (expansion store k))) (record { answered = answered refl refl; openings_is = refl }))

  -- the reader does not refuse
  trail_outcome_lem : (e : Expansion) → expanded lent e ≡ trail_outcome lent (onward e (λ m u. wrote (addresses_text m []) u))
  trail_outcome_lem (stopped n p u) = refl
  trail_outcome_lem (reached m u) = refl

  pub list_promised : (s : SomeList message start end) (r : Expanded) (after : List ℕ) → ListExpanded class_table store (take end message) start lent after r → Promised r after
  list_promised s r after e =
      let k = s.derivation in
      let w : expand_outcome message start end store lent ≡ trail_outcome lent (walked store (symbols_from class_table (take end message) start)) =
      listed_read s.body (refusal lent 0) (λ k. expanded lent (expansion store k)) ∙ trail_outcome_lem (expansion store k)
      ∙ ap (trail_outcome lent) (sym (walked_expansion store s.body.list.derived s.body.list.within)) in
      promised r after (rw w e)
