-- The writer's promises, from the reader's answer. Assumes nothing.
use mathlib.Core.Path.{◌≡◌, sym, ap, ◌∙◌}
use mathlib.Core.List.{List}
use Prim.Native.Nat.{ℕ}
use lib.ListN.{take}
use Rattle.octets.specs.Believed.Classes.{class_table}
use Rattle.octets.specs.Believed.Answers.{told}
use Rattle.octets.proofs.AnswerLaws.{answered}
use Rattle.octets.specs.Believed.Fitting.{fitting_answer, fitting_text}
use Rattle.octets.specs.declared.answers.Answer.{Answer}
use Rattle.octets.specs.declared.answers.Answer.TheVariants.{Refused}
use Rattle.grammar.specs.Believed.Rfc733.{Derivation}
use Rattle.addresses.specs.Believed.Outcome.{Outcome, AnsweredBy, refusal, outcome}
use Rattle.addresses.proofs.Judgements.{ListBody, listed_read, scanned_body, scanned_unlisted, unscanned, list_scanned}
use Rattle.addresses.proofs.Told.{SomeList, refused_told}
use Rattle.plain.specs.Believed.PlainText.{plain_text}
use Rattle.plain.specs.Ties.Walking.{written_text}
use Rattle.plain.specs.Believed.RoundTrip.{AcceptedBody}
use Rattle.plain.specs.Believed.Condition2.{Condition2}
use Rattle.plain.specs.Believed.Written.{written, plain_outcome}
use Rattle.plain.proofs.RoundTrips.{round_trip, written_accepted}

module _ (message : List ℕ) (start end : ℕ) where
  pub accepted_list : {k : Derivation} → AcceptedBody message start end k → ListBody message start end k
  accepted_list a = scanned_body message start end a.scans a.list

  list_accepted : {k : Derivation} → ListBody message start end k → AcceptedBody message start end k
  list_accepted b = record { scans = list_scanned message start end b; list = b.list }

  -- ---- the promises of the entry point

  module _ (lent : List ℕ) where
    abbrev pub Promised : Answer → List ℕ → Type 0
    Promised r after = AnsweredBy (plain_outcome message start end lent) r after × Condition2 message start end lent r after

    promised : (o : Outcome) → plain_outcome message start end lent ≡ o → Promised o.answer o.table
    promised o e =
        let p : o.answer ≡ (plain_outcome message start end lent).answer = ap (λ (z : Outcome). z.answer) (sym e) in
        let q : o.table ≡ (plain_outcome message start end lent).table = ap (λ (z : Outcome). z.table) (sym e) in (
          answered p q,
          record {
            writes = λ k a. let f = listed_read (accepted_list a) (refusal lent) (written lent) in (ap told (p ∙ ap (λ (z : Outcome). z.answer) f), q ∙ ap (λ (z : Outcome). z.table) f);
            round_trip = λ k a h. round_trip a h;
            no_list = λ s n.
                let w = scanned_unlisted message start end s (λ k d. n k (record { scans = s; list = d })) in
                let f = w.reads Outcome (refusal lent) (written lent) in
                (record { why = w.why; rest = w.rest; right = w.right; tells = ap told (p ∙ ap (λ (z : Outcome). z.answer) f) }, q ∙ ap (λ (z : Outcome). z.table) f);
            unread = λ n m s.
                let f = unscanned message start end s Outcome (refusal lent) (written lent) in
                (ap told (p ∙ ap (λ (z : Outcome). z.answer) f), q ∙ ap (λ (z : Outcome). z.table) f);
          },
        )

    -- the reader refuses
    pub refused_promised : (table : List ℕ) (n p : ℕ) → Refused n p ≡ (outcome message start end table).answer → Promised (Refused n p) lent
    refused_promised table n p e = promised (refusal lent n p) (refused_told message start end table n p e Outcome (refusal lent) (written lent))

    -- the reader does not refuse
    pub list_promised : (s : SomeList message start end) (r : Answer) (after : List ℕ)
        → (r ≡ fitting_answer (written_text class_table (take end message) start) lent) × (after ≡ fitting_text (written_text class_table (take end message) start) lent)
        → Promised r after
    list_promised s r after (e, f) =
        let w = written_accepted (list_accepted s.body) in
        let p : r ≡ fitting_answer (plain_text s.derivation) lent = e ∙ ap (λ t. fitting_answer t lent) w in
        let q : after ≡ fitting_text (plain_text s.derivation) lent = f ∙ ap (λ t. fitting_text t lent) w in
        rw (p, q) (promised (written lent s.derivation) (listed_read s.body (refusal lent) (written lent)))
