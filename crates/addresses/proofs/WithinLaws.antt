-- Whether a text is, whole, a list of at most so many levels. Assumes nothing.
use Prim.Native.Nat.{ℕ, min, ◌≤◌, ◌<◌}
use mathlib.Core.Path.{◌≡◌, refl, sym, ◌∙◌}
use mathlib.Core.Bool.{Bool, true, false, true≢false}
use mathlib.Core.List.{List}
use native.Mathlib.Decide.{dec_lt}
use native.Mathlib.Omega.{arith}
use lib.ListN.{length}
use lib.Seq.{take-length}
use Rattle.octets.specs.Believed.Classes.{class_table}
use Rattle.octets.specs.Believed.Numbers.{level_limit}
use Rattle.octets.specs.declared.answers.Answer.TheVariants.{Accepted, Refused}
use Rattle.scanner.specs.Believed.Answers.{body_checked, body_scanned}
use Rattle.scanner.specs.declared.Class.{Class}
use Rattle.scanner.proofs.BodyChecks.{Clean, Ordered, refused_body, clean_body, body_case, when_refused, not_passed, in_its_order}
use Rattle.grammar.specs.Believed.Grammar.{levels}
use Rattle.grammar.specs.Believed.Language.{Verdict, accepted, refused}
use Rattle.grammar.specs.Believed.Rfc733.{Derivation}
use Rattle.grammar.specs.Executable.Machine733.{answer}
use Rattle.grammar.proofs.Rfc733.Condition3.{answer_accepts, answer_derives}
use Rattle.addresses.specs.Believed.Editions.{body_symbols}
use Rattle.addresses.specs.Believed.Outcome.{by_verdict}
use Rattle.addresses.specs.Ties.Steps.{symbols_from}
use Rattle.addresses.specs.Ties.Whole.{Fitting, EndsWithin}
use Rattle.addresses.specs.Believed.Within.{list_within}
use Rattle.addresses.proofs.Judgements.{ListBody, decided_read, list_body}

-- a whole text may be read
pub whole_text : {text : List ℕ} → Ordered text 0 (length text) → Fitting text 0
whole_text x = record { inside = x.ordered; short = x.short }

module _ (limit : ℕ) (text : List ℕ) where
  -- a text that is too long or has a fault is no list ..
  pub within_refused : {n p : ℕ} → Refused n p ≡ body_scanned text 0 (length text) → list_within limit text ≡ false
  within_refused e = when_refused text 0 (length text) (λ n p. false) _ e

  -- .. and of any other the verdict decides
  within_decided : Clean text 0 (length text) → {v : Verdict Class Derivation} → answer (min limit level_limit) (body_symbols text 0 (length text)) ≡ v → list_within limit text ≡ by_verdict (λ n p. false) (λ k. true) (length text) v
  within_decided x e = decided_read text 0 (length text) x.short x.ordered x.inside (min limit level_limit) x.faultless e (λ n p. false) (λ k. true)

  -- a text that is too long is no list
  pub within_unfit : {n p : ℕ} → Refused n p ≡ body_checked Refused text 0 (length text) (Accepted 0) → list_within limit text ≡ false
  within_unfit e = not_passed text 0 (length text) (λ n p. false) _ e

  -- .. and any other is, as the reader finds it, with the levels that count
  pub within_told : Ordered text 0 (length text) → (used : ℕ) → min limit level_limit ≡ used → {r : Bool} → EndsWithin class_table text used 0 r → r ≡ list_within limit text
  within_told o used m x =
      elim (body_case text 0 (length text)) [
        | refused_body n p e ↦ x.faulty n p (rw (take-length text) at (e ∙ in_its_order text 0 (length text) Refused _ o)) ∙ sym (within_refused e)
        | clean_body c ↦ x.clean (record { none = rw (take-length text) at c.faultless }) ∙ sym (within_decided c {v = answer used (symbols_from class_table text 0)} (rw (m, take-length text)))
      ]

  by_verdict_lem : Clean text 0 (length text) → list_within limit text ≡ true → (v : Verdict Class Derivation) → answer (min limit level_limit) (body_symbols text 0 (length text)) ≡ v
      → (k : Derivation) × ListBody text 0 (length text) k × (levels k ≤ limit)
  by_verdict_lem x h (accepted k) e =
      let d = answer_derives (min limit level_limit) {xs = body_symbols text 0 (length text)} e in
      (k, list_body text 0 (length text) x (record { derived = d.0; within = omega (arith, d.1) }), omega (arith, d.1))
  by_verdict_lem x h (refused why rest) e = absurd (true≢false (sym h ∙ within_decided x e))

  -- a text that is found is a list of no more levels
  pub within_listed : list_within limit text ≡ true → (k : Derivation) × ListBody text 0 (length text) k × (levels k ≤ limit)
  within_listed h = elim (body_case text 0 (length text)) [ refused_body n p e ↦ absurd (true≢false (sym h ∙ within_refused e)) | clean_body x ↦ by_verdict_lem x h _ refl ]

  -- a list of no more levels is found
  pub within_few : {k : Derivation} → ListBody text 0 (length text) k → levels k ≤ limit → list_within limit text ≡ true
  within_few b few =
      within_decided b.clean (answer_accepts (min limit level_limit) b.list.derived (omega (arith, b.list.within)))

  -- a list that is not found has more levels
  pub within_not : {k : Derivation} → ListBody text 0 (length text) k → list_within limit text ≡ false → limit < levels k
  within_not {k} b h = elim (dec_lt limit (levels k)) [ yes l ↦ l | no l ↦ absurd (true≢false (sym (within_few b (omega arith)) ∙ h)) ]
