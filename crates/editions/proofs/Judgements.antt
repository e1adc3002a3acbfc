-- What is answered in the edition with any number, whatever is written of a list: a refusal, or what is written of a derivation whose records
-- are read back from a table; and that in RFC 733 it is what is answered without an edition. Assumes nothing.
use Prim.Native.Nat.{ℕ, ◌≤◌}
use native.Mathlib.Omega.{arith}
use mathlib.Core.Path.{◌≡◌, refl, ◌∙◌}
use mathlib.Core.Bool.{Bool, true, false}
use mathlib.Core.List.{List}
use lib.Dec.{eqb, ltb}
use lib.ListN.{length}
use Rattle.octets.specs.Believed.Numbers.{message_limit, level_limit, message_too_long, edition_unknown}
use Rattle.scanner.specs.Believed.Symbols.{Symbol}
use Rattle.scanner.specs.declared.Class.{Class}
use Rattle.grammar.specs.Believed.Grammar.{Forest}
use Rattle.grammar.specs.Believed.Language.{Verdict}
use Rattle.grammar.specs.Believed.Rfc733.{Nonterminal}
use Rattle.grammar.specs.Executable.{Decides}
use Rattle.grammar.proofs.Any.Positions.{ReadBack}
use Rattle.grammar.specs.Executable.Machine733.{answer}
use Rattle.grammar.proofs.Rfc733.Condition3 as rules733
use Rattle.grammar.specs.Executable.Machine822.{read}
use Rattle.grammar.proofs.Rfc822.Condition3 as rules822
use Rattle.addresses.specs.Believed.Editions.{Edition, edition733, edition822}
use Rattle.addresses.specs.Believed.Outcome.{read_in, body_read}
use Rattle.addresses.proofs.Judgements as judged-by
use Rattle.addresses.proofs.Judgements.{listed_read_in, judged_in}
use Rattle.addresses.proofs.RecordsRead.{TakesInPlace, takes_733, takes_822, body_read_back}
use Rattle.editions.specs.Believed.Outcome.{read_of}

-- whatever is answered of a refusal or of a derivation, of this body it is this
abbrev pub AnsweredBy : ℕ → List ℕ → ℕ → ℕ → ((A : Type 0) → (ℕ → ℕ → A) → ((N : Type 0) → Forest Class N → A) → A) → Type 1
AnsweredBy edition message start end this = (A : Type 0) (refuse : ℕ → ℕ → A) (derive : (N : Type 0) → Forest Class N → A) → read_of edition refuse derive message start end ≡ this A refuse derive

-- refused, or a list
pub data JudgedOf (edition : ℕ) (message : List ℕ) (start end : ℕ) : Type 1 where
  refused_at : (n p : ℕ) → AnsweredBy edition message start end (λ A refuse derive. refuse n p) → JudgedOf edition message start end
  listed : {N : Type 0} (k : Forest Class N) → ReadBack k → AnsweredBy edition message start end (λ A refuse derive. derive N k) → JudgedOf edition message start end

-- in RFC 733 it is what is answered where no edition is told
pub unchanged_733 : {A : Type 0} (refuse : ℕ → ℕ → A) (derive : (N : Type 0) → Forest Class N → A) (message : List ℕ) (start end : ℕ) → read_of 733 refuse derive message start end ≡ body_read refuse (derive Nonterminal) message start end
unchanged_733 refuse derive message start end = by (ltb message_limit (length message)) refl
  where
    by : (long : Bool) → ltb message_limit (length message) ≡ long → read_of 733 refuse derive message start end ≡ body_read refuse (derive Nonterminal) message start end
    by true e = rw e
    by false e = rw e

module _ (edition : ℕ) (message : List ℕ) (start end : ℕ) where
  -- an edition with rules
  by_rules : {N : Type 0} (ed : Edition N) (least : ℕ) (answer_of : ℕ → List (Symbol Class) → Verdict Class (Forest Class N)) → Decides ed.grammar ed.list least answer_of → least ≤ level_limit → TakesInPlace ed
      → AnsweredBy edition message start end (λ A refuse derive. read_in ed (answer_of level_limit) refuse (derive N) message start end) → JudgedOf edition message start end
  by_rules {N} ed least answer_of right below takes same =
      elim (judged_in ed least answer_of right below message start end) [
        | judged-by.refused_at n p f ↦ refused_at n p (λ A refuse derive. same A refuse derive ∙ f A refuse (derive N))
        | judged-by.listed k b ↦ listed k (body_read_back ed takes b) (λ A refuse derive. same A refuse derive ∙ listed_read_in ed least answer_of right below b refuse (derive N))
      ]

  by_tests : (a b c : Bool) → ltb message_limit (length message) ≡ a → eqb edition 733 ≡ b → eqb edition 822 ≡ c → JudgedOf edition message start end
  by_tests true b c e f g = refused_at message_too_long message_limit (λ A refuse derive. rw e)
  by_tests false true c e f g = by_rules edition733 0 answer rules733.decides (omega arith) takes_733 (λ A refuse derive. rw (e, f))
  by_tests false false true e f g = by_rules edition822 2 read rules822.decides (omega arith) takes_822 (λ A refuse derive. rw (e, f, g))
  by_tests false false false e f g = refused_at edition_unknown 0 (λ A refuse derive. rw (e, f, g))

  pub judged_of : JudgedOf edition message start end
  judged_of = by_tests _ _ _ refl refl refl
