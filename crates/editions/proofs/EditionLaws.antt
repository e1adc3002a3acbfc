-- In RFC 822 what the outcome says, condition 3 says by the rules of the edition, and 10 is never answered. Assumes nothing.
use Prim.Native.Nat.{ℕ}
use native.Mathlib.Omega.{arith}
use mathlib.Core.Path.{◌≡◌, sym, ap, ◌∙◌}
use mathlib.Core.List.{List}
use Rattle.octets.specs.declared.answers.Answer.{Answer}
use Rattle.octets.specs.Believed.Answers.{number_of}
use Rattle.grammar.specs.Executable.Machine822.{read}
use Rattle.grammar.proofs.Rfc822.Condition3.{decides}
use Rattle.addresses.specs.Believed.Editions.{edition822}
use Rattle.addresses.specs.Believed.Outcome.{AnsweredBy}
use Rattle.addresses.proofs.AnyEdition as any
use Rattle.editions.specs.Believed.Outcome.{outcome822, Condition3Of, NeverTooDeep}
use Rattle.editions.proofs.LevelLaws.{shallow}

module _ (message : List ℕ) (start end : ℕ) (table : List ℕ) {r : Answer} {after : List ℕ} (a : AnsweredBy (outcome822 message start end table) r after) where
  pub settles_822 : {edition : ℕ} → edition ≡ 822 → Condition3Of edition message start end table r after
  settles_822 e =
      record {
        of733 = λ q. absurd (omega arith);
        of822 = λ q h. any.settles edition822 2 read decides (omega arith) message start end table r after a h;
      }

  pub never_deep : {edition : ℕ} → NeverTooDeep edition r
  never_deep e q = shallow message start end table (sym (ap number_of a.answer_is) ∙ q)
