use mathlib.Core.Path.{refl, sym, ◌∙◌}
use native.Mathlib.Omega.{arith}
use Rattle.header.proofs.StepLaws.{goes_one}
use Rattle.header.proofs.fields.past_last.Goals as goal

pub loop-p-preserved : goal.loop-p-preserved
loop-p-preserved c = goes_one c.loop-p.invariant (omega arith) (sym c.is_plain.ensures ∙ c.if-not-is_plain.false) refl
