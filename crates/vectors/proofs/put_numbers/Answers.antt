use mathlib.Core.Path.{refl, ◌∙◌}
use mathlib.Core.List.{◌∷◌}
use native.Mathlib.Omega.{arith}
use Rattle.octets.specs.Believed.Octets.{space_byte}
use Rattle.vectors.proofs.PutLaws.{puts_both, left_all, left_after, left_none}
use Rattle.vectors.proofs.AnswerLaws.{spaced_next, spaced_end}
use Rattle.vectors.proofs.put_numbers.Goals as goal

pub loop-i-init : goal.loop-i-init
loop-i-init c = (omega arith, refl, left_all _ _ _)

pub bounds-numbers-i : goal.bounds-numbers-i
bounds-numbers-i c = omega arith

pub loop-i-preserved : goal.loop-i-preserved
loop-i-preserved c =
    let loop = c.loop-i in
    (omega arith, c.put_decimal-m.auto.out ∙ c.put-p.auto.out ∙ loop.invariant.1, left_after loop.invariant.2 (λ rest. spaced_next c.args.numbers.now loop.i rest (omega arith)) (puts_both {f = λ rest. space_byte ∷ rest} c.put-p.ensures c.put_decimal-m.ensures))

pub shape_of-out : goal.shape_of-out
shape_of-out c = c.loop-i.invariant.1

pub returns : goal.returns
returns c =
    let loop = c.loop-i in
    left_none loop.invariant.2 (λ rest. spaced_end c.args.numbers.now loop.i rest (omega arith))
