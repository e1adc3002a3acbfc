use mathlib.Core.Path.{refl, ◌∙◌}
use native.Mathlib.Omega.{arith}
use Rattle.vectors.proofs.PutLaws.{left_all, left_after, left_none}
use Rattle.vectors.proofs.ReadLaws.{copied_next, copied_end}
use Rattle.vectors.proofs.put_copied.Goals as goal

pub loop-i-init : goal.loop-i-init
loop-i-init c = (omega arith, refl, left_all _ _ _)

pub bounds-text-i : goal.bounds-text-i
bounds-text-i c = omega arith

pub loop-i-preserved : goal.loop-i-preserved
loop-i-preserved c =
    let loop = c.loop-i in
    let args = c.args in
    (omega arith, c.put-m.auto.out ∙ loop.invariant.1, left_after loop.invariant.2 (λ rest. copied_next args.coded args.text.now loop.i rest (omega arith)) (rw c.taken.ensures at c.put-m.ensures))

pub shape_of-out : goal.shape_of-out
shape_of-out c = c.loop-i.invariant.1

pub returns : goal.returns
returns c =
    let loop = c.loop-i in
    let args = c.args in
    left_none loop.invariant.2 (λ rest. copied_end args.coded args.text.now loop.i rest (omega arith))
