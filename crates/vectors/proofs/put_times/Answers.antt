use mathlib.Core.Path.{refl, ◌∙◌}
use native.Mathlib.Omega.{arith}
use Rattle.vectors.proofs.PutLaws.{left_all, left_as, left_after, left_none}
use Rattle.vectors.proofs.ReadLaws.{times_all, times_next, times_none}
use Rattle.vectors.proofs.put_times.Goals as goal

pub loop-i-init : goal.loop-i-init
loop-i-init c =
    let args = c.args in
    (omega arith, refl, left_as (left_all _ _ _) (λ rest. times_all args.many 0 args.text.now rest))

pub loop-i-preserved : goal.loop-i-preserved
loop-i-preserved c =
    let loop = c.loop-i in
    let args = c.args in
    (omega arith, c.put_copied-m.auto.out ∙ loop.invariant.1, left_after loop.invariant.2 (λ rest. times_next args.many loop.i args.text.now rest (omega arith)) c.put_copied-m.ensures)

pub shape_of-out : goal.shape_of-out
shape_of-out c = c.loop-i.invariant.1

pub returns : goal.returns
returns c =
    let loop = c.loop-i in
    let args = c.args in
    left_none loop.invariant.2 (λ rest. times_none args.many loop.i args.text.now rest (omega arith))
