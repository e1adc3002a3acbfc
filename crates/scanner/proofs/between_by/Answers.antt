-- `scanner::between_by` meets its contract. Assumes nothing.
use native.Mathlib.Omega.{arith}
use Rattle.scanner.proofs.CategoryLaws.{walk_over, walk_tells, walk_ends, walk_on}
use Rattle.scanner.proofs.between_by.Goals as goal

pub returns-then-place-next : goal.returns-then-place-next
returns-then-place-next c = walk_tells c.loop-kind.invariant.2 c.in-Some.ensures (omega arith) c.gap_category.ensures

pub returns-in_default-pass : goal.returns-in_default-pass
returns-in_default-pass c = walk_ends c.loop-kind.invariant.2 c.in-Some.ensures (omega arith) c.in_default-pass.ensures.0

pub loop-kind-preserved : goal.loop-kind-preserved
loop-kind-preserved c =
    let x = c.in-Some.ensures in
    let l = c.loop-kind in
    let f = c.in-Some-pass.ensures in
    (omega (arith, x.from, x.behind, l.invariant.0), omega (arith, x.from, x.behind, l.invariant.1, f.1), walk_on l.invariant.2 x (omega arith) f.0)

pub returns : goal.returns
returns c = walk_over c.loop-kind.invariant.2 c.in_default.ensures
