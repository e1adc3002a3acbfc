use native.Mathlib.Omega.{arith}
use Rattle.vectors.proofs.ReadLaws.{none_at_first, cut_here, none_next, cut_nowhere}
use Rattle.vectors.proofs.cut.Goals as goal

pub loop-i-init : goal.loop-i-init
loop-i-init c = none_at_first _ _

pub bounds-text-i : goal.bounds-text-i
bounds-text-i c = omega arith

pub returns-then-text-i : goal.returns-then-text-i
returns-then-text-i c = cut_here c.loop-i.invariant (omega arith) c.if-text-i.true

pub loop-i-preserved : goal.loop-i-preserved
loop-i-preserved c = none_next c.loop-i.invariant (omega arith) c.if-text-i.false

pub returns : goal.returns
returns c = cut_nowhere c.loop-i.invariant (omega arith)
