use native.Mathlib.Omega.{arith}
use Rattle.expansion.proofs.LevelLaws.{comes_first, comes_next, comes_stop, comes_end}
use Rattle.expansion.proofs.levels.Levels.without_typed.Goals as goal

pub loop-left-init : goal.loop-left-init
loop-left-init c = comes_first _

pub loop-left-preserved : goal.loop-left-preserved
loop-left-preserved c = comes_next c.loop-left.invariant (rw c.if-in_typed.true at c.in_typed.ensures) c.without_one-left.ensures.follows

pub returns-else-in_typed : goal.returns-else-in_typed
returns-else-in_typed c = comes_stop c.loop-left.invariant (rw c.if-in_typed.false at c.in_typed.ensures)

pub returns-after-loop-left : goal.returns-after-loop-left
returns-after-loop-left c = comes_end c.loop-left.invariant (omega arith)
