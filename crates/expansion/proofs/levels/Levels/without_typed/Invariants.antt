use Rattle.expansion.proofs.LevelLaws.{Comes}
use Rattle.expansion.proofs.levels.Levels.without_typed.Given as goal

abbrev pub invariant-loop-left : goal.invariant-loop-left
invariant-loop-left l = Comes l.initial.left l.left

abbrev pub decreases-loop-left : goal.decreases-loop-left
decreases-loop-left l = l.left.many
