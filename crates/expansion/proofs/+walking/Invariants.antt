-- An opening is further on in the budget.
use Prim.Native.Nat.{◌+◌, ◌*◌, ◌-◌}
use lib.ListN.{length}
use Rattle.octets.specs.Believed.Numbers.{opening_limit}
use Rattle.plain.proofs.WalkSteps.{behind}
use Rattle.expansion.proofs.WalkRuns.{Walking}
use Rattle.expansion.proofs.+walking.Given as goal

abbrev pub decreases-walk : goal.decreases-walk
decreases-walk l = 2 * (opening_limit - l.stage.openings) + 1

abbrev pub decreases-walk_record : goal.decreases-walk_record
decreases-walk_record l = 2 * (opening_limit - l.stage.openings)

abbrev pub invariant-walk-loop-coming : goal.invariant-walk-loop-coming
invariant-walk-loop-coming l = Walking l.text.classes.now l.store l.text.bytes.now l.start l.around l.initial.here l.initial.out l.out l.here l.levels l.coming

abbrev pub decreases-walk-loop-coming : goal.decreases-walk-loop-coming
decreases-walk-loop-coming l = behind (length l.text.bytes.now) l.coming
