-- `scanner::between_by` meets its contract: up to the position reached all lies between symbols. Assumes nothing.
use Prim.Native.Nat.{◌-◌, ◌≤◌}
use lib.ListN.{length}
use Rattle.scanner.specs.Ties.Gaps.{gap_depth}
use Rattle.scanner.proofs.CategoryLaws.{Walked}
use Rattle.scanner.proofs.between_by.Given as goal

abbrev pub invariant-loop-kind : goal.invariant-loop-kind
invariant-loop-kind l = (l.at ≤ l.p) × (gap_depth l.gap ≤ l.p) × Walked l.classes l.text l.place l.at l.p l.gap

abbrev pub decreases-loop-kind : goal.decreases-loop-kind
decreases-loop-kind l = length l.text - l.p
