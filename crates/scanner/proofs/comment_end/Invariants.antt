-- `scanner::comment_end` meets its contract: `depth` comments lie around the one that is open at the position reached. Assumes nothing.
use Prim.Native.Nat.{◌-◌, ◌≤◌}
use lib.ListN.{length}
use Rattle.scanner.proofs.MoveLaws.{Commenting}
use Rattle.scanner.proofs.comment_end.Given as goal

abbrev pub invariant-loop-kind : goal.invariant-loop-kind
invariant-loop-kind l =
    (l.p ≤ length l.text) × (l.at ≤ l.p) × (l.depth ≤ l.p) × Commenting l.classes l.text l.start l.at l.depth l.p

abbrev pub decreases-loop-kind : goal.decreases-loop-kind
decreases-loop-kind l = length l.text - l.p
