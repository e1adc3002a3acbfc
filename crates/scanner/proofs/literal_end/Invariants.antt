-- `scanner::literal_end` meets its contract: the literal-string is open up to the position reached. Assumes nothing.
use Prim.Native.Nat.{◌-◌, ◌≤◌}
use lib.ListN.{length}
use Rattle.scanner.proofs.MoveLaws.{InLiteral}
use Rattle.scanner.proofs.literal_end.Given as goal

abbrev pub invariant-loop-kind : goal.invariant-loop-kind
invariant-loop-kind l =
    (l.p ≤ length l.text) × InLiteral l.classes l.text l.start l.at l.p

abbrev pub decreases-loop-kind : goal.decreases-loop-kind
decreases-loop-kind l = length l.text - l.p
