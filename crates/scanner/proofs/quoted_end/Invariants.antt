-- `scanner::quoted_end` meets its contract: the quoted-string is open up to the position reached. Assumes nothing.
use Prim.Native.Nat.{◌-◌, ◌≤◌}
use lib.ListN.{length}
use Rattle.scanner.proofs.MoveLaws.{Counting}
use Rattle.scanner.proofs.quoted_end.Given as goal

abbrev pub invariant-loop-kind : goal.invariant-loop-kind
invariant-loop-kind l =
    (l.p ≤ length l.text) × Counting l.classes l.text l.start l.at l.p l.length

abbrev pub decreases-loop-kind : goal.decreases-loop-kind
decreases-loop-kind l = length l.text - l.p
