-- `scanner::next_by` meets its contract: scanning outside has come to the position reached without a symbol, and a symbol there stands apart where that is another. Assumes nothing.
use mathlib.Core.Path.{◌≡◌}
use Prim.Native.Nat.{◌-◌, ◌≤◌}
use lib.Dec.{ltb}
use lib.ListN.{length}
use Rattle.scanner.specs.Ties.Steps.{outside_at}
use Rattle.scanner.proofs.next_by.Given as goal

abbrev pub invariant-loop-kind : goal.invariant-loop-kind
invariant-loop-kind l =
    (outside_at l.classes l.text l.at ≡ outside_at l.classes l.text l.p) × (l.at ≤ l.p) × (l.apart ≡ ltb l.at l.p)

abbrev pub decreases-loop-kind : goal.decreases-loop-kind
decreases-loop-kind l = length l.text - l.p
