-- `scanner::past_harmless` meets its contract: the bytes passed hold no fault. Assumes nothing.
use Prim.Native.Nat.{◌-◌}
use lib.ListN.{length}
use Rattle.scanner.specs.Ties.Steps.{FaultsFrom}
use Rattle.scanner.proofs.past_harmless.Given as goal

abbrev pub invariant-loop-p : goal.invariant-loop-p
invariant-loop-p l = FaultsFrom l.classes l.text l.at l.p

abbrev pub decreases-loop-p : goal.decreases-loop-p
decreases-loop-p l = length l.text - l.p
