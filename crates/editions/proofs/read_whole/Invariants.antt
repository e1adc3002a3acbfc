-- `editions::read_whole` meets its contract: the loop has come to a position, with the records so far. Assumes nothing.
use Prim.Native.Nat.{◌-◌}
use lib.ListN.{length}
use Rattle.editions.proofs.LoopLaws.{Come}
use Rattle.editions.proofs.read_whole.Given as goal

abbrev pub invariant-loop-symbol : goal.invariant-loop-symbol
invariant-loop-symbol l = Come l.classes l.text l.at l.initial.table l.table l.p l.w

abbrev pub decreases-loop-symbol : goal.decreases-loop-symbol
decreases-loop-symbol l = length l.text - l.p
