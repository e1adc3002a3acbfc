-- `header::fields::past_plain` meets its contract: the bytes passed are the body's. Assumes nothing.
use Prim.Native.Nat.{◌-◌}
use lib.ListN.{length}
use Rattle.header.specs.Ties.Steps.{GoesOn}
use Rattle.header.proofs.fields.past_plain.Given as goal

abbrev pub invariant-loop-p : goal.invariant-loop-p
invariant-loop-p l = GoesOn l.message l.at l.p

abbrev pub decreases-loop-p : goal.decreases-loop-p
decreases-loop-p l = length l.message - l.p
