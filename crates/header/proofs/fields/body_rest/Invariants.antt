-- `header::fields::body_rest` meets its contract: the bytes passed are the body's, so it goes on from here. Assumes nothing.
use lib.ListN.{length}
use Prim.Native.Nat.{◌-◌}
use Rattle.header.specs.Ties.Steps.{GoesOn}
use Rattle.header.proofs.fields.body_rest.Given as goal

abbrev pub invariant-loop-name : goal.invariant-loop-name
invariant-loop-name l = GoesOn l.message l.start l.from

abbrev pub decreases-loop-name : goal.decreases-loop-name
decreases-loop-name l = length l.message - l.from
