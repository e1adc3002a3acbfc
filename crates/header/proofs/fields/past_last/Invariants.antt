-- `header::fields::past_last` meets its contract: the bytes passed are the body's. Assumes nothing.
use Rattle.header.specs.Ties.Steps.{GoesOn}
use Rattle.header.proofs.fields.past_last.Given as goal

abbrev pub invariant-loop-p : goal.invariant-loop-p
invariant-loop-p l = GoesOn l.message l.at l.p
