-- `engine::read_whole` meets its contract. Assumes nothing.
use Rattle.engine.proofs.LoopLaws.{ended_stands, ended_whole}
use Rattle.engine.proofs.read_whole.Goals as goal

pub run-fault-requires : goal.run-fault-requires
run-fault-requires c = (c.requires.0, c.requires.1, c.new-stack.ensures)

pub finish-requires : goal.finish-requires
finish-requires c = record { lent = _; state = _; stands = ended_stands c.run-fault.ensures c.in-None.is }

pub returns-in-Some : goal.returns-in-Some
returns-in-Some c = rw c.in-Some.is at c.run-fault.ensures.stops

pub returns-in-None : goal.returns-in-None
returns-in-None c =
    let x = c.run-fault.ensures in
    ended_whole x c.in-None.is _ c.finish.result (c.finish.ensures _ _ (ended_stands x c.in-None.is))
