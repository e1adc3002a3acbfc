-- `engine::expected_at_stop` meets its contract. Assumes nothing.
use Rattle.engine.proofs.ExpectingLaws.{stands_at}
use Rattle.engine.proofs.expected_at_stop.Goals as goal

pub run-stopped-requires : goal.run-stopped-requires
run-stopped-requires c = (c.requires.0, c.requires.1, c.new-stack.ensures)

pub expected_here-requires : goal.expected_here-requires
expected_here-requires c = (stands_at c.run-stopped.ensures.stands, c.requires.1)

pub returns : goal.returns
returns c = c.expected_here.ensures (stands_at c.run-stopped.ensures.stands)
