-- `engine::open_level` meets its contract. Assumes nothing.
use Rattle.engine.proofs.TurnLaws.{opened}
use Rattle.engine.proofs.open_level.Goals as goal

pub returns : goal.returns
returns c = λ text lent table h o t angle x. opened angle h o x c.in_ok-push.ensures
