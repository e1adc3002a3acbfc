-- `engine::actions::action_at` meets its contract. Assumes nothing.
use Rattle.engine.proofs.ActionLaws.{entry_at}
use Rattle.engine.proofs.actions.action_at.Goals as goal

pub returns : goal.returns
returns c = rw (c.requires, c.number.ensures, c.class_number.ensures.0) (entry_at c.args.mode c.args.class _ _)
