-- `engine::actions::end_at` meets its contract. Assumes nothing.
use Rattle.engine.proofs.ActionLaws.{end_entry}
use Rattle.engine.proofs.actions.end_at.Goals as goal

pub returns : goal.returns
returns c = rw c.number.ensures (end_entry c.args.mode _)
