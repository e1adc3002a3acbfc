-- `engine::Stack::put_level` meets its contract. Assumes nothing.
use Rattle.engine.proofs.CodeLaws.{level_put}
use Rattle.engine.proofs.Stack.put_level.Goals as goal

pub returns : goal.returns
returns c = λ h start kind first last l. level_put c.args.table.now c.args.end h start kind first last l (c.parent.ensures h l.is_open) c.store.ensures
