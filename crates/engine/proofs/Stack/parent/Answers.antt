-- `engine::Stack::parent` meets its contract. Assumes nothing.
use native.Mathlib.Omega.{arith}
use Rattle.engine.proofs.CodeLaws.{parent_outermost, parent_around}
use Rattle.engine.proofs.Stack.parent.Goals as goal

pub returns-then-depth-eq0 : goal.returns-then-depth-eq0
returns-then-depth-eq0 c = parent_outermost c.args.self.now.levels c.args.depth (omega arith)

pub returns : goal.returns
returns c = parent_around c.args.self.now.levels c.args.depth (λ e. omega arith)
