-- `engine::make_typed` meets its contract. Assumes nothing.
use Prim.Native.Nat.{◌-◌}
use native.Mathlib.Omega.{arith}
use Rattle.engine.proofs.TurnLaws.{turned_typed}
use Rattle.engine.proofs.make_typed.Goals as goal

pub returns : goal.returns
returns c = λ lent table h colon atom t x. rw c.goes_on.ensures (turned_typed t x (c.args.stack.now.depth - 1) c.typed_kind.result (omega (arith, x.stands.depth_is)) c.typed_kind.ensures)
