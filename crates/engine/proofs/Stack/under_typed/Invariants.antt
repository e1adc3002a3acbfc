-- `engine::Stack::under_typed` meets its contract. Assumes nothing.
use Prim.Native.Nat.{◌≤◌}
use Rattle.octets.specs.Believed.Numbers.{level_limit}
use Rattle.grammar.specs.Executable.Trees733.{Address}
use Rattle.grammar.specs.Executable.Machine733.{Here}
use Rattle.engine.specs.Ties.Turns.{OpenHere}
use Rattle.engine.proofs.ExpectingLaws.{UnderOn}
use Rattle.engine.proofs.Stack.under_typed.Given as goal

abbrev pub invariant-loop-left : goal.invariant-loop-left
invariant-loop-left l = (l.left ≤ level_limit) × ((h : Here) (a : Address) → OpenHere l.self.levels h l.self.depth → UnderOn l.self.levels h a l.left)

abbrev pub decreases-loop-left : goal.decreases-loop-left
decreases-loop-left l = l.left
