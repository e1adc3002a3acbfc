-- `engine::Stack::close_typed` meets its contract. Assumes nothing.
use mathlib.Core.Path.{◌≡◌}
use mathlib.Core.List.{List}
use Prim.Native.Nat.{ℕ, ◌≤◌}
use lib.ListN.{length}
use Rattle.octets.specs.Believed.Numbers.{level_limit}
use Rattle.grammar.specs.Executable.Trees733.{Address}
use Rattle.grammar.specs.Executable.Machine733.{Here}
use Rattle.engine.specs.Ties.Turns.{Closing}
use Rattle.engine.proofs.CodeLaws.{ClosingOn}
use Rattle.engine.proofs.Stack.close_typed.Given as goal

abbrev pub invariant-loop-left : goal.invariant-loop-left
invariant-loop-left l =
    (l.left ≤ level_limit) × (length l.table ≡ length l.initial.table)
    × ((lent : List ℕ) (h : Here) (a : Address) → Closing lent l.self.levels l.initial.table l.depth l.end h a → ClosingOn lent l.self.levels l.end h a l.table l.left)

abbrev pub decreases-loop-left : goal.decreases-loop-left
decreases-loop-left l = l.left
