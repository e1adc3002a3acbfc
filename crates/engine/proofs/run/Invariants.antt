-- `engine::run` meets its contract: each symbol takes the machine one step on. Assumes nothing.
use mathlib.Core.Path.{◌≡◌}
use Prim.Native.Nat.{◌-◌}
use lib.ListN.{length}
use Rattle.engine.proofs.LoopLaws.{Reading}
use Rattle.engine.proofs.run.Given as goal

abbrev pub invariant-loop-symbol : goal.invariant-loop-symbol
invariant-loop-symbol l = Reading l.classes l.text l.initial.table l.at l.engine l.stack l.table × (length l.table ≡ length l.initial.table)

abbrev pub decreases-loop-symbol : goal.decreases-loop-symbol
decreases-loop-symbol l = length l.text - l.engine.at
