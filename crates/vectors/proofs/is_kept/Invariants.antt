-- `vectors::is_kept` meets its contract: the bytes passed are as they were. Assumes nothing.
use mathlib.Core.Path.{◌≡◌}
use Prim.Native.Nat.{◌-◌}
use lib.ListN.{length, drop}
use Rattle.vectors.specs.Believed.Answers.{untouched}
use Rattle.vectors.proofs.is_kept.Given as goal

abbrev pub invariant-loop-i : goal.invariant-loop-i
invariant-loop-i l = untouched (drop l.from l.table) ≡ untouched (drop l.i l.table)

abbrev pub decreases-loop-i : goal.decreases-loop-i
decreases-loop-i l = length l.table - l.i
