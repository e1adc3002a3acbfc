-- `vectors::fill` meets its contract: the front is filled. Assumes nothing.
use mathlib.Core.Path.{◌≡◌}
use mathlib.Core.List.{◌++◌}
use Prim.Native.Nat.{◌-◌, ◌≤◌}
use lib.ListN.{length, drop, replicate}
use Rattle.vectors.specs.Believed.Answers.{untouched_byte}
use Rattle.vectors.proofs.fill.Given as goal

abbrev pub invariant-loop-i : goal.invariant-loop-i
invariant-loop-i l = (l.i ≤ length l.initial.room) × (l.room ≡ replicate l.i untouched_byte ++ drop l.i l.initial.room) × (length l.room ≡ length l.initial.room)

abbrev pub decreases-loop-i : goal.decreases-loop-i
decreases-loop-i l = length l.initial.room - l.i
