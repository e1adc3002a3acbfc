-- `vectors::put_copied` meets its contract: the bytes up to i are put, and those from i on are left. Assumes nothing.
use mathlib.Core.Path.{◌≡◌}
use Prim.Native.Nat.{◌-◌, ◌≤◌}
use lib.ListN.{length, drop}
use Rattle.vectors.specs.Believed.Reading.{copied}
use Rattle.vectors.proofs.PutLaws.{Left}
use Rattle.vectors.proofs.put_copied.Given as goal

abbrev pub invariant-loop-i : goal.invariant-loop-i
invariant-loop-i l = (l.i ≤ length l.text) × (length l.out ≡ length l.initial.out) × Left l.initial.out l.n (copied l.coded l.text) l.out l.m (copied l.coded (drop l.i l.text))

abbrev pub decreases-loop-i : goal.decreases-loop-i
decreases-loop-i l = length l.text - l.i
