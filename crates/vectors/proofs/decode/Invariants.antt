-- `vectors::decode` meets its contract: what the bytes up to i stand for is put. Assumes nothing.
use mathlib.Core.Path.{◌≡◌}
use Prim.Native.Nat.{◌-◌, ◌≤◌}
use mathlib.Core.Bool.{false}
use lib.ListN.{length, drop}
use Rattle.vectors.specs.Believed.Putting.{putting}
use Rattle.vectors.specs.Believed.Reading.{decoded}
use Rattle.vectors.proofs.decode.Given as goal

abbrev pub invariant-loop-i : goal.invariant-loop-i
invariant-loop-i l = (l.i ≤ length l.text) × (length l.out ≡ length l.initial.out) × (putting l.initial.out 0 (decoded false l.text) ≡ putting l.out l.n (decoded l.inside (drop l.i l.text)))

abbrev pub decreases-loop-i : goal.decreases-loop-i
decreases-loop-i l = length l.text - l.i
