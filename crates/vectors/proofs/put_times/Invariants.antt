-- `vectors::put_times` meets its contract: it is put i times. Assumes nothing.
use mathlib.Core.Path.{◌≡◌}
use Prim.Native.Nat.{◌-◌, ◌≤◌}
use lib.ListN.{length}
use Rattle.vectors.specs.Believed.Reading.{times}
use Rattle.vectors.proofs.PutLaws.{Left}
use Rattle.vectors.proofs.put_times.Given as goal

abbrev pub invariant-loop-i : goal.invariant-loop-i
invariant-loop-i l = (l.i ≤ l.many) × (length l.out ≡ length l.initial.out) × Left l.initial.out l.n (times l.many l.text) l.out l.m (times (l.many - l.i) l.text)

abbrev pub decreases-loop-i : goal.decreases-loop-i
decreases-loop-i l = l.many - l.i
