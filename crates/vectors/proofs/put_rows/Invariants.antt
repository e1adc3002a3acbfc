-- `vectors::put_rows` meets its contract: the first i of them are put. Assumes nothing.
use mathlib.Core.Path.{◌≡◌}
use Prim.Native.Nat.{◌+◌, ◌-◌, ◌≤◌}
use lib.ListN.{length}
use Rattle.vectors.specs.Believed.Answers.{rows}
use Rattle.vectors.proofs.PutLaws.{Left}
use Rattle.vectors.proofs.put_rows.Given as goal

abbrev pub invariant-loop-i : goal.invariant-loop-i
invariant-loop-i l = (l.i ≤ l.many) × (length l.out ≡ length l.initial.out) × Left l.initial.out l.n (rows l.size l.table l.many l.from) l.out l.m (rows l.size l.table (l.many - l.i) (l.from + l.i))

abbrev pub decreases-loop-i : goal.decreases-loop-i
decreases-loop-i l = l.many - l.i
