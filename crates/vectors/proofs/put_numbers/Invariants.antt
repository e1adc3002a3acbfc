-- `vectors::put_numbers` meets its contract: the numbers up to i are put, and those from i on are left. Assumes nothing.
use mathlib.Core.Path.{◌≡◌}
use Prim.Native.Nat.{◌-◌, ◌≤◌}
use lib.ListN.{length, drop}
use Rattle.listing.specs.Believed.Lines.{spaced}
use Rattle.vectors.proofs.PutLaws.{Left}
use Rattle.vectors.proofs.put_numbers.Given as goal

abbrev pub invariant-loop-i : goal.invariant-loop-i
invariant-loop-i l = (l.i ≤ length l.numbers) × (length l.out ≡ length l.initial.out) × Left l.initial.out l.n (spaced l.numbers) l.out l.m (spaced (drop l.i l.numbers))

abbrev pub decreases-loop-i : goal.decreases-loop-i
decreases-loop-i l = length l.numbers - l.i
