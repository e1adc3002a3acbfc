-- `vectors::digits` meets its contract: what is read so far stands in n. Assumes nothing.
use mathlib.Core.Path.{◌≡◌}
use Prim.Native.Nat.{◌-◌, ◌<◌}
use lib.ListN.{length, drop}
use Rattle.vectors.specs.Believed.Reading.{digits_from}
use Rattle.vectors.proofs.digits.Given as goal

abbrev pub invariant-loop-i : goal.invariant-loop-i
invariant-loop-i l = (l.n < 10000000000000000000) × (digits_from 0 l.text ≡ digits_from l.n (drop l.i l.text))

abbrev pub decreases-loop-i : goal.decreases-loop-i
decreases-loop-i l = length l.text - l.i
