-- `expansion::include_end` meets its contract. Assumes nothing.
use Prim.Native.Nat.{◌-◌}
use lib.ListN.{length}
use Rattle.expansion.proofs.SeekSteps.{Skipping}
use Rattle.expansion.proofs.text.Text.include_end.Given as goal

abbrev pub invariant-loop-symbol : goal.invariant-loop-symbol
invariant-loop-symbol l = Skipping l.self.classes.now l.self.bytes.now l.at l.p l.inner

abbrev pub decreases-loop-symbol : goal.decreases-loop-symbol
decreases-loop-symbol l = length l.self.bytes.now - l.p
