-- `expansion::first_stored` meets its contract. Assumes nothing.
use Prim.Native.Nat.{◌-◌}
use mathlib.Core.Path.{◌≡◌}
use lib.ListN.{length}
use Rattle.addresses.specs.Ties.Steps.{symbols_from}
use mathlib.Core.Bool.{true}
use Rattle.expansion.specs.Ties.Walk.{first_of}
use Rattle.expansion.proofs.text.Text.first_stored.Given as goal

abbrev pub invariant-loop-symbol : goal.invariant-loop-symbol
invariant-loop-symbol l = first_of l.store true (symbols_from l.self.classes.now l.self.bytes.now l.at) ≡ first_of l.store l.starts (symbols_from l.self.classes.now l.self.bytes.now l.p)

abbrev pub decreases-loop-symbol : goal.decreases-loop-symbol
decreases-loop-symbol l = length l.self.bytes.now - l.p
