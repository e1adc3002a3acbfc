-- `expansion::held_at` meets its contract. Assumes nothing.
use Prim.Native.Nat.{◌-◌}
use mathlib.Core.Path.{◌≡◌}
use lib.ListN.{length}
use Rattle.addresses.specs.Ties.Steps.{symbols_from}
use Rattle.expansion.specs.Ties.Walk.{held_by}
use Rattle.expansion.proofs.text.Text.held_at.Given as goal

abbrev pub invariant-loop-symbol : goal.invariant-loop-symbol
invariant-loop-symbol l = held_by (symbols_from l.self.classes.now l.self.bytes.now l.at) ≡ held_by (symbols_from l.self.classes.now l.self.bytes.now l.p)

abbrev pub decreases-loop-symbol : goal.decreases-loop-symbol
decreases-loop-symbol l = length l.self.bytes.now - l.p
