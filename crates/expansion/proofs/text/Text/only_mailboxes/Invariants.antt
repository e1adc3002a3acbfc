use Prim.Native.Nat.{◌-◌}
use mathlib.Core.Path.{◌≡◌}
use lib.ListN.{length}
use Rattle.addresses.specs.Ties.Steps.{symbols_from}
use Rattle.expansion.specs.declared.text.Seen.TheVariants.{Nothing}
use Rattle.expansion.specs.Ties.Walk.{only}
use Rattle.expansion.proofs.text.Text.only_mailboxes.Given as goal

abbrev pub invariant-loop-symbol : goal.invariant-loop-symbol
invariant-loop-symbol l = only Nothing (symbols_from l.self.classes.now l.self.bytes.now l.at) ≡ only l.seen (symbols_from l.self.classes.now l.self.bytes.now l.p)

abbrev pub decreases-loop-symbol : goal.decreases-loop-symbol
decreases-loop-symbol l = length l.self.bytes.now - l.p
