-- `scanner::faultless` meets its contract: up to the position reached there is no fault. Assumes nothing.
use mathlib.Core.Path.{◌≡◌}
use Prim.Native.Nat.{◌-◌}
use lib.ListN.{length}
use Rattle.scanner.specs.Believed.Scanning.{scan_by}
use Rattle.scanner.specs.Believed.Answers.{fault_of}
use Rattle.scanner.proofs.faultless.Given as goal

abbrev pub invariant-loop-symbol : goal.invariant-loop-symbol
invariant-loop-symbol l =
    fault_of (scan_by l.classes l.text l.at) ≡ fault_of (scan_by l.classes l.text l.p)

abbrev pub decreases-loop-symbol : goal.decreases-loop-symbol
decreases-loop-symbol l = length l.text - l.p
