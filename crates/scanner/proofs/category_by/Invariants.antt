-- `scanner::category_by` meets its contract: the place lies at or after the position reached, from which there is no fault. Assumes nothing.
use mathlib.Core.Path.{◌≡◌}
use Prim.Native.Nat.{◌-◌, ◌≤◌}
use lib.ListN.{length}
use Rattle.scanner.specs.Believed.Scanning.{scan_by}
use Rattle.scanner.specs.Believed.Categories.{category_of}
use Rattle.scanner.specs.Ties.Steps.{Faultless}
use Rattle.scanner.proofs.category_by.Given as goal

abbrev pub invariant-loop-symbol : goal.invariant-loop-symbol
invariant-loop-symbol l =
    (l.p ≤ l.place) × Faultless l.classes l.text l.p × (category_of l.classes l.text l.place l.at (scan_by l.classes l.text l.at) ≡ category_of l.classes l.text l.place l.p (scan_by l.classes l.text l.p))

abbrev pub decreases-loop-symbol : goal.decreases-loop-symbol
decreases-loop-symbol l = length l.text - l.p
