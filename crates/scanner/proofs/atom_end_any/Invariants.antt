-- `scanner::atom_end_any` meets its contract: the atom has run up to the position reached. Assumes nothing.
use mathlib.Core.Path.{◌≡◌}
use Prim.Native.Nat.{◌-◌, ◌≤◌}
use lib.ListN.{length}
use Rattle.octets.specs.Believed.Text.{part}
use Rattle.scanner.specs.Believed.Characters.{characters_at}
use Rattle.scanner.specs.Believed.Scanning.{in_atom, scan_from}
use Rattle.scanner.proofs.atom_end_any.Given as goal

abbrev pub invariant-loop-kind : goal.invariant-loop-kind
invariant-loop-kind l =
    (l.p ≤ length l.text) × (l.at ≤ l.p)
    × (scan_from l.classes (characters_at l.text l.at) (in_atom l.start l.at (part l.text l.start l.at)) ≡ scan_from l.classes (characters_at l.text l.p) (in_atom l.start l.p (part l.text l.start l.p)))

abbrev pub decreases-loop-kind : goal.decreases-loop-kind
decreases-loop-kind l = length l.text - l.p
