-- `addresses::Walk::read_nodes` meets its contract. Assumes nothing.
use mathlib.Core.Path.{◌≡◌}
use Prim.Native.Nat.{◌-◌}
use lib.ListN.{length}
use Rattle.scanner.specs.Ties.Cursors.{apart_in}
use Rattle.addresses.proofs.NodesLaws.{NodesSoFar}
use Rattle.addresses.proofs.Walk.read_nodes.Given as goal

abbrev pub invariant-loop-self : goal.invariant-loop-self
invariant-loop-self l =
    NodesSoFar l.classes l.text l.initial.self.cursor.start l.initial.self.cursor.end (apart_in l.initial.self.cursor) l.self.cursor.end × (l.self.free ≡ l.initial.self.free)

abbrev pub decreases-loop-self : goal.decreases-loop-self
decreases-loop-self l = length l.text - l.self.cursor.end
