-- `addresses::Walk::read_words` meets its contract. Assumes nothing.
use mathlib.Core.Path.{◌≡◌}
use Prim.Native.Nat.{◌-◌}
use lib.ListN.{length}
use Rattle.addresses.proofs.PhraseLaws.{WordsSoFar}
use Rattle.addresses.proofs.Walk.read_words.Given as goal

abbrev pub invariant-loop-self : goal.invariant-loop-self
invariant-loop-self l =
    WordsSoFar l.classes l.text l.initial.self.cursor.end l.lone l.self.cursor.end l.single × (l.self.free ≡ l.initial.self.free)

abbrev pub decreases-loop-self : goal.decreases-loop-self
decreases-loop-self l = length l.text - l.self.cursor.end
