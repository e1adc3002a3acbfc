use Prim.Native.Nat.{◌-◌, ◌/◌}
use mathlib.Core.Path.{◌≡◌}
use lib.ListN.{length}
use Rattle.octets.specs.Believed.Numbers.{store_record_size}
use Rattle.expansion.specs.Believed.Store.{first_named, lowest as lowest_named}
use Rattle.expansion.proofs.lowest.Given as goal

abbrev pub invariant-loop-i : goal.invariant-loop-i
invariant-loop-i l = (l.i-end ≡ length l.store / store_record_size) × (lowest_named l.store l.name ≡ first_named (l.i-end - l.i) l.store l.name l.i)
