-- `header::fields::store_fields` meets its contract: what is left of the header, counted and stored from here, is the whole. Assumes nothing.
use Prim.Native.Nat.{◌-◌}
use lib.ListN.{length}
use Rattle.header.proofs.SplitLaws.{Left}
use Rattle.header.proofs.fields.store_fields.Given as goal

abbrev pub invariant-loop-field : goal.invariant-loop-field
invariant-loop-field l = Left l.message l.initial.table l.table l.at l.count

abbrev pub decreases-loop-field : goal.decreases-loop-field
decreases-loop-field l = length l.message - l.at
