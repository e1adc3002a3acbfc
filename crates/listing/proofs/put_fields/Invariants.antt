-- `listing::put_fields` meets its contract: the lines of the fields up to i are written, and those from i on are left. Assumes nothing.
use mathlib.Core.Path.{◌≡◌}
use Prim.Native.Nat.{◌-◌, ◌*◌, ◌≤◌}
use lib.ListN.{length}
use Rattle.octets.specs.Ties.Writing.{in_window}
use Rattle.octets.proofs.Writes.{LeftBy}
use Rattle.records.specs.Believed.FieldRecords.{field_in}
use Rattle.listing.specs.Believed.Listing.{each, field_text}
use Rattle.listing.specs.Ties.Putting.{field_limit, tabulate}
use Rattle.listing.proofs.put_fields.Given as goal

abbrev pub invariant-loop-i : goal.invariant-loop-i
invariant-loop-i l =
    (l.i ≤ l.many) × (l.m ≤ l.i * field_limit) × (length l.out ≡ length l.initial.out)
    × LeftBy (in_window l.from) l.initial.out 0 (each (field_text l.edition l.message) (tabulate (field_in l.fields) l.many 0)) l.out l.m (each (field_text l.edition l.message) (tabulate (field_in l.fields) (l.many - l.i) l.i))
