-- `listing::put_addresses` meets its contract: the lines up to i are written, and those from i on are left. Assumes nothing.
use mathlib.Core.Path.{◌≡◌}
use Prim.Native.Nat.{◌+◌, ◌-◌, ◌*◌, ◌≤◌}
use lib.ListN.{length}
use Rattle.octets.specs.Ties.Writing.{in_window}
use Rattle.octets.proofs.Writes.{LeftBy}
use Rattle.records.specs.Believed.AddressRecords.{record_in}
use Rattle.listing.specs.Believed.Lines.{address_line}
use Rattle.listing.specs.Believed.Listing.{each}
use Rattle.listing.specs.Ties.Putting.{line_limit, tabulate}
use Rattle.listing.proofs.put_addresses.Given as goal

abbrev pub invariant-loop-i : goal.invariant-loop-i
invariant-loop-i l =
    (l.i ≤ l.many) × (l.m ≤ l.n + l.i * line_limit) × (length l.out ≡ length l.initial.out)
    × LeftBy (in_window l.from) l.initial.out l.n (each address_line (tabulate (record_in l.table) l.many 0)) l.out l.m (each address_line (tabulate (record_in l.table) (l.many - l.i) l.i))
