-- `listing::printing::print_windows` meets its contract: the writer holds the listing up to `from`. Assumes nothing.
use Rattle.std.proofs.Common.{◌≡◌, ◌-◌, ◌≤◌, length, take}
use Rattle.std.specs.Io.KnownBytes.{Appends}
use Rattle.listing.specs.Believed.Listing.{listing}
use Rattle.listing.proofs.printing.print_windows.Given as goal

abbrev pub invariant-loop-from : goal.invariant-loop-from
invariant-loop-from g l =
    (length l.window ≡ length l.initial.window) × (l.from ≤ length (listing l.edition l.message))
    × Appends (g.W.Write.contents l.initial.output) (g.W.Write.contents l.output) (take l.from (listing l.edition l.message))

abbrev pub decreases-loop-from : goal.decreases-loop-from
decreases-loop-from g l = length (listing l.edition l.message) - l.from
