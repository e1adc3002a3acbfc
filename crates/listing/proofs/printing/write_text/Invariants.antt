-- `listing::printing::write_text` meets its contract: the writer holds the first `done` bytes of the text. Assumes nothing.
use Rattle.std.proofs.Common.{◌≤◌, length, take}
use Rattle.std.specs.Io.KnownBytes.{Appends}
use Rattle.listing.proofs.printing.write_text.Given as goal

abbrev pub invariant-writes : goal.invariant-writes
invariant-writes g l =
    (l.done ≤ length l.text) × Appends (g.W.Write.contents l.fn.output) (g.W.Write.contents l.output) (take l.done l.text)
