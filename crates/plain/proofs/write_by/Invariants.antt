-- `plain::write_by` meets its contract: the text of the symbols passed is put, and that from the symbol ahead on is left. Assumes nothing.
use mathlib.Core.Path.{◌≡◌}
use lib.ListN.{length}
use Rattle.scanner.specs.Ties.Cursors.{next_in}
use Rattle.plain.proofs.WalkSteps.{behind, Coming}
use Rattle.plain.proofs.write_by.Given as goal

abbrev pub invariant-loop-cursor : goal.invariant-loop-cursor
invariant-loop-cursor l =
    Coming l.classes l.text l.start l.initial.sink.out.now l.sink.out.now l.sink.n l.place (next_in l.cursor) × (l.sink.out.ghost_name ≡ l.initial.sink.out.ghost_name)

abbrev pub decreases-loop-cursor : goal.decreases-loop-cursor
decreases-loop-cursor l = behind (length l.text) (next_in l.cursor)
