-- What is left to a call: symbols, counted by the bytes of the text from a position on, since the contracts tell the places of symbols and not their number; and levels. Neither grows from a call to a call in it, and their sum falls where a symbol is passed or a level is opened.
-- Two calls do neither, from read_list to read_address and from read_colon to read_enclosed. So the sum is doubled, and these two callers have 1 more.
use Prim.Native.Nat.{ℕ, ◌+◌, ◌*◌, ◌-◌}
use mathlib.Core.List.{List}
use mathlib.Core.Path.{◌≡◌}
use Rattle.addresses.specs.declared.Walk.{Walk}
use Rattle.addresses.specs.Ties.Steps.{coming, Entered}
use Rattle.addresses.proofs.CursorSteps.{Stepped}
use Rattle.addresses.proofs.CursorCycle.{left_of, ListGoes}
use lib.ListN.{length}
use Rattle.addresses.proofs.Walk.+reading.Given as goal

abbrev left : List ℕ → ℕ → ℕ → ℕ
left text at levels = (length text - at) + levels

abbrev pub decreases-read_address : goal.decreases-read_address
decreases-read_address l = 2 * left l.text.now l.self.now.cursor.start l.level.left

abbrev pub decreases-read_colon : goal.decreases-read_colon
decreases-read_colon l = 2 * left l.text.now l.self.now.cursor.end l.level.left + 1

abbrev pub decreases-read_enclosed : goal.decreases-read_enclosed
decreases-read_enclosed l = 2 * left l.text.now l.self.now.cursor.end l.level.left

abbrev pub decreases-read_list : goal.decreases-read_list
decreases-read_list l = 2 * left l.text.now l.self.now.cursor.end l.level.left + 1

abbrev pub decreases-read_named : goal.decreases-read_named
decreases-read_named l = 2 * left l.text.now l.self.now.cursor.end l.level.left

abbrev pub decreases-read_typed : goal.decreases-read_typed
decreases-read_typed l = 2 * left l.text.now l.self.now.cursor.end l.level.left

abbrev pub invariant-read_list-loop-self : goal.invariant-read_list-loop-self
invariant-read_list-loop-self l =
    (length l.table ≡ length l.initial.table)
    × ((entry : Walk) → Entered l.classes l.text entry l.level → Stepped l.classes l.text entry l.initial.self → ListGoes l.classes l.text entry l.level l.initial.table l.table l.self)

abbrev pub decreases-read_list-loop-self : goal.decreases-read_list-loop-self
decreases-read_list-loop-self l = left_of l.classes l.text (coming l.self)
