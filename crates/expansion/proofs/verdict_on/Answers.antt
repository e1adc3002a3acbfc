use native.Mathlib.Omega.{arith}
use mathlib.Core.Path.{sym, ◌∙◌}
use Rattle.expansion.proofs.OpeningLaws.{too_many, opens, at_fault}
use Rattle.expansion.proofs.verdict_on.Goals as goal

pub returns-then-openings-ge-OPENING_LIMIT : goal.returns-then-openings-ge-OPENING_LIMIT
returns-then-openings-ge-OPENING_LIMIT c = let a = c.args in rw c.fault.ensures (too_many a.store.now a.i a.spot.position a.spot.depth a.openings (omega arith))

pub returns-then-fits_around : goal.returns-then-fits_around
returns-then-fits_around c =
    let a = c.args in
    opens a.store.now a.i a.spot.position a.spot.depth a.openings (omega arith) (rw c.list_in-list.ensures at (sym c.fits_around.ensures ∙ c.if-fits_around.true))

pub returns : goal.returns
returns c =
    let a = c.args in
    at_fault a.store.now a.i a.spot.position a.spot.depth a.openings (omega arith) (rw c.list_in-list.ensures at (sym c.fits_around.ensures ∙ c.if-fits_around.false)) _ (rw c.list_in-list.ensures at c.fault_of.ensures)
