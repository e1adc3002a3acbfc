-- `addresses::Walk::close_list` meets its contract. Assumes nothing.
use mathlib.Core.Path.{sym, ◌∙◌}
use lib.ListN.{length}
use Rattle.addresses.proofs.CursorSteps.{with_cursor, refused_as, stepped}
use Rattle.addresses.proofs.CursorReads.{close_refused, behind_refused, close_done}
use Rattle.addresses.proofs.Walk.close_list.Goals as goal

pub returns-then-not-closes : goal.returns-then-not-closes
returns-then-not-closes c =
    let a = c.args in
    close_refused a.classes.now a.text.now a.self.now a.frame a.enclosure a.name (sym c.closes.ensures ∙ c.if-not-closes.true) a.table.now c.refusal.result a.self.now (refused_as (length a.text.now) a.self.now c.refusal.ensures)

pub returns-then-not-ends_address : goal.returns-then-not-ends_address
returns-then-not-ends_address c =
    let a = c.args in
    let k = a.classes.now in
    let t = a.text.now in
    let now = with_cursor a.self.now c.step.new.self in
    behind_refused k t a.self.now a.frame a.enclosure a.name now (sym c.closes.ensures ∙ c.if-not-closes.false) (stepped k t a.self.now c.step.ensures) (sym c.ends_address.ensures ∙ c.if-not-ends_address.true) a.table.now c.refusal-then-not-ends_address.result now (refused_as (length t) now c.refusal-then-not-ends_address.ensures)

pub returns : goal.returns
returns c =
    let a = c.args in
    let k = a.classes.now in
    let t = a.text.now in
    close_done k t a.self.now a.frame a.enclosure a.name (with_cursor a.self.now c.step.new.self) (sym c.closes.ensures ∙ c.if-not-closes.false) (stepped k t a.self.now c.step.ensures) (sym c.ends_address.ensures ∙ c.if-not-ends_address.false) a.table.now c.put.new.table (rw c.kind.ensures at c.put.ensures)
