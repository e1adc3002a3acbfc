-- `addresses::Walk::read_lone` meets its contract. Assumes nothing.
use mathlib.Core.Path.{sym, ◌∙◌}
use mathlib.Core.Logic.{inl, inr}
use lib.ListN.{length}
use Rattle.addresses.proofs.CursorSteps.{refused_as}
use Rattle.addresses.proofs.CursorReads.{lone_done, lone_refused}
use Rattle.addresses.proofs.Walk.read_lone.Goals as goal
use Rattle.addresses.proofs.Walk.read_lone.Goals.{then-not-lone-via-then-not-lone, then-not-lone-via-else-not-lone+then-not-ends_address}

pub returns-then-not-lone : goal.returns-then-not-lone
returns-then-not-lone c =
    lone_refused c.args.classes.now c.args.text.now c.requires
    (elim c.then-not-lone.branch [ then-not-lone-via-then-not-lone w ↦ inl w.if-not-lone.true | then-not-lone-via-else-not-lone+then-not-ends_address w ↦ inr (sym w.ends_address.ensures ∙ w.if-not-ends_address.true) ])
    c.args.table.now c.refusal.result c.args.self.now (refused_as (length c.args.text.now) c.args.self.now c.refusal.ensures)

pub returns : goal.returns
returns c = lone_done c.args.classes.now c.args.text.now c.requires c.if-not-lone.false (sym c.ends_address.ensures ∙ c.if-not-ends_address.false) c.args.table.now c.put.new.table c.put.ensures
