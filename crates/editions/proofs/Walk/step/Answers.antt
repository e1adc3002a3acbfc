-- `editions::Walk::step` meets its contract where a record begins or comes to its end. Assumes nothing.
use Rattle.std.proofs.Common.{sym}
use Rattle.editions.proofs.StepLaws.{adds_mailbox, adds_angle, adds_group, closes_mailbox, closes_angle, closes_group}
use Rattle.editions.proofs.Walk.step.Goals as goal

pub returns-in-AtSign : goal.returns-in-AtSign
returns-in-AtSign c =
    rw c.begin.ensures.more
    (adds_mailbox (record { fine = c.requires.0; next_is = c.in_ok-self.ensures }) c.args.span c.args.table.now c.in-AtSign.is c.begin.ensures.stored)

pub returns-in-Opened : goal.returns-in-Opened
returns-in-Opened c =
    rw (c.begin-in-Opened.ensures.more, c.begin-in-Opened.ensures.number)
    (adds_angle (record { fine = c.requires.0; next_is = c.in_ok-self.ensures }) c.args.span c.args.table.now c.in-Opened.is c.begin-in-Opened.ensures.stored)

pub returns-else-is_some : goal.returns-else-is_some
returns-else-is_some c =
    rw (c.begin-in-GroupOpened.ensures.more, c.begin-in-GroupOpened.ensures.number)
    (adds_group (record { fine = c.requires.0; next_is = c.in_ok-self.ensures }) c.args.span c.args.table.now c.in-GroupOpened.is c.if-is_some.ensures c.begin-in-GroupOpened.ensures.stored)

pub returns-in_ok-checked_sub-in-Domain : goal.returns-in_ok-checked_sub-in-Domain
returns-in_ok-checked_sub-in-Domain c =
    let last = c.in_ok-checked_sub-in-Domain in
    closes_mailbox (record { fine = c.requires.0; next_is = c.in_ok-self.ensures }) c.args.span c.args.table.now c.in-Domain.is last.field-0 last.ensures c.store_end.ensures

pub returns-in_ok-take-in-AngleClosed : goal.returns-in_ok-take-in-AngleClosed
returns-in_ok-take-in-AngleClosed c =
    let angle = c.in_ok-take-in-AngleClosed in
    rw c.take.ensures.after (closes_angle (record { fine = c.requires.0; next_is = c.in_ok-self.ensures }) c.args.span c.args.table.now c.in-AngleClosed.is angle.field-0 (sym angle.ensures.value) c.store_end-in-AngleClosed.ensures)

pub returns-in_ok-take-in-GroupClosed : goal.returns-in_ok-take-in-GroupClosed
returns-in_ok-take-in-GroupClosed c =
    let group = c.in_ok-take-in-GroupClosed in
    rw c.take-in-GroupClosed.ensures.after (closes_group (record { fine = c.requires.0; next_is = c.in_ok-self.ensures }) c.args.span c.args.table.now c.in-GroupClosed.is group.field-0 (sym group.ensures.value) c.store_end-in-GroupClosed.ensures)
