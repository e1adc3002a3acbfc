-- `addresses::Walk::read_mailbox` meets its contract. Assumes nothing.
use Rattle.std.proofs.lemmas.Result.{err_from_is_err_and}
use Rattle.addresses.proofs.CursorReads.{mailbox_done, mailbox_refused}
use Rattle.addresses.proofs.Walk.read_mailbox.Goals as goal

pub returns-in_err-read_nodes : goal.returns-in_err-read_nodes
returns-in_err-read_nodes c =
    let p = err_from_is_err_and c.from_residual.result c.from_residual.ensures.1 in
    rw (p.1, p.2) (mailbox_refused c.args.classes.now c.args.text.now c.args.self.now c.read_nodes.new.self c.args.level c.args.name c.in_err-read_nodes.field-0.0 c.in_err-read_nodes.ensures c.args.table.now)

pub returns : goal.returns
returns c = mailbox_done c.args.classes.now c.args.text.now c.requires c.in_ok-read_nodes.ensures c.args.table.now c.put.new.table c.put.ensures
