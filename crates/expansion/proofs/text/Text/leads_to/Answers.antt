use Rattle.expansion.proofs.SeekSteps.{sought_none, sought_single, sought_angled, sought_other}
use Rattle.expansion.proofs.IncludeLaws.{opened_nowhere, opened_sought}
use Rattle.std.proofs.Common.{◌≡◌, rules, None}
use Rattle.expansion.proofs.text.Text.leads_to.Goals as goal

pub returns-then-in_typed : goal.returns-then-in_typed
returns-then-in_typed c = let a = c.args in opened_nowhere a.self.now.classes.now a.self.now.bytes.now a.at a.levels a.store.now (rw c.if-in_typed.true at c.in_typed.ensures)

pub returns-in_err-held_at : goal.returns-in_err-held_at
returns-in_err-held_at c =
    let a = c.args in
    let e : c.from_residual.result ≡ None = search rules in
    rw e (opened_sought a.self.now.classes.now a.self.now.bytes.now a.at a.levels a.store.now (rw c.if-in_typed.false at c.in_typed.ensures)
    (sought_none a.self.now.classes.now a.self.now.bytes.now a.store.now a.at c.held_at.result c.held_at.ensures c.in_err-held_at.was))

pub returns-in-Single : goal.returns-in-Single
returns-in-Single c =
    let a = c.args in
    opened_sought a.self.now.classes.now a.self.now.bytes.now a.at a.levels a.store.now (rw c.if-in_typed.false at c.in_typed.ensures)
    (sought_single a.self.now.classes.now a.self.now.bytes.now a.store.now a.at c.held_at.result c.held_at.ensures c.in_ok-held_at.was c.in-Single.is c.named_by.ensures)

pub returns-then-only_mailboxes : goal.returns-then-only_mailboxes
returns-then-only_mailboxes c =
    let a = c.args in
    opened_sought a.self.now.classes.now a.self.now.bytes.now a.at a.levels a.store.now (rw c.if-in_typed.false at c.in_typed.ensures)
    (sought_angled a.self.now.classes.now a.self.now.bytes.now a.store.now a.at c.held_at.result c.held_at.ensures c.in_ok-held_at.was c.in-Angled.is c.only_mailboxes.ensures c.if-only_mailboxes.true c.first_stored.ensures)

pub returns-else-only_mailboxes : goal.returns-else-only_mailboxes
returns-else-only_mailboxes c =
    let a = c.args in
    opened_sought a.self.now.classes.now a.self.now.bytes.now a.at a.levels a.store.now (rw c.if-in_typed.false at c.in_typed.ensures)
    (sought_other a.self.now.classes.now a.self.now.bytes.now a.store.now a.at c.held_at.result c.held_at.ensures c.in_ok-held_at.was c.in-Angled.is c.only_mailboxes.ensures c.if-only_mailboxes.false)
