-- `expansion::expand_list` meets its contract. Assumes nothing.
use Rattle.expansion.proofs.EntryLaws.{list_stopped, list_too_long, list_fitting}
use Rattle.expansion.proofs.expand_list.Goals as goal

pub returns-then-out-needed : goal.returns-then-out-needed
returns-then-out-needed c =
    let a = c.args in
    list_too_long a.text.now.classes.now a.store.now a.text.now.bytes.now a.start a.out.now c.walk_body.new.out c.walk_body.auto.out (rw c.in-Ok.is at c.walk_body.ensures) c.if-out-needed.true

pub returns-in-Err : goal.returns-in-Err
returns-in-Err c =
    let a = c.args in
    list_stopped a.text.now.classes.now a.store.now a.text.now.bytes.now a.start a.out.now c.walk_body.new.out c.walk_body.auto.out (rw c.in-Err.is at c.walk_body.ensures)

pub returns-else-out-needed : goal.returns-else-out-needed
returns-else-out-needed c =
    let a = c.args in
    list_fitting a.text.now.classes.now a.store.now a.text.now.bytes.now a.start a.out.now c.walk_body.new.out c.walk_body.auto.out (rw c.in-Ok.is at c.walk_body.ensures) c.if-out-needed.false _ c.walk_body-in-Ok.result c.walk_body-in-Ok.ensures
