-- `header::fields::split` meets its contract: the first run counts and stores beside the table; few records are copied from there, and many are stored by a second run. Assumes nothing.
use native.Mathlib.Omega.{arith}
use Rattle.header.proofs.SplitLaws.{too_long, refused, no_room, stored_again, copied}
use Rattle.header.proofs.fields.split.Goals as goal

pub returns-then-message-gt-MESSAGE_LIMIT : goal.returns-then-message-gt-MESSAGE_LIMIT
returns-then-message-gt-MESSAGE_LIMIT c = let a = c.args in record { outcome = too_long a.message.now a.table.now (omega arith) }

pub returns-in-Ok : goal.returns-in-Ok
returns-in-Ok c =
    let a = c.args in
    record { outcome = no_room a.message.now a.table.now (omega arith) c.store_fields.ensures.many c.in-Ok.is (omega arith) }

pub returns-then-many-le-STAGED_FIELDS : goal.returns-then-many-le-STAGED_FIELDS
returns-then-many-le-STAGED_FIELDS c =
    let a = c.args in
    record {
      outcome = copied a.message.now a.table.now (omega arith) c.store_fields.ensures.many c.in-Ok.is (omega arith)
          c.staged_room-staged.result (omega arith)
          c.store_fields.ensures.stored
          c.copy_front.ensures;
    }

pub returns-else-many-le-STAGED_FIELDS : goal.returns-else-many-le-STAGED_FIELDS
returns-else-many-le-STAGED_FIELDS c =
    let a = c.args in
    record {
      outcome = stored_again a.message.now a.table.now (omega arith) c.store_fields.ensures.many c.in-Ok.is (omega arith)
          c.store_fields-else-many-le-STAGED_FIELDS.ensures.stored;
    }

pub returns-in-Err : goal.returns-in-Err
returns-in-Err c =
    let a = c.args in
    record { outcome = refused a.message.now a.table.now (omega arith) c.store_fields.ensures.many c.in-Err.is }
