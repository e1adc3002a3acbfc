-- `vectors::put_counted` meets its contract. Assumes nothing.
use native.Mathlib.Omega.{arith}
use Rattle.vectors.proofs.AnswerLaws.{counted_bytes, counted_few, counted_many}
use Rattle.vectors.proofs.put_counted.Goals as goal

pub returns-then-size-eq1 : goal.returns-then-size-eq1
returns-then-size-eq1 c =
    let args = c.args in
    counted_bytes args.size args.table.now args.many c.if-size-eq1.true c.put_front.ensures

pub returns-then-many-le10 : goal.returns-then-many-le10
returns-then-many-le10 c =
    let args = c.args in
    counted_few args.size args.table.now args.many c.if-size-eq1.false (omega arith) c.put_rows.ensures

pub returns : goal.returns
returns c =
    let args = c.args in
    counted_many args.size args.table.now args.many c.if-size-eq1.false (omega arith) c.put_rows-m.ensures c.put_rows-2.ensures
