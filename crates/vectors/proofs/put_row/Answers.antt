-- `vectors::put_row` meets its contract. Assumes nothing.
use Rattle.vectors.proofs.AnswerLaws.{other_size}
use Rattle.vectors.proofs.put_row.Goals as goal

pub returns-then-size-eq-FIELD_RECORD_SIZE : goal.returns-then-size-eq-FIELD_RECORD_SIZE
returns-then-size-eq-FIELD_RECORD_SIZE c = rw c.if-size-eq-FIELD_RECORD_SIZE.true c.put_field.ensures

pub returns : goal.returns
returns c =
    let args = c.args in
    other_size args.size args.table.now args.i c.if-size-eq-FIELD_RECORD_SIZE.false c.put_record.ensures
