-- `vectors::put_field` meets its contract. Assumes nothing.
use Rattle.vectors.proofs.AnswerLaws.{field_row}
use Rattle.vectors.proofs.put_field.Goals as goal

pub returns : goal.returns
returns c =
    let args = c.args in
    field_row args.table.now args.i c.load-field.ensures c.put_line.ensures
