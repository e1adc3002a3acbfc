-- `vectors::put_record` meets its contract. Assumes nothing.
use Rattle.vectors.proofs.AnswerLaws.{address_row}
use Rattle.vectors.proofs.put_record.Goals as goal

pub returns : goal.returns
returns c =
    let args = c.args in
    address_row args.table.now args.i c.load-r.ensures c.put_line.ensures
