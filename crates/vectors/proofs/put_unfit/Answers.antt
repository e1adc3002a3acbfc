-- `vectors::put_unfit` meets its contract. Assumes nothing.
use Rattle.vectors.proofs.VectorLaws.{unfit_text_lem}
use Rattle.vectors.proofs.put_unfit.Goals as goal

pub returns : goal.returns
returns c =
    let args = c.args in
    unfit_text_lem args.head.now args.message.now args.table.now c.asked.ensures c.read_addresses-answer.ensures.outcome c.asked-2.ensures c.refuses_at.ensures c.one_if.ensures c.put_line.ensures
