-- `vectors::put_compared` meets its contract. Assumes nothing.
use Rattle.vectors.proofs.VectorLaws.{compare_text_lem}
use Rattle.vectors.proofs.put_compared.Goals as goal

pub returns : goal.returns
returns c =
    let args = c.args in
    compare_text_lem args.message.now args.other.now args.room.now args.spare.now c.write_plain.ensures.outcome c.write_plain-2.ensures.outcome c.same_bytes.ensures c.one_if.ensures c.put_answer-a.ensures c.put_answer-b.ensures c.put_line.ensures
