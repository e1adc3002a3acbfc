-- `vectors::put_touched` meets its contract. Assumes nothing.
use Rattle.vectors.proofs.VectorLaws.{touched_text}
use Rattle.vectors.proofs.put_touched.Goals as goal

pub returns : goal.returns
returns c =
    let args = c.args in
    touched_text args.head.now args.message.now c.start_of.ensures c.end_of.ensures args.path.now c.asked.ensures c.touch-answer.ensures.outcome c.number.ensures c.position.ensures c.count.ensures c.category.ensures c.names.ensures c.put_line-m.ensures c.put_line.ensures
