-- `vectors::put_line` meets its contract. Assumes nothing.
use Rattle.vectors.proofs.AnswerLaws.{puts_line}
use Rattle.vectors.proofs.put_line.Goals as goal

pub returns : goal.returns
returns c =
    let args = c.args in
    puts_line args.mark args.numbers.now c.put-a.ensures c.put-b.ensures c.put-c.ensures c.put_numbers-d.ensures c.put.ensures
