-- `vectors::put_answer` meets its contract. Assumes nothing.
use Rattle.vectors.proofs.put_answer.Goals as goal

pub returns : goal.returns
returns c = rw (c.number.ensures, c.position.ensures, c.count.ensures) at c.put_line.ensures
