-- `vectors::put_bracketed` meets its contract. Assumes nothing.
use Rattle.vectors.proofs.AnswerLaws.{puts_bracketed}
use Rattle.vectors.proofs.put_bracketed.Goals as goal

pub returns : goal.returns
returns c = puts_bracketed c.args.text.now c.put_bytes-a.ensures c.put_bytes-b.ensures c.put_bytes.ensures
