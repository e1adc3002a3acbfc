-- `vectors::put` meets its contract. Assumes nothing.
use Rattle.vectors.proofs.PutLaws.{puts_byte}
use Rattle.vectors.proofs.put.Goals as goal

pub returns : goal.returns
returns c = puts_byte c.next-m.ensures c.store_byte.ensures
