-- `vectors::next` meets its contract. Assumes nothing.
use Rattle.vectors.proofs.PutLaws.{next_inside, next_outside}
use Rattle.vectors.proofs.next.Goals as goal

pub returns-then-n-out : goal.returns-then-n-out
returns-then-n-out c =
    let args = c.args in
    next_inside args.out.now args.n c.if-n-out.true

pub returns-else-n-out : goal.returns-else-n-out
returns-else-n-out c =
    let args = c.args in
    next_outside args.out.now args.n c.if-n-out.false
