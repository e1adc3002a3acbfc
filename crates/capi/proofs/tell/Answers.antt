-- `capi::tell` meets its contract. Assumes nothing.
use Rattle.capi.proofs.tell.Goals as goal

pub returns : goal.returns
returns c = rw (c.number-number.ensures, c.position-position.ensures, c.count.ensures) at c.put_three.ensures
