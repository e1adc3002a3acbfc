-- `vectors::taken` meets its contract. Assumes nothing.
use Rattle.vectors.proofs.taken.Goals as goal

pub returns-then-coded : goal.returns-then-coded
returns-then-coded c = rw c.if-coded.true c.meant.ensures
