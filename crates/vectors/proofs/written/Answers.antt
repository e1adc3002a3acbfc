-- `vectors::written` meets its contract. Assumes nothing.
use native.Mathlib.Omega.{arith}
use Rattle.vectors.proofs.written.Goals as goal

pub returns-in-Accepted : goal.returns-in-Accepted
returns-in-Accepted c = (rw c.in-Accepted.is, omega arith)
