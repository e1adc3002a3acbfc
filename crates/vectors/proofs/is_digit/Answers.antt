-- `vectors::is_digit` meets its contract. Assumes nothing.
use native.Mathlib.Omega.{arith}
use Rattle.vectors.proofs.ReadLaws.{digit_below, digit_above}
use Rattle.vectors.proofs.is_digit.Goals as goal

pub returns-then-b-lt48 : goal.returns-then-b-lt48
returns-then-b-lt48 c = digit_below c.args.b (omega arith)

pub returns : goal.returns
returns c = digit_above c.args.b (omega arith)
