-- `listing::put_four` meets its contract. Assumes nothing.
use native.Mathlib.Omega.{arith}
use Rattle.listing.proofs.LineLaws.{four_numbers}
use Rattle.listing.proofs.put_four.Goals as goal

pub returns : goal.returns
returns c =
    (four_numbers _ _ _ _ c.put_number-a.ensures.0 c.put_number-b.ensures.0 c.put_number-c.ensures.0 c.put_number.ensures.0, omega (arith, c.put_number-a.ensures.1, c.put_number-b.ensures.1, c.put_number-c.ensures.1, c.put_number.ensures.1))
