-- `listing::put_number` meets its contract. Assumes nothing.
use native.Mathlib.Omega.{arith}
use Rattle.octets.proofs.Writes.{wrote_both}
use Rattle.listing.proofs.put_number.Goals as goal

pub returns : goal.returns
returns c =
    (wrote_both c.put-m.ensures.0 c.put_decimal.ensures.0, omega (arith, c.put-m.ensures.1, c.put_decimal.ensures.1))
