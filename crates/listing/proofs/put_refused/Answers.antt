-- `listing::put_refused` meets its contract. Assumes nothing.
use native.Mathlib.Omega.{arith}
use Rattle.listing.proofs.LineLaws.{refused_line_lem}
use Rattle.listing.proofs.put_refused.Goals as goal

pub returns : goal.returns
returns c =
    (refused_line_lem _ _ c.put_bytes-a.ensures.0 c.put_number-b.ensures.0 c.put_number-c.ensures.0 c.put.ensures.0, omega (arith, c.put_bytes-a.ensures.1, c.put_number-b.ensures.1, c.put_number-c.ensures.1, c.put.ensures.1))
