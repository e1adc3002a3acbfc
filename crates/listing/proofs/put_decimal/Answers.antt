-- `listing::put_decimal` meets its contract. Assumes nothing.
use mathlib.Core.Path.{ap, ◌∙◌}
use mathlib.Core.List.{◌++◌}
use native.Mathlib.Omega.{arith}
use Rattle.octets.proofs.Writes.{wrote_as}
use Rattle.listing.proofs.DigitLaws.{few_digits, digits_are}
use Rattle.listing.proofs.put_decimal.Goals as goal

pub put_bytes-requires : goal.put_bytes-requires
put_bytes-requires c =
    omega (arith, c.decimal-k.ensures.in_bounds, few_digits c.args.x c.decimal-k.result c.ranges.x.fits c.decimal-k.ensures.len)

pub returns : goal.returns
returns c =
    let few = few_digits c.args.x c.decimal-k.result c.ranges.x.fits c.decimal-k.ensures.len in (
      wrote_as (λ rest. ap (λ t. t ++ rest) c.decimal-k.ensures.digits ∙ digits_are 20 c.decimal-k.result c.args.x rest few c.decimal-k.ensures.len) c.put_bytes.ensures.0,
      omega (arith, c.decimal-k.ensures.in_bounds, few, c.put_bytes.ensures.1),
    )
