-- `vectors::put_decimal` meets its contract. Assumes nothing.
use mathlib.Core.Path.{ap, ◌∙◌}
use mathlib.Core.List.{◌++◌}
use Rattle.vectors.proofs.PutLaws.{puts_as}
use Rattle.listing.proofs.DigitLaws.{few_digits, digits_are}
use Rattle.vectors.proofs.put_decimal.Goals as goal

pub returns : goal.returns
returns c =
    let args = c.args in
    let few = few_digits args.x c.decimal-k.result c.ranges.x.fits c.decimal-k.ensures.len in
    puts_as (λ rest. ap (λ t. t ++ rest) c.decimal-k.ensures.digits ∙ digits_are 20 c.decimal-k.result args.x rest few c.decimal-k.ensures.len) c.put_bytes.ensures
