-- `capi::tell_touched` meets its contract. Assumes nothing.
use mathlib.Core.Path.{◌∙◌, ap}
use lib.ListN.{set}
use Rattle.capi.proofs.tell_touched.Goals as goal

pub returns : goal.returns
returns c =
    rw (c.number-number.ensures, c.position-position.ensures, c.count.ensures, c.category.ensures, c.names.ensures) at
    (c.store_number-2.ensures ∙ ap (λ l. set l 4 c.names.result) (c.store_number.ensures ∙ ap (λ l. set l 3 c.category.result) c.put_three.ensures))
