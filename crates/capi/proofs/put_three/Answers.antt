-- `capi::put_three` meets its contract. Assumes nothing.
use mathlib.Core.Path.{◌∙◌, ap}
use lib.ListN.{set}
use Rattle.capi.proofs.put_three.Goals as goal

pub returns : goal.returns
returns c = c.store_number-3.ensures ∙ ap (λ l. set l 2 c.args.count) (c.store_number-2.ensures ∙ ap (λ l. set l 1 c.args.position) c.store_number.ensures)
