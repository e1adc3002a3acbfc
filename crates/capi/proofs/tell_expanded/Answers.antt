-- `capi::tell_expanded` meets its contract. Assumes nothing.
use mathlib.Core.Path.{◌∙◌, ap}
use lib.ListN.{set}
use Rattle.capi.proofs.tell_expanded.Goals as goal

pub returns : goal.returns
returns c = c.store_number.ensures ∙ ap (λ l. set l 3 c.args.expanded.openings) c.tell.ensures
