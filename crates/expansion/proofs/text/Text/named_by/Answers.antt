-- `expansion::named_by` meets its contract. Assumes nothing.
use native.Mathlib.Omega.{arith}
use mathlib.Core.Path.{sym, ap, ◌∙◌}
use lib.Seq.{length-take-le}
use Rattle.expansion.specs.Believed.Store.{lowest as lowest_named}
use Rattle.expansion.proofs.StoreLaws.{too_long, own_text}
use Rattle.expansion.proofs.text.Text.named_by.Goals as goal

pub returns-then-n-gt-STORE_NAME_SIZE : goal.returns-then-n-gt-STORE_NAME_SIZE
returns-then-n-gt-STORE_NAME_SIZE c = let a = c.args in sym (too_long a.store.now _ _ c.address_text-n.ensures.0 c.if-n-gt-STORE_NAME_SIZE.true)

pub slice_bounds-lowest-end : goal.slice_bounds-lowest-end
slice_bounds-lowest-end c = sym (length-take-le _ _ (omega arith))

pub returns : goal.returns
returns c = let a = c.args in let t = c.address_text-n.ensures in c.lowest.ensures ∙ ap (lowest_named a.store.now) (own_text _ _ _ _ t.0 t.1 (omega arith))
