-- `capi::rfc733_next_symbol` meets its contract. Assumes nothing.
use mathlib.Core.Path.{◌∙◌, ap}
use Rattle.capi.specs.Believed.Told.{symbol_told_in}
use Rattle.capi.proofs.rfc733_next_symbol.Goals as goal

pub returns : goal.returns
returns c = c.tell_symbol.ensures ∙ ap (symbol_told_in c.args.array.now) c.next_symbol.ensures.outcome.1
