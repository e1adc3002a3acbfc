-- `capi::rfc733_addresses_by_table` meets its contract. Assumes nothing.
use mathlib.Core.Path.{◌∙◌, ap}
use Rattle.capi.specs.Believed.Told.{told_in}
use Rattle.capi.proofs.rfc733_addresses_by_table.Goals as goal

pub returns : goal.returns
returns c = (c.read_addresses.ensures.outcome.bytes_are, c.tell.ensures ∙ ap (told_in c.args.array.now) c.read_addresses.ensures.outcome.answer_is)
