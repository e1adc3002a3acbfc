-- `capi::rfc733_plain` meets its contract. Assumes nothing.
use mathlib.Core.Path.{◌∙◌, ap}
use Rattle.capi.specs.Believed.Told.{told_in}
use Rattle.capi.proofs.rfc733_plain.Goals as goal

pub returns : goal.returns
returns c = (c.write_plain.ensures.outcome.bytes_are, c.tell.ensures ∙ ap (told_in c.args.array.now) c.write_plain.ensures.outcome.answer_is)
