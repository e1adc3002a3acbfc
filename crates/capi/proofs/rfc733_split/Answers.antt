-- `capi::rfc733_split` meets its contract. Assumes nothing.
use mathlib.Core.Path.{◌∙◌, ap}
use Rattle.capi.specs.Believed.Told.{told_in}
use Rattle.capi.proofs.rfc733_split.Goals as goal

pub returns : goal.returns
returns c = (c.split.ensures.outcome.bytes_are, c.tell.ensures ∙ ap (told_in c.args.array.now) c.split.ensures.outcome.answer_is)
