-- `capi::rfc733_touch` meets its contract. Assumes nothing.
use mathlib.Core.Path.{◌∙◌, ap}
use Rattle.capi.specs.Believed.Told.{touch_told_in}
use Rattle.capi.proofs.rfc733_touch.Goals as goal

pub returns : goal.returns
returns c = (c.touch.ensures.outcome.path_is, c.tell_touched.ensures ∙ ap (touch_told_in c.args.array.now) c.touch.ensures.outcome.answer_is)
