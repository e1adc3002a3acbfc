-- `capi::rfc733_expand` meets its contract. Assumes nothing.
use mathlib.Core.Path.{◌∙◌, ap₂}
use Rattle.capi.specs.Believed.Told.{expansion_told_in}
use Rattle.capi.proofs.rfc733_expand.Goals as goal

pub returns : goal.returns
returns c =
    let e = c.expand.ensures.outcome in
    (e.answered.bytes_are, c.tell_expanded.ensures ∙ ap₂ (expansion_told_in c.args.array.now) e.answered.answer_is e.openings_is)
