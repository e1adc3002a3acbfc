-- `capi::rfc733_scan` meets its contract. Assumes nothing.
use mathlib.Core.Path.{◌∙◌, ap}
use Rattle.capi.specs.Believed.Told.{told_in}
use Rattle.capi.proofs.rfc733_scan.Goals as goal

pub returns : goal.returns
returns c = c.tell.ensures ∙ ap (told_in c.args.array.now) c.scan_body.ensures.outcome.1
