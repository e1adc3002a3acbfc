-- `capi::rfc733_known_name` meets its contract. Assumes nothing.
use mathlib.Core.Path.{◌∙◌, ap}
use Rattle.header.specs.Believed.Names.{known_number}
use Rattle.capi.proofs.rfc733_known_name.Goals as goal

pub returns : goal.returns
returns c = let (k, n) = c.known_name-looked_up.ensures in (c.known_number.ensures ∙ ap known_number k, n)
