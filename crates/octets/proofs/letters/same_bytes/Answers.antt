-- `octets::letters::same_bytes` meets its contract. Assumes nothing.
use mathlib.Core.Path.{◌∙◌}
use Rattle.octets.proofs.LetterLaws.{equal_bytes}
use Rattle.octets.proofs.letters.same_bytes.Goals as goal

pub returns : goal.returns
returns c = c.eq.ensures ∙ equal_bytes c.args.x.now c.args.y.now
