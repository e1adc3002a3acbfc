-- `octets::letters::same_letters` meets its contract. Assumes nothing.
use Rattle.octets.proofs.LetterLaws.{decided}
use Rattle.octets.proofs.letters.same_letters.Goals as goal

pub returns : goal.returns
returns c = decided c.eq_ignore_ascii_case.result c.args.x.now c.args.y.now c.eq_ignore_ascii_case.ensures.test
