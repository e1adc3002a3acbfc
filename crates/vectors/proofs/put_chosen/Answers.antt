-- `vectors::put_chosen` meets its contract. Assumes nothing.
use mathlib.Core.List.{[], ◌∷◌}
use lib.ListN.{length}
use Rattle.vectors.specs.Believed.Answers.{line, front_text}
use Rattle.vectors.specs.Believed.Vectors.{chosen_text}
use Rattle.vectors.proofs.PutLaws.{puts_both}
use Rattle.vectors.proofs.put_chosen.Goals as goal

pub returns : goal.returns
unfolding chosen_text
returns c =
    let args = c.args in
    puts_both {f = line 61 (length args.body.now ∷ [])} {g = front_text args.body.now 64} c.put_line-m.ensures c.put_front.ensures
