use Rattle.std.proofs.Common.{◌≡◌, arith}
use Rattle.std.proofs.lemmas.Grind.{common_steps}
use Rattle.expansion.proofs.StoreLaws.{past, trimmed_past}
use Rattle.expansion.proofs.name_length.Goals as goal

pub returns : goal.returns
returns c =
    let e : c.map_or.result ≡ past c.last_other.result = grind (arith, common_steps, c.map_or.ensures) in
    rw e (trimmed_past c.args.name.now c.last_other.result c.last_other.ensures)
