-- `vectors::put_known` meets its contract. Assumes nothing.
use Rattle.vectors.specs.Believed.Vectors.{known_text}
use Rattle.vectors.proofs.put_known.Goals as goal

pub returns : goal.returns
unfolding known_text
returns c =
    let (k, n) = c.known_name-looked_up.ensures in
    rw (c.known_number.ensures, c.one_if.ensures, c.holds_addresses.ensures, k, n)
    at c.put_line.ensures
