-- `vectors::put_in_rooms` meets its contract. Assumes nothing.
use Rattle.vectors.proofs.VectorLaws.{in_rooms}
use Rattle.vectors.proofs.put_in_rooms.Goals as goal

pub returns : goal.returns
returns c =
    let args = c.args in
    in_rooms args.letter args.head.now args.message.now args.other.now args.store.now c.fill.ensures c.fill-2.ensures c.put_vector.ensures
