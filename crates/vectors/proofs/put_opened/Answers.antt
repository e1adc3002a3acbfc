-- `vectors::put_opened` meets its contract. Assumes nothing.
use Rattle.vectors.proofs.VectorLaws.{open_text_lem}
use Rattle.vectors.proofs.put_opened.Goals as goal

pub returns : goal.returns
returns c =
    let args = c.args in
    open_text_lem args.head.now args.message.now c.start_of.ensures c.end_of.ensures args.store.now args.room.now c.expand-told.ensures.outcome c.put_line-m.ensures c.put_given.ensures
