-- `vectors::put_date` meets its contract. Assumes nothing.
use mir.Syntax.{w64}
use mir.Val.{SFits}
use mir.Facts.{to_z-of_z}
use Rattle.vectors.proofs.VectorLaws.{date_text_lem}
use Rattle.vectors.proofs.put_date.Goals as goal

pub returns : goal.returns
returns c =
    let args = c.args in
    let f : SFits w64 c.value.result = record { sfits = c.value.type_inv } in date_text_lem args.head.now args.message.now c.start_of.ensures c.end_of.ensures c.read_date-answer.ensures.outcome.1 c.number.ensures c.position.ensures c.count.ensures c.value.ensures c.put_line-m.ensures (rw (to_z-of_z f) at c.put_value.ensures)
