-- `vectors::put_scan` meets its contract. Assumes nothing.
use Rattle.vectors.proofs.VectorLaws.{scan_text_lem}
use Rattle.vectors.proofs.put_scan.Goals as goal

pub returns : goal.returns
returns c =
    let args = c.args in
    scan_text_lem args.head.now args.message.now c.start_of-start.ensures c.end_of-end.ensures c.scan_body.ensures.outcome.1 c.put_answer-m.ensures c.put_symbols.ensures
