-- `vectors::put_read` meets its contract. Assumes nothing.
use Rattle.vectors.proofs.PutLaws.{puts_nothing}
use Rattle.vectors.proofs.VectorLaws.{answered_by, run_addresses, run_by_table, run_edition, run_fields, run_plain, run_nothing}
use Rattle.vectors.proofs.put_read.Goals as goal

pub returns-then-letter-eq97 : goal.returns-then-letter-eq97
returns-then-letter-eq97 c =
    let args = c.args in
    run_addresses args.letter args.head.now args.message.now args.table.now c.if-letter-eq97.true (answered_by 12 (rw (c.start_of-start.ensures, c.end_of-end.ensures) at c.read_addresses-answer.ensures.outcome) c.put_given.ensures)

pub returns-then-letter-eq98 : goal.returns-then-letter-eq98
returns-then-letter-eq98 c =
    let args = c.args in
    run_by_table args.letter args.head.now args.message.now args.table.now c.if-letter-eq97.false c.if-letter-eq98.true (answered_by 12 (rw (c.start_of-start.ensures, c.end_of-end.ensures) at c.read_addresses-answer-then-letter-eq98.ensures.outcome) c.put_given-then-letter-eq98.ensures)

pub returns-then-letter-eq101 : goal.returns-then-letter-eq101
returns-then-letter-eq101 c =
    let args = c.args in
    run_edition args.letter args.head.now args.message.now args.table.now c.if-letter-eq97.false c.if-letter-eq98.false c.if-letter-eq101.true (answered_by 12 (rw (c.start_of-start.ensures, c.end_of-end.ensures, c.asked.ensures) at c.read_addresses-answer-then-letter-eq101.ensures.outcome) c.put_given-then-letter-eq101.ensures)

pub returns-then-letter-eq102 : goal.returns-then-letter-eq102
returns-then-letter-eq102 c =
    let args = c.args in
    run_fields args.letter args.head.now args.message.now args.table.now c.if-letter-eq97.false c.if-letter-eq98.false c.if-letter-eq101.false c.if-letter-eq102.true (answered_by 8 c.split-answer.ensures.outcome c.put_given-then-letter-eq102.ensures)

pub returns-then-letter-eq112 : goal.returns-then-letter-eq112
returns-then-letter-eq112 c =
    let args = c.args in
    run_plain args.letter args.head.now args.message.now args.table.now c.if-letter-eq97.false c.if-letter-eq98.false c.if-letter-eq101.false c.if-letter-eq102.false c.if-letter-eq112.true (answered_by 1 (rw (c.start_of-start.ensures, c.end_of-end.ensures) at c.write_plain-answer.ensures.outcome) c.put_given-then-letter-eq112.ensures)

pub returns : goal.returns
returns c =
    let args = c.args in
    run_nothing args.letter args.head.now args.message.now args.table.now c.if-letter-eq97.false c.if-letter-eq98.false c.if-letter-eq101.false c.if-letter-eq102.false c.if-letter-eq112.false (puts_nothing _ _)
