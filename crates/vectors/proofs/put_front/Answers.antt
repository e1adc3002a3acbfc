-- `vectors::put_front` meets its contract. Assumes nothing.
use native.Mathlib.Omega.{arith}
use mathlib.Core.Path.{sym}
use lib.Seq.{length-take-le}
use Rattle.vectors.proofs.PutLaws.{puts_nothing}
use Rattle.vectors.proofs.AnswerLaws.{front_none, front_whole, front_part}
use Rattle.vectors.proofs.put_front.Goals as goal

pub returns-then-many-eq0 : goal.returns-then-many-eq0
returns-then-many-eq0 c =
    let args = c.args in
    front_none args.table.now args.many c.if-many-eq0.true (puts_nothing _ _)

pub returns-then-table-many : goal.returns-then-table-many
returns-then-table-many c =
    let args = c.args in
    front_whole args.table.now args.many c.if-many-eq0.false (omega arith) c.put_bracketed.ensures

pub slice_bounds-put_bracketed-end : goal.slice_bounds-put_bracketed-end
slice_bounds-put_bracketed-end c =
    let args = c.args in
    sym (length-take-le args.many args.table.now (omega arith))

pub returns : goal.returns
returns c =
    let args = c.args in
    front_part args.table.now args.many c.if-many-eq0.false c.put_bracketed-2.ensures
