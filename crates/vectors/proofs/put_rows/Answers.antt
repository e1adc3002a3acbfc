use mathlib.Core.Path.{refl, ◌∙◌}
use native.Mathlib.Omega.{arith}
use Rattle.vectors.proofs.PutLaws.{left_all, left_as, left_after, left_none}
use Rattle.vectors.proofs.AnswerLaws.{rows_all, rows_next, rows_none}
use Rattle.vectors.proofs.put_rows.Goals as goal

pub loop-i-init : goal.loop-i-init
loop-i-init c =
    let args = c.args in
    (omega arith, refl, left_as (left_all _ _ _) (λ rest. rows_all args.size args.table.now args.many args.from 0 rest))

pub overflow_add-from : goal.overflow_add-from
overflow_add-from c = omega arith

pub put_row-m-requires : goal.put_row-m-requires
put_row-m-requires c = omega arith

pub loop-i-preserved : goal.loop-i-preserved
loop-i-preserved c =
    let loop = c.loop-i in
    let args = c.args in
    (omega arith, c.put_row-m.auto.out ∙ loop.invariant.1, left_after loop.invariant.2 (λ rest. rows_next args.size args.table.now args.many args.from loop.i rest (omega arith)) c.put_row-m.ensures)

pub shape_of-out : goal.shape_of-out
shape_of-out c = c.loop-i.invariant.1

pub returns : goal.returns
returns c =
    let loop = c.loop-i in
    let args = c.args in
    left_none loop.invariant.2 (λ rest. rows_none args.size args.table.now args.many args.from loop.i rest (omega arith))
