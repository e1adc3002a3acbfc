use mathlib.Core.Path.{refl, sym, ◌∙◌}
use native.Mathlib.Omega.{arith}
use Rattle.vectors.proofs.AnswerLaws.{kept_next, not_kept, kept_end}
use Rattle.vectors.proofs.is_kept.Goals as goal

pub loop-i-init : goal.loop-i-init
loop-i-init c = refl

pub bounds-table-i : goal.bounds-table-i
bounds-table-i c = omega arith

pub returns-then-table-i : goal.returns-then-table-i
returns-then-table-i c =
    let loop = c.loop-i in
    sym (loop.invariant ∙ not_kept c.args.table.now loop.i (omega arith) c.if-table-i.true)

pub loop-i-preserved : goal.loop-i-preserved
loop-i-preserved c =
    let loop = c.loop-i in
    loop.invariant ∙ kept_next c.args.table.now loop.i (omega arith) c.if-table-i.false

pub returns : goal.returns
returns c =
    let loop = c.loop-i in
    sym (loop.invariant ∙ kept_end c.args.table.now loop.i (omega arith))
