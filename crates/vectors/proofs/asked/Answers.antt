-- `vectors::asked` meets its contract. Assumes nothing.
use native.Mathlib.Omega.{arith}
use mathlib.Core.Path.{◌∙◌}
use Rattle.vectors.proofs.ReadLaws.{tail_part, asked_behind, not_asked}
use Rattle.vectors.proofs.asked.Goals as goal

pub slice_bounds-digits-count : goal.slice_bounds-digits-count
slice_bounds-digits-count c = omega (arith, c.cut-seam.ensures.3)

pub slice_bounds-digits-start : goal.slice_bounds-digits-start
slice_bounds-digits-start c = omega (arith, c.cut-seam.ensures.3)

pub returns-then-seam-head : goal.returns-then-seam-head
returns-then-seam-head c =
    let args = c.args in
    (rw (tail_part c.cut-seam.result.past args.head.now) at c.digits.ensures) ∙ asked_behind args.mark args.otherwise args.head.now c.cut-seam.ensures (omega arith)

pub returns : goal.returns
returns c =
    let args = c.args in
    not_asked args.mark args.otherwise args.head.now c.cut-seam.ensures (omega arith)
