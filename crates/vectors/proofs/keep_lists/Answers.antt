-- `vectors::keep_lists` meets its contract. Assumes nothing.
use native.Mathlib.Omega.{arith}
use mathlib.Core.Path.{◌∙◌}
use Rattle.vectors.proofs.ReadLaws.{tail_part}
use Rattle.vectors.proofs.VectorLaws.{keep_not, keep_new}
use Rattle.vectors.proofs.keep_lists.Goals as goal

pub returns-then-load_byte-ne108 : goal.returns-then-load_byte-ne108
returns-then-load_byte-ne108 c =
    let args = c.args in
    keep_not args.line.now args.store.now args.used c.load_byte.ensures c.if-load_byte-ne108.true

pub slice_bounds-decode-count : goal.slice_bounds-decode-count
slice_bounds-decode-count c = omega (arith, c.cut-seam.ensures.3)

pub slice_bounds-decode-start : goal.slice_bounds-decode-start
slice_bounds-decode-start c = omega (arith, c.cut-seam.ensures.3)

pub returns : goal.returns
returns c =
    let args = c.args in
    keep_new args.line.now args.store.now args.used c.load_byte.ensures c.if-load_byte-ne108.false (tail_part c.cut-seam.result.past args.line.now ∙ c.cut-seam.ensures.1) c.decode.ensures.0
