-- `vectors::write_answer` meets its contract. Assumes nothing.
use mathlib.Core.Path.{sym, ◌∙◌}
use Rattle.vectors.proofs.VectorLaws.{all_put}
use Rattle.vectors.proofs.ReadLaws.{tail_part}
use native.Mathlib.Omega.{arith}
use lib.Seq.{length-take-le}
use Rattle.vectors.proofs.write_answer.Goals as goal

pub slice_bounds-put_parts-end : goal.slice_bounds-put_parts-end
slice_bounds-put_parts-end c =
    sym (length-take-le c.cut-seam.result.at c.args.line.now c.cut-seam.ensures.2)

pub slice_bounds-put_parts-count : goal.slice_bounds-put_parts-count
slice_bounds-put_parts-count c = omega (arith, c.cut-seam.ensures.3)

pub slice_bounds-put_parts-start : goal.slice_bounds-put_parts-start
slice_bounds-put_parts-start c = omega (arith, c.cut-seam.ensures.3)

pub returns : goal.returns
returns c =
    let args = c.args in
    all_put args.line.now args.store.now c.cut-seam.ensures.0 (tail_part c.cut-seam.result.past args.line.now ∙ c.cut-seam.ensures.1) c.load_byte.ensures c.put_bytes-n.ensures c.put-m.ensures c.put_parts.ensures
