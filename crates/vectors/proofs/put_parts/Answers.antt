-- `vectors::put_parts` meets its contract. Assumes nothing.
use mathlib.Core.Path.{sym, ◌∙◌}
use native.Mathlib.Omega.{arith}
use lib.Seq.{length-take-le}
use Rattle.vectors.proofs.VectorLaws.{message_is, parts_text_lem}
use Rattle.vectors.proofs.ReadLaws.{tail_part}
use native.Mathlib.Omega.{arith}
use lib.Seq.{length-take-le}
use Rattle.vectors.proofs.put_parts.Goals as goal

pub slice_bounds-decode-end : goal.slice_bounds-decode-end
slice_bounds-decode-end c =
    sym (length-take-le c.cut-seam.result.at c.args.tail.now c.cut-seam.ensures.2)

pub slice_bounds-decode-count : goal.slice_bounds-decode-count
slice_bounds-decode-count c = omega (arith, c.cut-seam.ensures.3)

pub slice_bounds-decode-start : goal.slice_bounds-decode-start
slice_bounds-decode-start c = omega (arith, c.cut-seam.ensures.3)

pub slice_bounds-put_with_room-end : goal.slice_bounds-put_with_room-end
slice_bounds-put_with_room-end c =
    sym (length-take-le _ _ (rw c.decode-size.auto.out c.decode-size.ensures.1))

pub slice_bounds-put_with_room-end-2 : goal.slice_bounds-put_with_room-end-2
slice_bounds-put_with_room-end-2 c =
    sym (length-take-le _ _ (rw c.decode-more.auto.out c.decode-more.ensures.1))

pub returns : goal.returns
returns c =
    let args = c.args in
    parts_text_lem args.letter args.head.now args.tail.now args.store.now (message_is c.large_buffer-first.result c.large_buffer-first.ensures c.cut-seam.ensures.0 c.decode-size.ensures.2) (message_is c.large_buffer-second.result c.large_buffer-second.ensures (tail_part c.cut-seam.result.past args.tail.now ∙ c.cut-seam.ensures.1) c.decode-more.ensures.2) c.put_with_room.ensures
