use mathlib.Core.Path.{refl, ap, ◌∙◌}
use Prim.Native.Nat.{◌+◌}
use native.Mathlib.Omega.{arith}
use lib.ListN.{get_or, drop}
use Rattle.vectors.specs.Believed.Putting.{putting}
use Rattle.vectors.specs.Believed.Reading.{stays, decoded}
use Rattle.vectors.proofs.ReadLaws.{tail_part, decoded_next, decoded_end, decode_done}
use Rattle.vectors.proofs.decode.Goals as goal

pub loop-i-init : goal.loop-i-init
loop-i-init c = (omega arith, refl, refl)

pub bounds-text-i : goal.bounds-text-i
bounds-text-i c = omega arith

pub slice_bounds-put_piece-count : goal.slice_bounds-put_piece-count
slice_bounds-put_piece-count c = omega arith

pub slice_bounds-put_piece-start : goal.slice_bounds-put_piece-start
slice_bounds-put_piece-start c = omega arith

pub loop-i-preserved : goal.loop-i-preserved
loop-i-preserved c =
    let loop = c.loop-i in
    let args = c.args in
    (omega arith, c.put_piece-n.auto.out ∙ loop.invariant.1, loop.invariant.2 ∙ ap (putting loop.out loop.n) (decoded_next loop.inside args.text.now loop.i (omega arith)) ∙ (rw (tail_part (loop.i + 1) args.text.now) at (c.put_piece-n.ensures.same (decoded (stays loop.inside (get_or args.text.now loop.i 0)) (drop (loop.i + 1) args.text.now)))) ∙ rw c.is_inside-inside.ensures)

pub shape_of-out : goal.shape_of-out
shape_of-out c = c.loop-i.invariant.1

pub returns : goal.returns
returns c =
    let args = c.args in
    let loop = c.loop-i in
    decode_done args.text.now args.out.now loop.out loop.n (loop.invariant.2 ∙ ap (putting loop.out loop.n) (decoded_end loop.inside args.text.now loop.i (omega arith)))
