-- `vectors::put_piece` meets its contract. Assumes nothing.
use mathlib.Core.Path.{sym}
use lib.Seq.{length-take-le}
use Rattle.vectors.proofs.PutLaws.{puts_nothing, puts_as}
use Rattle.vectors.proofs.ReadLaws.{piece_inside, piece_braced, piece_byte}
use Rattle.vectors.proofs.put_piece.Goals as goal

pub returns-then-inside : goal.returns-then-inside
returns-then-inside c =
    let args = c.args in
    puts_as (λ rest. piece_inside args.inside args.b args.text.now rest c.if-inside.true) (puts_nothing _ _)

pub slice_bounds-put_braced-end : goal.slice_bounds-put_braced-end
slice_bounds-put_braced-end c =
    sym (length-take-le c.cut-seam.result.at c.args.text.now c.cut-seam.ensures.2)

pub returns-then-b-eq123 : goal.returns-then-b-eq123
returns-then-b-eq123 c =
    let args = c.args in
    puts_as (λ rest. piece_braced args.inside args.b args.text.now rest c.if-inside.false c.if-b-eq123.true) (rw c.cut-seam.ensures.0 at c.put_braced.ensures)

pub returns : goal.returns
returns c =
    let args = c.args in
    puts_as (λ rest. piece_byte args.inside args.b args.text.now rest c.if-inside.false c.if-b-eq123.false) (rw c.meant.ensures at c.put.ensures)
