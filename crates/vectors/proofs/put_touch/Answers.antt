-- `vectors::put_touch` meets its contract. Assumes nothing.
use native.Mathlib.Omega.{arith}
use mathlib.Core.Path.{sym, ap, ◌∙◌}
use Prim.Native.Nat.{◌%◌}
use lib.ListN.{length, replicate}
use lib.Seq.{length-take-le}
use Rattle.vectors.specs.Believed.Answers.{untouched_number}
use Rattle.vectors.specs.Believed.Vectors.{touch_text}
use Rattle.vectors.proofs.PutLaws.{puts_as}
use Rattle.vectors.proofs.AnswerLaws.{path_is}
use Rattle.vectors.proofs.put_touch.Goals as goal

pub slice_bounds-put_touched-end : goal.slice_bounds-put_touched-end
slice_bounds-put_touched-end c =
    sym (length-take-le (c.asked-room.result % 71) c.path_room-path.result (omega (arith, ap length c.path_room-path.ensures)))

pub returns : goal.returns
returns c =
    let args = c.args in
    puts_as (λ rest. ap (λ p. touch_text args.head.now args.message.now p rest) (path_is c.asked-room.result c.path_room-path.ensures ∙ ap (λ y. replicate (y % 71) untouched_number) c.asked-room.ensures)) c.put_touched.ensures
