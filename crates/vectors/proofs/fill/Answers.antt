use mathlib.Core.Path.{◌≡◌, refl, ap, ◌∙◌}
use mathlib.Core.List.{List, []}
use Prim.Native.Nat.{ℕ}
use native.Mathlib.Omega.{arith}
use mathlib.Core.List.{append-nil}
use lib.ListN.{length, drop, set, replicate, length-set, drop_of_length-le}
use borrow.Author.Fill.{fill_more}
use Rattle.vectors.specs.Believed.Answers.{untouched_byte}
use Rattle.vectors.proofs.fill.Goals as goal

pub loop-i-init : goal.loop-i-init
loop-i-init c = (omega arith, refl, refl)

pub bounds-room-i : goal.bounds-room-i
bounds-room-i c = omega arith

pub loop-i-preserved : goal.loop-i-preserved
loop-i-preserved c =
    let loop = c.loop-i in
    (omega arith, ap (λ (l : List ℕ). set l loop.i untouched_byte) loop.invariant.1 ∙ fill_more loop.i untouched_byte c.args.room.now (omega arith), length-set loop.room loop.i untouched_byte ∙ loop.invariant.2)

pub shape_of-room : goal.shape_of-room
shape_of-room c = c.loop-i.invariant.2

pub returns : goal.returns
returns c =
    let loop = c.loop-i in
    let args = c.args in
    let n : loop.i ≡ length args.room.now = omega arith in
    let d : drop loop.i args.room.now ≡ [] = drop_of_length-le args.room.now {i = loop.i} (omega arith) in
    loop.invariant.1 ∙ rw (d, n) (append-nil (replicate (length args.room.now) untouched_byte))
