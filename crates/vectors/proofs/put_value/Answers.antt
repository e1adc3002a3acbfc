-- `vectors::put_value` meets its contract. Assumes nothing.
use mathlib.Core.Path.{sym, ap, ◌∙◌}
use native.Mathlib.Omega.{arith}
use lib.IntN.{pos}
use lib.Signed.{lt_z}
use mir.Syntax.{w64}
use mir.Facts.{to_z-of_z, to_z_pos}
use Rattle.listing.proofs.SignLaws.{below, at_least}
use Rattle.vectors.proofs.put_value.Goals as goal

pub overflow_sub-size : goal.overflow_sub-size
overflow_sub-size c =
    let f = c.ranges.value in
    let b = below c.args.value f (ap (λ z. lt_z z (pos 0)) (sym (to_z-of_z f)) ∙ c.if-value-lt0.true) in
    rw (to_z-of_z f, b.is) (record { sfits = b.small })

pub overflow_cast-size : goal.overflow_cast-size
overflow_cast-size c =
    let f = c.ranges.value in
    let b = below c.args.value f (ap (λ z. lt_z z (pos 0)) (sym (to_z-of_z f)) ∙ c.if-value-lt0.true) in
    rw (to_z-of_z f, b.is, to_z_pos w64 b.small) (tt, record { fits = omega (arith, b.small) })

pub overflow_add-size : goal.overflow_add-size
overflow_add-size c =
    let f = c.ranges.value in
    let b = below c.args.value f (ap (λ z. lt_z z (pos 0)) (sym (to_z-of_z f)) ∙ c.if-value-lt0.true) in
    rw (to_z-of_z f, b.is, to_z_pos w64 b.small) (record { fits = omega (arith, b.small) })

pub returns-then-value-lt0 : goal.returns-then-value-lt0
returns-then-value-lt0 c =
    let f = c.ranges.value in
    let b = below c.args.value f (ap (λ z. lt_z z (pos 0)) (sym (to_z-of_z f)) ∙ c.if-value-lt0.true) in
    rw b.shape (rw (to_z-of_z f, b.is, to_z_pos w64 b.small) at c.put_line.ensures)

pub overflow_cast-size-2 : goal.overflow_cast-size-2
overflow_cast-size-2 c =
    let f = c.ranges.value in
    let b = at_least c.args.value f (ap (λ z. lt_z z (pos 0)) (sym (to_z-of_z f)) ∙ c.if-value-lt0.false) in
    rw (to_z-of_z f, b.shape) (tt, record { fits = omega (arith, b.small) })

pub returns : goal.returns
returns c =
    let f = c.ranges.value in
    let b = at_least c.args.value f (ap (λ z. lt_z z (pos 0)) (sym (to_z-of_z f)) ∙ c.if-value-lt0.false) in
    rw b.shape (rw (to_z-of_z f, b.shape) at c.put_line-2.ensures)
