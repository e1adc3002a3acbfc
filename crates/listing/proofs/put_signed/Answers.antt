-- `listing::put_signed` meets its contract. Assumes nothing.
use mathlib.Core.Path.{sym, ap, ◌∙◌}
use mathlib.Core.List.{◌∷◌}
use native.Mathlib.Omega.{arith}
use lib.IntN.{pos}
use lib.Signed.{lt_z}
use mir.Syntax.{w64}
use mir.Facts.{to_z-of_z, to_z_pos}
use Rattle.octets.specs.Believed.Octets.{minus_byte}
use Rattle.octets.proofs.Writes.{wrote_both}
use Rattle.listing.specs.Believed.Lines.{signed}
use Rattle.listing.proofs.SignLaws.{below, at_least}
use Rattle.listing.proofs.put_signed.Goals as goal

pub overflow_sub-x : goal.overflow_sub-x
overflow_sub-x c =
    let f = c.ranges.x in
    let b = below c.args.x f (ap (λ z. lt_z z (pos 0)) (sym (to_z-of_z f)) ∙ c.if-x-lt0.true) in
    rw (to_z-of_z f, b.is) (record { sfits = b.small })

pub overflow_cast-x : goal.overflow_cast-x
overflow_cast-x c =
    let f = c.ranges.x in
    let b = below c.args.x f (ap (λ z. lt_z z (pos 0)) (sym (to_z-of_z f)) ∙ c.if-x-lt0.true) in
    rw (to_z-of_z f, b.is, to_z_pos w64 b.small) (tt, record { fits = omega (arith, b.small) })

pub overflow_add-x : goal.overflow_add-x
overflow_add-x c =
    let f = c.ranges.x in
    let b = below c.args.x f (ap (λ z. lt_z z (pos 0)) (sym (to_z-of_z f)) ∙ c.if-x-lt0.true) in
    rw (to_z-of_z f, b.is, to_z_pos w64 b.small) (record { fits = omega (arith, b.small) })

pub returns-then-x-lt0 : goal.returns-then-x-lt0
unfolding signed
returns-then-x-lt0 c =
    let f = c.ranges.x in
    let b = below c.args.x f (ap (λ z. lt_z z (pos 0)) (sym (to_z-of_z f)) ∙ c.if-x-lt0.true) in
    (rw b.shape (wrote_both {f = λ rest. minus_byte ∷ rest} c.put-m.ensures.0 (rw (to_z-of_z f, b.is, to_z_pos w64 b.small) at c.put_decimal.ensures.0)), omega (arith, c.put-m.ensures.1, c.put_decimal.ensures.1))

pub overflow_cast-x-2 : goal.overflow_cast-x-2
overflow_cast-x-2 c =
    let f = c.ranges.x in
    let b = at_least c.args.x f (ap (λ z. lt_z z (pos 0)) (sym (to_z-of_z f)) ∙ c.if-x-lt0.false) in
    rw (to_z-of_z f, b.shape) (tt, record { fits = omega (arith, b.small) })

pub returns : goal.returns
unfolding signed
returns c =
    let f = c.ranges.x in
    let b = at_least c.args.x f (ap (λ z. lt_z z (pos 0)) (sym (to_z-of_z f)) ∙ c.if-x-lt0.false) in
    (rw b.shape (rw (to_z-of_z f, b.shape) at c.put_decimal-2.ensures.0), omega (arith, c.put_decimal-2.ensures.1))
