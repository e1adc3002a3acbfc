use mathlib.Core.Path.{refl, sym, ap, ◌∙◌}
use native.Mathlib.Omega.{arith}
use Prim.Native.Nat.{◌+◌, ◌*◌}
use lib.ListN.{drop, drop_of_length-le}
use Rattle.dates.specs.Believed.Grammar.{decimal, decimal_from}
use Rattle.dates.proofs.FormLaws.{decimal_step, grows, bounded}
use Rattle.dates.proofs.form.decimal.Goals as goal

pub loop-digit-init : goal.loop-digit-init
unfolding decimal
loop-digit-init c = record { is = refl; small = omega arith }

pub overflow_mul-value : goal.overflow_mul-value
overflow_mul-value c =
    let l = c.loop-digit in
    omega (arith, bounded l.value l.digit-index 5 l.invariant.small (omega (arith, c.requires, c.loop-digit-test.true)))

pub overflow_add-value : goal.overflow_add-value
overflow_add-value c =
    let l = c.loop-digit in
    omega (arith, bounded l.value l.digit-index 5 l.invariant.small (omega (arith, c.requires, c.loop-digit-test.true)), c.from.ensures)

pub loop-digit-preserved : goal.loop-digit-preserved
loop-digit-preserved c =
    let a = c.args in
    let l = c.loop-digit in
    record {
      is =
          l.invariant.is ∙ decimal_step a.digits.now l.value l.digit-index c.loop-digit-test.true
          ∙ ap (λ x. decimal_from (l.value * 10 + x) (drop (l.digit-index + 1) a.digits.now)) (sym (c.from.ensures ∙ c.saturating_sub.ensures));
      small = grows l.value c.from.result l.digit-index l.invariant.small (omega (arith, c.from.ensures));
    }

pub returns : goal.returns
returns c =
    let a = c.args in
    let l = c.loop-digit in (
      sym (l.invariant.is ∙ ap (λ d. decimal_from l.value d) (drop_of_length-le a.digits.now (omega (arith, c.loop-digit-test.false)))),
      bounded l.value l.digit-index 6 l.invariant.small (omega (arith, c.requires, l.auto.digit-index-end)),
    )
