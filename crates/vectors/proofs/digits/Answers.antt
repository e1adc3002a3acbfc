use mathlib.Core.Path.{refl, sym, ◌∙◌}
use native.Mathlib.Omega.{arith}
use lib.ListN.{get_or}
use Rattle.vectors.proofs.ReadLaws.{digit_next, no_digit, digits_end, digit_range}
use Rattle.vectors.proofs.digits.Goals as goal

pub loop-i-init : goal.loop-i-init
loop-i-init c = (omega arith, refl)

pub bounds-text-i : goal.bounds-text-i
bounds-text-i c = omega arith

pub returns-then-not-is_digit : goal.returns-then-not-is_digit
returns-then-not-is_digit c =
    let loop = c.loop-i in
    sym (loop.invariant.1 ∙ no_digit loop.n c.args.text.now loop.i (omega arith) (sym c.is_digit.ensures ∙ c.if-not-is_digit.true))

pub overflow_sub-n : goal.overflow_sub-n
overflow_sub-n c =
    let d = digit_range (get_or c.args.text.now c.loop-i.i 0) (sym c.is_digit.ensures ∙ c.if-not-is_digit.false) in omega (arith, d.0)

pub overflow_cast-n : goal.overflow_cast-n
overflow_cast-n c =
    let d = digit_range (get_or c.args.text.now c.loop-i.i 0) (sym c.is_digit.ensures ∙ c.if-not-is_digit.false) in omega (arith, d.0, d.1)

pub overflow_add-n : goal.overflow_add-n
overflow_add-n c =
    let d = digit_range (get_or c.args.text.now c.loop-i.i 0) (sym c.is_digit.ensures ∙ c.if-not-is_digit.false) in omega (arith, d.0, d.1)

pub loop-i-preserved : goal.loop-i-preserved
loop-i-preserved c =
    let args = c.args in
    let loop = c.loop-i in
    let if1 = c.if-not-is_digit in
    let d = digit_range (get_or args.text.now loop.i 0) (sym c.is_digit.ensures ∙ if1.false) in (omega (arith, d.0, d.1), loop.invariant.1 ∙ digit_next loop.n args.text.now loop.i (omega arith) (sym c.is_digit.ensures ∙ if1.false))

pub returns : goal.returns
returns c =
    let loop = c.loop-i in
    sym (loop.invariant.1 ∙ digits_end loop.n c.args.text.now loop.i (omega arith))
