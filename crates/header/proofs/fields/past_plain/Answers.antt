use mathlib.Core.Path.{refl, sym, ◌∙◌}
use Prim.Native.Nat.{◌+◌}
use native.Mathlib.Omega.{arith}
use Rattle.header.proofs.StepLaws.{goes_one}
use Rattle.header.proofs.fields.past_plain.Goals as goal

pub returns-then-not-is_plain-2 : goal.returns-then-not-is_plain-2
returns-then-not-is_plain-2 c = goes_one c.loop-p.invariant (omega arith) (sym c.is_plain.ensures ∙ c.if-not-is_plain.false) refl

pub returns-then-not-is_plain-3 : goal.returns-then-not-is_plain-3
returns-then-not-is_plain-3 c =
    let one = goes_one c.loop-p.invariant (omega arith) (sym c.is_plain.ensures ∙ c.if-not-is_plain.false) refl in
    goes_one one (omega arith) (sym c.is_plain-in-loop-p.ensures ∙ c.if-not-is_plain-2.false) (omega arith)

pub returns-then-not-is_plain-4 : goal.returns-then-not-is_plain-4
returns-then-not-is_plain-4 c =
    let one = goes_one c.loop-p.invariant (omega arith) (sym c.is_plain.ensures ∙ c.if-not-is_plain.false) refl in
    let two = goes_one {q = c.loop-p.p + 2} one (omega arith) (sym c.is_plain-in-loop-p.ensures ∙ c.if-not-is_plain-2.false) (omega arith) in
    goes_one two (omega arith) (sym c.is_plain-in-loop-p-2.ensures ∙ c.if-not-is_plain-3.false) (omega arith)

pub loop-p-preserved : goal.loop-p-preserved
loop-p-preserved c =
    let one = goes_one c.loop-p.invariant (omega arith) (sym c.is_plain.ensures ∙ c.if-not-is_plain.false) refl in
    let two = goes_one {q = c.loop-p.p + 2} one (omega arith) (sym c.is_plain-in-loop-p.ensures ∙ c.if-not-is_plain-2.false) (omega arith) in
    let three = goes_one {q = c.loop-p.p + 3} two (omega arith) (sym c.is_plain-in-loop-p-2.ensures ∙ c.if-not-is_plain-3.false) (omega arith) in
    goes_one three (omega arith) (sym c.is_plain-in-loop-p-3.ensures ∙ c.if-not-is_plain-4.false) (omega arith)
