use mathlib.Core.Path.{refl, sym, ◌∙◌}
use native.Mathlib.Omega.{arith}
use Rattle.scanner.proofs.ByteLaws.{runs, runs_on, runs_out, runs_to}
use Rattle.scanner.proofs.plain_end.Goals as goal

pub loop-p-init : goal.loop-p-init
loop-p-init c = runs _ _ _ c.requires.0

pub returns-then-not-plain_at : goal.returns-then-not-plain_at
returns-then-not-plain_at c = runs_out c.loop-p.invariant (omega arith) (sym c.plain_at.ensures ∙ c.if-not-plain_at.true)

pub returns-then-not-plain_at-2 : goal.returns-then-not-plain_at-2
returns-then-not-plain_at-2 c = runs_out ((runs_on c.loop-p.invariant c.requires.1 refl (omega arith) (sym c.plain_at.ensures ∙ c.if-not-plain_at.false))) (omega arith) (sym c.plain_at-in-loop-p.ensures ∙ c.if-not-plain_at-2.true)

pub returns-then-not-plain_at-3 : goal.returns-then-not-plain_at-3
returns-then-not-plain_at-3 c = runs_out ((runs_on ((runs_on c.loop-p.invariant c.requires.1 refl (omega arith) (sym c.plain_at.ensures ∙ c.if-not-plain_at.false))) c.requires.1 (omega arith) (omega arith) (sym c.plain_at-in-loop-p.ensures ∙ c.if-not-plain_at-2.false))) (omega arith) (sym c.plain_at-in-loop-p-2.ensures ∙ c.if-not-plain_at-3.true)

pub returns-then-not-plain_at-4 : goal.returns-then-not-plain_at-4
returns-then-not-plain_at-4 c = runs_out ((runs_on ((runs_on ((runs_on c.loop-p.invariant c.requires.1 refl (omega arith) (sym c.plain_at.ensures ∙ c.if-not-plain_at.false))) c.requires.1 (omega arith) (omega arith) (sym c.plain_at-in-loop-p.ensures ∙ c.if-not-plain_at-2.false))) c.requires.1 (omega arith) (omega arith) (sym c.plain_at-in-loop-p-2.ensures ∙ c.if-not-plain_at-3.false))) (omega arith) (sym c.plain_at-in-loop-p-3.ensures ∙ c.if-not-plain_at-4.true)

pub loop-p-preserved : goal.loop-p-preserved
loop-p-preserved c = (runs_on ((runs_on ((runs_on ((runs_on c.loop-p.invariant c.requires.1 refl (omega arith) (sym c.plain_at.ensures ∙ c.if-not-plain_at.false))) c.requires.1 (omega arith) (omega arith) (sym c.plain_at-in-loop-p.ensures ∙ c.if-not-plain_at-2.false))) c.requires.1 (omega arith) (omega arith) (sym c.plain_at-in-loop-p-2.ensures ∙ c.if-not-plain_at-3.false))) c.requires.1 (omega arith) (omega arith) (sym c.plain_at-in-loop-p-3.ensures ∙ c.if-not-plain_at-4.false))

pub returns : goal.returns
returns c = runs_to c.loop-p.invariant c.plain_last.ensures
