-- `engine::Stack::under_typed` meets its contract. Assumes nothing.
use mathlib.Core.Path.{sym, ◌∙◌}
use native.Mathlib.Omega.{arith}
use borrow.Author.Tests.{leb-true, leb-false}
use Rattle.engine.specs.Ties.Turns.{kind_at}
use Rattle.engine.proofs.ExpectingLaws.{under_start, under_stays, under_more}
use Rattle.engine.proofs.Stack.under_typed.Goals as goal

pub loop-left-init : goal.loop-left-init
loop-left-init c = (c.requires.is_open.deep, λ h a o. under_start h a o)

pub loop-left-preserved : goal.loop-left-preserved
loop-left-preserved c = (
  omega arith,
  λ h a o.
      under_more h a (leb-true 5 (kind_at c.args.self.now.levels c.loop-left.left) (sym c.is_typed.ensures ∙ c.loop-left-test.true)) (c.loop-left.invariant.1 h a o),
)

pub returns : goal.returns
returns c =
    λ h a o.
    under_stays h a (leb-false 5 (kind_at c.args.self.now.levels c.loop-left.left) (sym c.is_typed.ensures ∙ c.loop-left-test.false)) (c.loop-left.invariant.1 h a o)
