-- `engine::Stack::close_typed` meets its contract. Assumes nothing.
use mathlib.Core.Path.{sym, ◌∙◌}
use native.Mathlib.Omega.{arith}
use borrow.Author.Tests.{leb-true, leb-false}
use borrow.Author.Rules.{rules}
use Rattle.engine.specs.Ties.Turns.{kind_at}
use Rattle.engine.proofs.CodeLaws.{closing_stays, typed_top, some_level, top_level, closing_more}
use Rattle.engine.proofs.Stack.close_typed.Goals as goal

pub put_level-requires : goal.put_level-requires
put_level-requires c =
    let p = c.requires in
    let k = leb-true 5 (kind_at c.args.self.now.levels c.loop-left.left) (sym c.is_typed.ensures ∙ c.loop-left-test.true) in
    some_level p.here p.address (typed_top p.here p.address k (c.loop-left.invariant.2 p.lent p.here p.address p.closing))

pub loop-left-preserved : goal.loop-left-preserved
loop-left-preserved c =
    let k = leb-true 5 (kind_at c.args.self.now.levels c.loop-left.left) (sym c.is_typed.ensures ∙ c.loop-left-test.true) in (
      omega arith,
      search rules,
      λ lent h a x.
          let y = typed_top h a k (c.loop-left.invariant.2 lent h a x) in
          closing_more h a y _ (c.put_level.ensures y.here _ _ _ _ (top_level h a y)),
    )

pub returns : goal.returns
returns c =
    λ lent h a x.
    closing_stays h a (leb-false 5 (kind_at c.args.self.now.levels c.loop-left.left) (sym c.is_typed.ensures ∙ c.loop-left-test.false)) (c.loop-left.invariant.2 lent h a x)
