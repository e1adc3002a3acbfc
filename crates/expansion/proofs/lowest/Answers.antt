use mathlib.Core.Path.{sym, ◌∙◌}
use Rattle.expansion.proofs.StoreLaws.{named_here, named_later}
use Rattle.expansion.proofs.lowest.Goals as goal

pub returns-then-has_name : goal.returns-then-has_name
returns-then-has_name c =
    let l = c.loop-i in
    sym (l.invariant.1 ∙ named_here _ _ _ l.i c.loop-i-test.true (sym c.has_name.ensures ∙ c.if-has_name.true))

pub loop-i-preserved : goal.loop-i-preserved
loop-i-preserved c =
    let l = c.loop-i in
    (l.invariant.0, l.invariant.1 ∙ named_later _ _ _ l.i c.loop-i-test.true (sym c.has_name.ensures ∙ c.if-has_name.false))
