-- `scanner::plain_last` meets its contract. Assumes nothing.
use mathlib.Core.Path.{◌≡◌, refl, sym, ◌∙◌}
use native.Mathlib.Omega.{arith}
use lib.ListN.{length}
use Rattle.scanner.proofs.ByteLaws.{runs_on, runs_out, runs_last}
use Rattle.scanner.proofs.plain_last.Goals as goal

pub returns-then-not-plain_at : goal.returns-then-not-plain_at
returns-then-not-plain_at c = runs_out c.loop-p.invariant (omega arith) (sym c.plain_at.ensures ∙ c.if-not-plain_at.true)

pub loop-p-preserved : goal.loop-p-preserved
loop-p-preserved c = runs_on c.loop-p.invariant c.requires.1 refl (omega arith) (sym c.plain_at.ensures ∙ c.if-not-plain_at.false)

pub returns : goal.returns
returns c =
    let w = c.loop-p.invariant in
    let e : c.loop-p.p ≡ length c.args.text.now = omega (arith, w.within) in
    rw e at (runs_last w c.loop-p-test.false)
