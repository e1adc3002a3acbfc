-- `scanner::comment_end` meets its contract. Assumes nothing.
use native.Mathlib.Omega.{arith}
use Rattle.scanner.proofs.MoveLaws.{comment_opens, comment_closes, comment_over}
use Rattle.scanner.proofs.InsideLaws.{inside_bounds, first_inside, comment_inside}
use Rattle.scanner.proofs.comment_end.Goals as goal

pub loop-kind-preserved-in-Open : goal.loop-kind-preserved-in-Open
loop-kind-preserved-in-Open c =
    let l = c.loop-kind in
    let x = first_inside (rw c.in-Open.is at c.in_ok-kind.ensures) (λ k. cc) in
    (x.within, omega (arith, l.invariant.1, x.from, x.behind), omega (arith, l.invariant.2, x.from, x.behind), comment_opens l.invariant.3 x)

pub returns-then-depth-eq0 : goal.returns-then-depth-eq0
returns-then-depth-eq0 c =
    let l = c.loop-kind in
    let x = first_inside (rw c.in-Close.is at c.in_ok-kind.ensures) (λ k. cc) in
    record { same = comment_over l.invariant.3 x c.if-depth-eq0.true; from = omega (arith, l.invariant.1, x.from, x.behind); within = x.within }

pub loop-kind-preserved-else-depth-eq0 : goal.loop-kind-preserved-else-depth-eq0
loop-kind-preserved-else-depth-eq0 c =
    let l = c.loop-kind in
    let x = first_inside (rw c.in-Close.is at c.in_ok-kind.ensures) (λ k. cc) in
    (x.within, omega (arith, l.invariant.1, x.from, x.behind), omega (arith, l.invariant.2, x.from, x.behind), comment_closes l.invariant.3 x c.if-depth-eq0.false)

pub loop-kind-preserved : goal.loop-kind-preserved
loop-kind-preserved c =
    let l = c.loop-kind in
    let x = c.in_ok-kind.ensures in
    let b = inside_bounds x in
    (b.2, omega (arith, b, l.invariant.1), omega (arith, b, l.invariant.2), comment_inside l.invariant.3 x c.in_default.not-Open c.in_default.not-Close)
