-- `scanner::quoted_end` meets its contract. Assumes nothing.
use mathlib.Core.Path.{refl, sym, ap, ◌∙◌}
use mathlib.Core.List.{[]}
use native.Mathlib.Omega.{arith}
use Rattle.std.proofs.lemmas.Result.{err_from_is_err_and}
use Rattle.scanner.specs.Believed.Scanning.{Scanned, in_quoted, parted}
use Rattle.scanner.specs.Ties.Steps.{first_of}
use Rattle.scanner.proofs.MoveLaws.{quoted_moves}
use Rattle.scanner.proofs.InsideLaws.{fault_first, inside_bounds, first_inside, data_inside, data_taken_inside}
use Rattle.std.specs.Prelude.{Err}
use Rattle.scanner.proofs.quoted_end.Goals as goal

pub loop-kind-init : goal.loop-kind-init
loop-kind-init c = (omega arith, record { quoting = record { meaning = []; same = refl }; size_is = refl; low = omega arith })

pub returns-in_err-kind : goal.returns-in_err-kind
returns-in_err-kind c =
    let a = c.args in
    let l = c.loop-kind in
    let p = err_from_is_err_and c.from_residual.result c.from_residual.ensures.1 in
    fault_first a.apart a.start (p.1 ∙ ap Err p.2) (l.invariant.1.quoting.same ∙ c.in_err-kind.ensures (in_quoted a.start l.invariant.1.quoting.meaning) refl)

pub returns-in-Quote : goal.returns-in-Quote
unfolding parted
returns-in-Quote c =
    let l = c.loop-kind in
    let x = first_inside (rw c.in-Quote.is at c.in_ok-kind.ensures) (λ k. cc) in
    λ from e. rw (x.behind, e, l.invariant.1.size_is) (sym (ap (λ (s : Scanned). first_of (parted from s)) (quoted_moves l.invariant.1.quoting x _ refl)))

pub loop-kind-preserved-in-Backslash : goal.loop-kind-preserved-in-Backslash
loop-kind-preserved-in-Backslash c =
    let x = rw c.in-Backslash.is at c.in_ok-kind.ensures in
    ((inside_bounds x).2, data_taken_inside c.loop-kind.invariant.1 x)

pub loop-kind-preserved : goal.loop-kind-preserved
loop-kind-preserved c =
    let x = c.in_ok-kind.ensures in
    ((inside_bounds x).2, data_inside c.loop-kind.invariant.1 x c.in_default.not-Quote c.in_default.not-Backslash)
