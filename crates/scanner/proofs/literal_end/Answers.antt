-- `scanner::literal_end` meets its contract. Assumes nothing.
use mathlib.Core.Path.{refl, sym, ap, ◌∙◌}
use mathlib.Core.List.{[]}
use Rattle.std.specs.Prelude.{Err}
use Rattle.std.proofs.lemmas.Result.{err_from_is_err_and}
use Rattle.octets.specs.Believed.Numbers.{literal_not_closed}
use Rattle.scanner.specs.Believed.Scanning.{Scanned, in_literal, halt, parted}
use Rattle.scanner.specs.Ties.Steps.{first_of}
use Rattle.scanner.proofs.MoveLaws.{literal_moves, literal_passed}
use Rattle.scanner.proofs.InsideLaws.{fault_first, inside_bounds, first_inside, literal_inside}
use Rattle.scanner.proofs.literal_end.Goals as goal

pub returns-in_err-kind : goal.returns-in_err-kind
returns-in_err-kind c =
    let a = c.args in
    let w = literal_passed c.loop-kind.invariant.1 c.past_literal_text-p.ensures in
    let p = err_from_is_err_and c.from_residual.result c.from_residual.ensures.1 in
    fault_first a.apart a.start (p.1 ∙ ap Err p.2) (w.same ∙ c.in_err-kind.ensures (in_literal a.start) refl)

pub returns-in-CloseBracket : goal.returns-in-CloseBracket
unfolding parted
returns-in-CloseBracket c =
    let w = literal_passed c.loop-kind.invariant.1 c.past_literal_text-p.ensures in
    let x = first_inside (rw c.in-CloseBracket.is at c.in_ok-kind.ensures) (λ k. cc) in
    λ from e. rw (x.behind, e) (sym (ap (λ (s : Scanned). first_of (parted from s)) (literal_moves w x _ refl)))

pub returns-in-OpenBracket : goal.returns-in-OpenBracket
unfolding parted
returns-in-OpenBracket c =
    let w = literal_passed c.loop-kind.invariant.1 c.past_literal_text-p.ensures in
    let x = first_inside (rw c.in-OpenBracket.is at c.in_ok-kind.ensures) (λ k. cc) in
    λ from e. sym (ap (λ (s : Scanned). first_of (parted from s)) (literal_moves w x (halt [] literal_not_closed _) refl))

pub loop-kind-preserved : goal.loop-kind-preserved
loop-kind-preserved c =
    let w = literal_passed c.loop-kind.invariant.1 c.past_literal_text-p.ensures in
    let x = c.in_ok-kind.ensures in
    ((inside_bounds x).2, literal_inside w x c.in_default.not-OpenBracket c.in_default.not-CloseBracket)
