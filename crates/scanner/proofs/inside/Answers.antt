-- `scanner::inside` meets its contract. Assumes nothing.
use mathlib.Core.Path.{◌∙◌}
use native.Mathlib.Omega.{arith}
use Rattle.std.proofs.lemmas.Result.{err_from_is_err_and}
use Rattle.scanner.specs.Ties.Steps.{alone, with_taken}
use Rattle.scanner.proofs.InsideLaws.{ends_inside, return_inside, above_inside, backslash_inside}
use Rattle.scanner.proofs.inside.Goals as goal

pub returns-in_err-kind : goal.returns-in_err-kind
returns-in_err-kind c =
    let a = c.args in
    let p = err_from_is_err_and c.from_residual.result c.from_residual.ensures.1 in
    ends_inside a.classes.now a.text.now a.at a.unclosed (rw c.in_err-kind.ensures.ok_part at c.character_at.ensures) c.from_residual.result (grind (arith, p.1, p.2))

pub returns-in_err-next-in-Backslash : goal.returns-in_err-next-in-Backslash
returns-in_err-next-in-Backslash c =
    let p = err_from_is_err_and c.from_residual-in_err-next-in-Backslash.result c.from_residual-in_err-next-in-Backslash.ensures.1 in
    let x = rw c.in_ok-kind.ensures.ok_part at c.character_at.ensures in
    rw (p.1, p.2) (λ state n. backslash_inside (rw c.in-Backslash.is at x) state c.args.unclosed n ∙ c.in_err-next-in-Backslash.ensures state n)

pub returns-in-Return : goal.returns-in-Return
returns-in-Return c =
    let x = rw c.in_ok-kind.ensures.ok_part at c.character_at.ensures in
    λ state n. return_inside (rw c.in-Return.is at x) state c.args.unclosed n

pub returns-in-Above : goal.returns-in-Above
returns-in-Above c =
    let x = rw c.in_ok-kind.ensures.ok_part at c.character_at.ensures in
    λ state n. above_inside (rw c.in-Above.is at x) state c.args.unclosed n

pub returns-in_ok-next-in-Backslash : goal.returns-in_ok-next-in-Backslash
returns-in_ok-next-in-Backslash c =
    let x = rw c.in_ok-kind.ensures.ok_part at c.character_at.ensures in
    rw c.in-Backslash.is (with_taken (rw c.in-Backslash.is at x) c.in_ok-next-in-Backslash.ensures)

pub returns-in_default : goal.returns-in_default
returns-in_default c =
    alone (rw c.in_ok-kind.ensures.ok_part at c.character_at.ensures) c.in_default.not-Return c.in_default.not-Above c.in_default.not-Backslash
