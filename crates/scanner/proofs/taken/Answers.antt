-- `scanner::taken` meets its contract. Assumes nothing.
use mathlib.Core.Path.{◌≡◌}
use native.Mathlib.Omega.{arith}
use borrow.Author.Rules.{rules}
use Rattle.std.proofs.lemmas.Result.{err_from_is_err_and}
use Rattle.scanner.specs.declared.ByteKind.TheVariants.{Above}
use Rattle.scanner.proofs.InsideLaws.{ends_taken, above_taken}
use Rattle.scanner.proofs.taken.Goals as goal

pub returns-in_err-kind : goal.returns-in_err-kind
returns-in_err-kind c =
    let a = c.args in
    let p = err_from_is_err_and c.from_residual.result c.from_residual.ensures.1 in
    ends_taken a.classes.now a.text.now a.at a.unclosed (rw c.in_err-kind.ensures.ok_part at c.character_at.ensures) c.from_residual.result (grind (arith, p.1, p.2))

pub returns-then-eq : goal.returns-then-eq
returns-then-eq c =
    let k : c.in_ok-kind.field-0.kind ≡ Above = search rules in
    let x = rw c.in_ok-kind.ensures.ok_part at c.character_at.ensures in
    λ state n. above_taken (rw k at x) state c.args.unclosed n
