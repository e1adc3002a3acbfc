-- `scanner::pass` meets its contract. Assumes nothing.
use native.Mathlib.Omega.{arith}
use borrow.Author.Rules.{rules}
use mathlib.Core.Path.{◌≡◌}
use Rattle.scanner.specs.declared.ByteKind.TheVariants.{Above}
use Rattle.scanner.proofs.InsideLaws.{taken_kind}
use Rattle.scanner.proofs.CategoryLaws.{open_passed, taken_passed}
use Rattle.scanner.proofs.pass.Goals as goal

pub returns-in-Outside-Open : goal.returns-in-Outside-Open
returns-in-Outside-Open c = rw (c.in-Outside-Open.is-0, c.in-Outside-Open.is-1) (open_passed, omega arith)

pub returns-in-Taking-default : goal.returns-in-Taking-default
returns-in-Taking-default c =
    let n : c.args.kind ≡ Above → ⊥ = search rules in
    rw c.in-Taking-default.is-0 (taken_passed c.in-Taking-default.depth c.args.kind (taken_kind c.args.kind n), omega arith)
