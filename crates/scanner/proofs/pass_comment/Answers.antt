-- `scanner::pass_comment` meets its contract. Assumes nothing.
use native.Mathlib.Omega.{arith}
use Rattle.scanner.proofs.InsideLaws.{text_kind}
use Rattle.scanner.proofs.CategoryLaws.{deeper, closes_one, takes_next, text_passed}
use Rattle.scanner.proofs.pass_comment.Goals as goal

pub returns-in-Open : goal.returns-in-Open
returns-in-Open c = (rw c.in-Open.is (deeper _), omega arith)

pub returns-in-Close-2 : goal.returns-in-Close-2
returns-in-Close-2 c = (rw c.in-Close.is (closes_one _ c.if-depth-eq0.false), omega arith)

pub returns-in-Backslash : goal.returns-in-Backslash
returns-in-Backslash c = (rw c.in-Backslash.is (takes_next _), omega arith)

pub returns-in_default : goal.returns-in_default
returns-in_default c =
    let d = c.in_default in
    (text_passed c.args.depth c.args.kind (text_kind c.args.kind d.not-Return d.not-Above d.not-Backslash d.not-Open d.not-Close), omega arith)
