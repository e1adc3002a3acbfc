-- `scanner::character_at` meets its contract. Assumes nothing.
use mathlib.Core.Path.{sym, ap, ◌∙◌}
use native.Mathlib.Omega.{arith}
use Rattle.scanner.specs.Believed.Kinds.{kind_of}
use Rattle.scanner.proofs.CharacterLaws.{no_character, return_kind, no_return, fold_first, plain_first}
use Rattle.scanner.proofs.character_at.Goals as goal

pub returns-in_err-b : goal.returns-in_err-b
returns-in_err-b c = rw c.from_residual.ensures (no_character c.args.text.now c.args.at (omega (arith, c.in_err-b.ensures.lookup)))

pub returns-then-b-ne13 : goal.returns-then-b-ne13
returns-then-b-ne13 c =
    let a = c.args in
    let b = c.in_ok-b.ensures.lookup in
    plain_first a.classes.now a.text.now a.at b.3.0 (no_return a.text.now a.at (rw (b.3.1 0) at c.if-b-ne13.true)) (c.kind_of.ensures ∙ ap (kind_of a.classes.now) (b.3.1 0))

pub returns-then-folds : goal.returns-then-folds
returns-then-folds c =
    let a = c.args in
    fold_first a.classes.now a.text.now a.at (sym c.if-folds.ensures)

pub returns : goal.returns
returns c =
    let a = c.args in
    let b = c.in_ok-b.ensures.lookup in
    plain_first a.classes.now a.text.now a.at b.3.0 (sym c.if-folds.ensures) (return_kind a.classes.now _ (rw (b.3.1 0) at c.if-b-ne13.false))
