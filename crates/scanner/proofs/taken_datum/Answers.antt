-- `scanner::taken_datum` meets its contract. Assumes nothing.
use mathlib.Core.Path.{sym, ap, ◌∙◌}
use native.Mathlib.Omega.{arith}
use Rattle.scanner.proofs.CharacterLaws.{no_character, plain_at, fold_at_lem}
use Rattle.scanner.specs.declared.Datum.TheVariants.{Byte, LineEnd}
use lib.ListN.{get_or}
use Prim.Native.Nat.{ℕ, ◌+◌}
use Rattle.std.specs.Prelude.{Some}
use Rattle.scanner.proofs.taken_datum.Goals as goal

pub returns-in_err-b : goal.returns-in_err-b
returns-in_err-b c = c.from_residual.ensures ∙ rw (no_character c.args.text.now c.args.at (omega (arith, c.in_err-b.ensures.lookup)))

pub returns-then-folds : goal.returns-then-folds
returns-then-folds c =
    let a = c.args in
    rw (fold_at_lem a.text.now a.at (sym c.if-folds.ensures)) (ap (λ (n : ℕ). Some (LineEnd (get_or a.text.now (a.at + 2) 0) n)) (omega arith))

pub returns : goal.returns
returns c =
    let a = c.args in
    let b = c.in_ok-b.ensures.lookup in
    rw (plain_at a.text.now a.at b.3.0 (sym c.if-folds.ensures)) (ap (λ (x : ℕ). Some (Byte x (a.at + 1))) (b.3.1 0))
