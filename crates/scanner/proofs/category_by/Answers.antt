-- `scanner::category_by` meets its contract. Assumes nothing.
use mathlib.Core.Path.{◌≡◌, sym, ap, ◌∙◌}
use native.Mathlib.Omega.{arith}
use borrow.Author.Rules.{rules}
use Rattle.std.specs.Prelude.{None, Ok}
use Rattle.scanner.proofs.Unfolding.{SymbolAt, faultless_on}
use Rattle.scanner.proofs.FirstLaws.{first_found, first_end, first_fault}
use Rattle.scanner.proofs.BodyChecks.{no_fault}
use Rattle.scanner.proofs.CategoryLaws.{category_over, category_before, category_in, category_behind}
use Rattle.scanner.proofs.category_by.Goals.{In-Ok-Some, in_default, in_default-2}
use Rattle.scanner.proofs.category_by.Goals as goal

-- the symbol found
here : (c : In-Ok-Some) → SymbolAt c.args.classes.now c.args.text.now c.loop-symbol.p c.in-Ok-Some.symbol.class c.in-Ok-Some.symbol.start c.in-Ok-Some.symbol.end
here c = first_found c.args.classes.now c.args.text.now c.loop-symbol.p c.in-Ok-Some.symbol (rw c.in-Ok-Some.field-0-is at c.in-Ok-Some.ensures)

pub returns-then-place-symbol : goal.returns-then-place-symbol
returns-then-place-symbol c =
    let x = here (goal.at.returns-then-place-symbol c).In-Ok-Some in
    c.between_by.ensures ∙ sym (c.loop-symbol.invariant.2 ∙ category_before x _ (omega arith))

pub symbol_category-requires : goal.symbol_category-requires
symbol_category-requires c = let x = here (goal.at.symbol_category-requires c).In-Ok-Some in (omega (arith, x.starts), x.within)

pub returns-then-place-symbol-2 : goal.returns-then-place-symbol-2
returns-then-place-symbol-2 c =
    let x = here (goal.at.returns-then-place-symbol-2 c).In-Ok-Some in
    c.symbol_category.ensures ∙ sym (c.loop-symbol.invariant.2 ∙ category_in x _ (omega arith) (omega arith))

pub loop-symbol-smaller : goal.loop-symbol-smaller
loop-symbol-smaller c = let x = here (goal.at.loop-symbol-smaller c).In-Ok-Some in omega (arith, x.from, x.starts, x.within)

pub loop-symbol-preserved : goal.loop-symbol-preserved
loop-symbol-preserved c =
    let i = c.loop-symbol.invariant in
    let x = here (goal.at.loop-symbol-preserved c).In-Ok-Some in
    (omega arith, faultless_on _ _ i.1 x, i.2 ∙ category_behind x _ (omega arith))

pub returns : goal.returns
returns c =
    let a = c.args in
    let l = c.loop-symbol in
    elim c.match-first.branch [
      | in_default w ↦
          let n : w.in_default.field-0 ≡ None = search rules in
          let e = first_end a.classes.now a.text.now l.p (ap Ok (sym n) ∙ sym w.in_default.is ∙ c.first.ensures) in
          c.between_by-2.ensures ∙ sym (l.invariant.2 ∙ category_over a.classes.now a.text.now l.p _ e)
      | in_default-2 w ↦ absurd (no_fault _ l.invariant.1.none (first_fault a.classes.now a.text.now l.p w.in_default.field-0 (sym w.in_default.is ∙ c.first.ensures)))
    ]
