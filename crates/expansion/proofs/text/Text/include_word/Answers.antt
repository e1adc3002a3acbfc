use native.Mathlib.Omega.{arith}
use mathlib.Core.Path.{◌≡◌, sym, ap, ◌∙◌}
use Rattle.std.proofs.Common.{rules}
use Rattle.scanner.specs.declared.Class.TheVariants.{Atom, Colon}
use borrow.Author.Tests.{eq-eqb, ne_eqb}
use lib.Dec.{eqb}
use Rattle.grammar.specs.Believed.Rfc733.{kind_number, include}
use Rattle.scanner.proofs.Unfolding.{found}
use Rattle.expansion.proofs.IncludeLaws.{class_is, class_is_not, nothing_comes, no_atom, other_word, no_more, no_colon, include_comes}
use Rattle.expansion.proofs.text.Text.include_word.Goals as goal

pub returns-in_default : goal.returns-in_default
returns-in_default c = let a = c.args in nothing_comes a.self.now.classes.now a.self.now.bytes.now c.next_by.result a.at c.next_by.ensures c.in_default.not-Found

pub returns-then-ne : goal.returns-then-ne
returns-then-ne c = no_atom _ _ (found _ _ _ c.in-Found.ensures) (class_is_not _ Atom c.ne.ensures c.if-ne.true)

pub slice_bounds-typed_kind-count : goal.slice_bounds-typed_kind-count
slice_bounds-typed_kind-count c = let x = found _ _ _ c.in-Found.ensures in omega (arith, x.starts)

pub slice_bounds-typed_kind-start : goal.slice_bounds-typed_kind-start
slice_bounds-typed_kind-start c = let x = found _ _ _ c.in-Found.ensures in omega (arith, x.starts, x.within)

pub slice_bounds-typed_kind-end : goal.slice_bounds-typed_kind-end
slice_bounds-typed_kind-end c = let x = found _ _ _ c.in-Found.ensures in omega (arith, x.starts, x.within)

pub returns-then-typed_kind-ne-INCLUDE : goal.returns-then-typed_kind-ne-INCLUDE
returns-then-typed_kind-ne-INCLUDE c =
    let atom : c.in-Found.word.class ≡ Atom = search rules in
    other_word _ _ (found _ _ _ c.in-Found.ensures) atom (ap (λ k. eqb k (kind_number include)) (sym c.typed_kind.ensures) ∙ ne_eqb _ (kind_number include) c.if-typed_kind-ne-INCLUDE.true)

pub returns-in_default-next_by : goal.returns-in_default-next_by
returns-in_default-next_by c =
    let atom : c.in-Found.word.class ≡ Atom = search rules in
    no_more _ _ (found _ _ _ c.in-Found.ensures) atom c.next_by-2.result c.next_by-2.ensures c.in_default-next_by.not-Found

pub returns-then-ne-2 : goal.returns-then-ne-2
returns-then-ne-2 c =
    let atom : c.in-Found.word.class ≡ Atom = search rules in
    no_colon _ _ (found _ _ _ c.in-Found.ensures) atom (found _ _ _ c.in-Found-next_by.ensures) (class_is_not _ Colon c.ne-2.ensures c.if-ne-2.true)

pub returns : goal.returns
returns c =
    let atom : c.in-Found.word.class ≡ Atom = search rules in
    include_comes _ _ (found _ _ _ c.in-Found.ensures) atom (found _ _ _ c.in-Found-next_by.ensures)
    (ap (λ k. eqb k (kind_number include)) (sym c.typed_kind.ensures) ∙ eq-eqb _ (kind_number include) c.if-typed_kind-ne-INCLUDE.false) (class_is _ Colon c.ne-2.ensures c.if-ne-2.false)
