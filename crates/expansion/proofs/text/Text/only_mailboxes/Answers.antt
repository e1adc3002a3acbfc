use native.Mathlib.Omega.{arith}
use mathlib.Core.Path.{sym, ap, ◌∙◌}
use mathlib.Core.Bool.{true, false, not}
use Rattle.scanner.proofs.Unfolding.{found}
use Rattle.scanner.specs.declared.Class.TheVariants.{At, GreaterThan}
use Rattle.expansion.proofs.SeekSteps.{only_none, only_as, only_word, only_comma, only_other, nothing_seen, something_seen, words_test}
use borrow.Enum.Refused.{opened}
use Rattle.expansion.proofs.text.Text.only_mailboxes.Goals as goal

pub returns-in_default : goal.returns-in_default
returns-in_default c = only_none _ _ _ _ _ c.loop-symbol.invariant c.next_by.ensures c.in_default.not-Found

pub loop-symbol-smaller-then-eq : goal.loop-symbol-smaller-then-eq
loop-symbol-smaller-then-eq c = let x = found _ _ _ c.in-Found.ensures in omega (arith, x.from, x.starts, x.within)

pub loop-symbol-preserved-then-eq : goal.loop-symbol-preserved-then-eq
loop-symbol-preserved-then-eq c =
    only_word _ _ _ _ _ c.loop-symbol.invariant (found _ _ _ c.in-Found.ensures) c.in-Atom.in-Atom-own.keys1 (nothing_seen _ (sym c.eq.ensures ∙ c.if-eq.true))

pub loop-symbol-smaller-else-eq : goal.loop-symbol-smaller-else-eq
loop-symbol-smaller-else-eq c = let x = found _ _ _ c.in-Found.ensures in omega (arith, x.from, x.starts, x.within)

pub loop-symbol-preserved-else-eq : goal.loop-symbol-preserved-else-eq
loop-symbol-preserved-else-eq c =
    only_word _ _ _ _ _ c.loop-symbol.invariant (found _ _ _ c.in-Found.ensures) c.in-Atom.in-Atom-own.keys1 (something_seen _ (sym c.eq.ensures ∙ c.if-eq.false))

pub loop-symbol-smaller-in-At : goal.loop-symbol-smaller-in-At
loop-symbol-smaller-in-At c = let x = found _ _ _ c.in-Found.ensures in omega (arith, x.from, x.starts, x.within)

pub loop-symbol-preserved-in-At : goal.loop-symbol-preserved-in-At
loop-symbol-preserved-in-At c = only_as _ _ _ _ _ c.loop-symbol.invariant (found _ _ _ c.in-Found.ensures) At c.in-At.is

pub returns-then-eq-2 : goal.returns-then-eq-2
returns-then-eq-2 c =
    sym (only_comma _ _ _ _ _ c.loop-symbol.invariant (found _ _ _ c.in-Found.ensures) true c.in-Comma.is (sym c.if-eq-2.true ∙ c.eq-in-Comma.ensures ∙ words_test _))

pub loop-symbol-smaller : goal.loop-symbol-smaller
loop-symbol-smaller c = let x = found _ _ _ c.in-Found.ensures in omega (arith, x.from, x.starts, x.within)

pub loop-symbol-preserved : goal.loop-symbol-preserved
loop-symbol-preserved c =
    only_comma _ _ _ _ _ c.loop-symbol.invariant (found _ _ _ c.in-Found.ensures) false c.in-Comma.is (sym c.if-eq-2.false ∙ c.eq-in-Comma.ensures ∙ words_test _)

pub returns-in-GreaterThan : goal.returns-in-GreaterThan
returns-in-GreaterThan c =
    c.ne.ensures ∙ ap not (words_test _) ∙ sym (only_as _ _ _ _ _ c.loop-symbol.invariant (found _ _ _ c.in-Found.ensures) GreaterThan c.in-GreaterThan.is)

pub returns-in_default-class : goal.returns-in_default-class
returns-in_default-class c =
    only_other _ _ _ _ _ c.loop-symbol.invariant (found _ _ _ c.in-Found.ensures) (opened c.in_default-class.in_default-class-own.keys5)
