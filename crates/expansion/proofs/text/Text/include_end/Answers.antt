use native.Mathlib.Omega.{arith}
use mathlib.Core.Path.{sym, ap, ◌∙◌}
use Rattle.scanner.proofs.Unfolding.{found}
use mathlib.Core.List.{[], ◌∷◌}
use Rattle.grammar.proofs.Rfc733.Readers.{ends_address}
use Rattle.addresses.proofs.ClassCases.{by_class}
use Rattle.expansion.proofs.SeekSteps.{skip_first, skip_none, skip_stop, skip_less, skip_greater, skip_inner, skip_other}
use borrow.Enum.Refused.{opened}
use Rattle.expansion.proofs.text.Text.include_end.Goals as goal

pub loop-symbol-init : goal.loop-symbol-init
loop-symbol-init c = let a = c.args in skip_first a.self.now.classes.now a.self.now.bytes.now a.at

pub returns-in_default : goal.returns-in_default
returns-in_default c =
    let a = c.args in
    let l = c.loop-symbol in
    skip_none a.self.now.classes.now a.self.now.bytes.now a.at l.p l.inner l.invariant c.next_by.result c.next_by.ensures c.in_default.not-Found

pub loop-symbol-smaller-in-LessThan : goal.loop-symbol-smaller-in-LessThan
loop-symbol-smaller-in-LessThan c = let x = (found _ _ _ (sym c.in-Found.is ∙ c.next_by.ensures)) in omega (arith, x.from, x.starts, x.within)

pub loop-symbol-preserved-in-LessThan : goal.loop-symbol-preserved-in-LessThan
loop-symbol-preserved-in-LessThan c =
    let a = c.args in
    let l = c.loop-symbol in
    skip_less a.self.now.classes.now a.self.now.bytes.now a.at l.p l.inner l.invariant ((found _ _ _ (sym c.in-Found.is ∙ c.next_by.ensures))) c.in-LessThan.is

pub returns-then-not-inner : goal.returns-then-not-inner
returns-then-not-inner c =
    let a = c.args in
    let l = c.loop-symbol in
    skip_stop a.self.now.classes.now a.self.now.bytes.now a.at l.p l.inner l.invariant ((found _ _ _ (sym c.in-Found.is ∙ c.next_by.ensures))) (ap ends_address c.in-GreaterThan.is) (c.if-not-inner.true)

pub loop-symbol-smaller-in-GreaterThan : goal.loop-symbol-smaller-in-GreaterThan
loop-symbol-smaller-in-GreaterThan c = let x = (found _ _ _ (sym c.in-Found.is ∙ c.next_by.ensures)) in omega (arith, x.from, x.starts, x.within)

pub loop-symbol-preserved-in-GreaterThan : goal.loop-symbol-preserved-in-GreaterThan
loop-symbol-preserved-in-GreaterThan c =
    let a = c.args in
    let l = c.loop-symbol in
    skip_greater a.self.now.classes.now a.self.now.bytes.now a.at l.p l.inner l.invariant ((found _ _ _ (sym c.in-Found.is ∙ c.next_by.ensures))) c.in-GreaterThan.is (c.if-not-inner.false)

pub returns-then-not-inner-2 : goal.returns-then-not-inner-2
returns-then-not-inner-2 c =
    let a = c.args in
    let l = c.loop-symbol in
    skip_stop a.self.now.classes.now a.self.now.bytes.now a.at l.p l.inner l.invariant ((found _ _ _ (sym c.in-Found.is ∙ c.next_by.ensures))) (by_class (5 ∷ 6 ∷ []) ends_address tt c.in-Found.symbol.class c.in-Comma.in-Comma-own.keys3) (c.if-not-inner-2.true)

pub loop-symbol-smaller-in-Comma : goal.loop-symbol-smaller-in-Comma
loop-symbol-smaller-in-Comma c = let x = (found _ _ _ (sym c.in-Found.is ∙ c.next_by.ensures)) in omega (arith, x.from, x.starts, x.within)

pub loop-symbol-preserved-in-Comma : goal.loop-symbol-preserved-in-Comma
loop-symbol-preserved-in-Comma c =
    let a = c.args in
    let l = c.loop-symbol in
    skip_inner a.self.now.classes.now a.self.now.bytes.now a.at l.p l.inner l.invariant ((found _ _ _ (sym c.in-Found.is ∙ c.next_by.ensures))) c.in-Comma.in-Comma-own.keys3 (c.if-not-inner-2.false)

pub loop-symbol-smaller : goal.loop-symbol-smaller
loop-symbol-smaller c = let x = (found _ _ _ (sym c.in-Found.is ∙ c.next_by.ensures)) in omega (arith, x.from, x.starts, x.within)

pub loop-symbol-preserved : goal.loop-symbol-preserved
loop-symbol-preserved c =
    let a = c.args in
    let l = c.loop-symbol in
    skip_other a.self.now.classes.now a.self.now.bytes.now a.at l.p l.inner l.invariant ((found _ _ _ (sym c.in-Found.is ∙ c.next_by.ensures))) (opened c.in_default-class.in_default-class-own.keys4)
