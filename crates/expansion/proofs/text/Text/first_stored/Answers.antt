use native.Mathlib.Omega.{arith}
use mathlib.Core.Path.{refl, sym, ◌∙◌}
use Rattle.scanner.proofs.Unfolding.{found}
use Rattle.expansion.proofs.SeekSteps.{first_none, first_closed, first_parts, first_found, first_later}
use borrow.Enum.Refused.{opened}
use Rattle.expansion.proofs.text.Text.first_stored.Goals as goal

pub loop-symbol-init : goal.loop-symbol-init
loop-symbol-init c = refl

pub returns-in_default : goal.returns-in_default
returns-in_default c =
    let a = c.args in
    let l = c.loop-symbol in
    first_none a.self.now.classes.now a.self.now.bytes.now a.store.now a.at l.p l.starts l.invariant c.next_by.result c.next_by.ensures c.in_default.not-Found

pub returns-in-GreaterThan : goal.returns-in-GreaterThan
returns-in-GreaterThan c =
    let a = c.args in
    let l = c.loop-symbol in
    first_closed a.self.now.classes.now a.self.now.bytes.now a.store.now a.at l.p l.starts l.invariant ((found _ _ _ (sym c.in-Found.is ∙ c.next_by.ensures))) c.in-GreaterThan.is

pub loop-symbol-smaller-in-Comma : goal.loop-symbol-smaller-in-Comma
loop-symbol-smaller-in-Comma c = let x = (found _ _ _ (sym c.in-Found.is ∙ c.next_by.ensures)) in omega (arith, x.from, x.starts, x.within)

pub loop-symbol-preserved-in-Comma : goal.loop-symbol-preserved-in-Comma
loop-symbol-preserved-in-Comma c =
    let a = c.args in
    let l = c.loop-symbol in
    first_parts a.self.now.classes.now a.self.now.bytes.now a.store.now a.at l.p l.starts l.invariant ((found _ _ _ (sym c.in-Found.is ∙ c.next_by.ensures))) c.in-Comma.is

pub returns-in-Some : goal.returns-in-Some
returns-in-Some c =
    let a = c.args in
    let l = c.loop-symbol in
    first_found a.self.now.classes.now a.self.now.bytes.now a.store.now a.at l.p l.starts l.invariant ((found _ _ _ (sym c.in-Found.is ∙ c.next_by.ensures))) (opened c.in_default-class.in_default-class-own.keys3) c.named_if.ensures c.in-Some.is

pub loop-symbol-smaller : goal.loop-symbol-smaller
loop-symbol-smaller c = let x = (found _ _ _ (sym c.in-Found.is ∙ c.next_by.ensures)) in omega (arith, x.from, x.starts, x.within)

pub loop-symbol-preserved : goal.loop-symbol-preserved
loop-symbol-preserved c =
    let a = c.args in
    let l = c.loop-symbol in
    first_later a.self.now.classes.now a.self.now.bytes.now a.store.now a.at l.p l.starts l.invariant ((found _ _ _ (sym c.in-Found.is ∙ c.next_by.ensures))) (opened c.in_default-class.in_default-class-own.keys3) c.named_if.ensures c.in-None.is
