use native.Mathlib.Omega.{arith}
use mathlib.Core.Path.{refl, sym, ◌∙◌}
use Rattle.scanner.proofs.Unfolding.{found}
use Rattle.scanner.specs.declared.Class.TheVariants.{At, LessThan}
use Rattle.expansion.proofs.SeekSteps.{held_none, held_as, held_word, held_other}
use borrow.Enum.Refused.{opened}
use Rattle.expansion.proofs.text.Text.held_at.Goals as goal

pub loop-symbol-init : goal.loop-symbol-init
loop-symbol-init c = refl

pub returns-in_default : goal.returns-in_default
returns-in_default c =
    let a = c.args in
    held_none a.self.now.classes.now a.self.now.bytes.now a.at c.loop-symbol.p c.loop-symbol.invariant c.next_by.result c.next_by.ensures c.in_default.not-Found

pub loop-symbol-smaller : goal.loop-symbol-smaller
loop-symbol-smaller c = let x = (found _ _ _ (sym c.in-Found.is ∙ c.next_by.ensures)) in omega (arith, x.from, x.starts, x.within)

pub loop-symbol-preserved : goal.loop-symbol-preserved
loop-symbol-preserved c =
    let a = c.args in
    let l = c.loop-symbol in
    held_word a.self.now.classes.now a.self.now.bytes.now a.at l.p l.invariant ((found _ _ _ (sym c.in-Found.is ∙ c.next_by.ensures))) c.in-Atom.in-Atom-own.keys1

pub returns-in-At : goal.returns-in-At
returns-in-At c =
    let a = c.args in
    let l = c.loop-symbol in
    held_as a.self.now.classes.now a.self.now.bytes.now a.at l.p l.invariant ((found _ _ _ (sym c.in-Found.is ∙ c.next_by.ensures))) At c.in-At.is

pub returns-in-LessThan : goal.returns-in-LessThan
returns-in-LessThan c =
    let a = c.args in
    let l = c.loop-symbol in
    held_as a.self.now.classes.now a.self.now.bytes.now a.at l.p l.invariant ((found _ _ _ (sym c.in-Found.is ∙ c.next_by.ensures))) LessThan c.in-LessThan.is

pub returns-in_default-class : goal.returns-in_default-class
returns-in_default-class c =
    let a = c.args in
    let l = c.loop-symbol in
    held_other a.self.now.classes.now a.self.now.bytes.now a.at l.p l.invariant ((found _ _ _ (sym c.in-Found.is ∙ c.next_by.ensures))) (opened c.in_default-class.in_default-class-own.keys4)
