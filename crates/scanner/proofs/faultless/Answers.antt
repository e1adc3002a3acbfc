-- `scanner::faultless` meets its contract. Assumes nothing.
use mathlib.Core.Path.{ap, ◌∙◌}
use native.Mathlib.Omega.{arith}
use Rattle.scanner.specs.Believed.Answers.{unless_fault, fault_of}
use Rattle.scanner.proofs.Unfolding.{found, found_end, found_fault, fault_on}
use Rattle.scanner.proofs.faultless.Goals as goal

pub loop-symbol-smaller : goal.loop-symbol-smaller
loop-symbol-smaller c =
    let x = found c.args.classes.now c.args.text.now c.loop-symbol.p (rw c.in-Found.is at c.next_by.ensures) in
    omega (arith, x.from, x.starts, x.within, c.past_harmless-p-in-Found.ensures.from)

pub loop-symbol-preserved : goal.loop-symbol-preserved
loop-symbol-preserved c =
    let x = found c.args.classes.now c.args.text.now c.loop-symbol.p (rw c.in-Found.is at c.next_by.ensures) in
    c.loop-symbol.invariant ∙ fault_on _ _ x ∙ c.past_harmless-p-in-Found.ensures.same

pub returns-in-Ended : goal.returns-in-Ended
unfolding unless_fault
returns-in-Ended c =
    let l = c.loop-symbol in
    l.invariant ∙ ap fault_of (found_end c.args.classes.now c.args.text.now l.p (rw c.in-Ended.is at c.next_by.ensures))

pub returns-in-Fault : goal.returns-in-Fault
unfolding unless_fault
returns-in-Fault c =
    let l = c.loop-symbol in
    l.invariant ∙ ap fault_of (found_fault c.args.classes.now c.args.text.now l.p (rw c.in-Fault.is at c.next_by.ensures))
