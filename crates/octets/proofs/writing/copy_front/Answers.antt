use mathlib.Core.Path.{refl, sym, ◌∙◌}
use native.Mathlib.Omega.{arith}
use lib.ListN.{get_or, length-set}
use Rattle.octets.proofs.Parts.{copied_here, copied_all}
use Rattle.octets.proofs.writing.copy_front.Goals as goal

pub loop-i-init : goal.loop-i-init
loop-i-init c = (refl, refl)

pub loop-i-preserved : goal.loop-i-preserved
loop-i-preserved c =
    let a = c.args in
    let l = c.loop-i in
    (length-set l.table l.i (get_or a.from.now l.i 0) ∙ l.invariant.0, l.invariant.1 ∙ copied_here a.from.now l.table a.many l.i 0 (omega arith) (omega arith))

pub returns : goal.returns
returns c =
    let a = c.args in
    let l = c.loop-i in
    sym (l.invariant.1 ∙ copied_all a.from.now l.table a.many l.i (omega (arith, l.invariant.0)))
