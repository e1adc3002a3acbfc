use mathlib.Core.Path.{refl, sym, ◌∙◌}
use native.Mathlib.Omega.{arith}
use Rattle.octets.proofs.ChoiceLaws.{cast_bool}
use Rattle.vectors.proofs.PutLaws.{left_all, left_after, left_last, left_none}
use Rattle.vectors.proofs.AnswerLaws.{symbols_found, symbols_ended, symbols_fault, symbols_none}
use Rattle.vectors.proofs.put_symbols.Goals as goal

pub loop-left-init : goal.loop-left-init
loop-left-init c = (refl, left_all _ _ _)

pub shape_of-out-in-Ended : goal.shape_of-out-in-Ended
shape_of-out-in-Ended c = c.loop-left.invariant.0

pub returns-in-Ended : goal.returns-in-Ended
returns-in-Ended c =
    let loop = c.loop-left in
    let args = c.args in
    left_none loop.invariant.1 (λ rest. symbols_ended loop.left args.message.now loop.p args.end rest (omega arith) (sym c.next_symbol.ensures.outcome.1 ∙ c.in-Ended.is))

pub shape_of-out-in-Fault : goal.shape_of-out-in-Fault
shape_of-out-in-Fault c = c.put_line.auto.out ∙ c.loop-left.invariant.0

pub returns-in-Fault : goal.returns-in-Fault
returns-in-Fault c =
    let loop = c.loop-left in
    let args = c.args in
    left_last loop.invariant.1 (λ rest. symbols_fault loop.left args.message.now loop.p args.end rest (omega arith) (sym c.next_symbol.ensures.outcome.1 ∙ c.in-Fault.is)) c.put_line.ensures

pub loop-left-preserved : goal.loop-left-preserved
loop-left-preserved c =
    let loop = c.loop-left in
    let args = c.args in
    (c.put_line-m.auto.out ∙ loop.invariant.0, left_after loop.invariant.1 (λ rest. symbols_found loop.left args.message.now loop.p args.end rest (omega arith) (sym c.next_symbol.ensures.outcome.1 ∙ c.in-Found.is)) (rw (c.mark.ensures, cast_bool c.in-Found.symbol.apart) at c.put_line-m.ensures))

pub shape_of-out : goal.shape_of-out
shape_of-out c = c.loop-left.invariant.0

pub returns : goal.returns
returns c =
    let loop = c.loop-left in
    let args = c.args in
    left_none loop.invariant.1 (λ rest. symbols_none loop.left args.message.now loop.p args.end rest (omega arith))
