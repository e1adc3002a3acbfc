-- `engine::run` meets its contract. Assumes nothing.
use mathlib.Core.Path.{refl, ◌∙◌}
use native.Mathlib.Omega.{arith}
use Rattle.addresses.proofs.NextLaws.{none_left}
use Rattle.engine.proofs.LoopLaws.{reading_start, reading_next, reading_turning, reading_on, reading_stops, reading_ends}
use borrow.Author.Rules.{rules}
use borrow.Enum.Refused.{opened}
use Rattle.engine.proofs.run.Goals as goal

pub loop-symbol-init : goal.loop-symbol-init
loop-symbol-init c =
    let a = c.args in
    let start = reading_start a.classes.now a.text.now a.table.now a.stack.now c.requires.2 c.requires.0 in
    (rw c.at_place-engine.ensures start, refl)

pub returns-in_default : goal.returns-in_default
returns-in_default c =
    let a = c.args in
    let r = c.loop-symbol.invariant.0 in
    reading_ends r ((reading_next r c.next_by.ensures).same ∙ none_left a.classes.now a.text.now c.next_by.result (opened c.in_default.in_default-own.keys2))

pub turn-requires : goal.turn-requires
turn-requires c =
    let r = c.loop-symbol.invariant.0 in
    (c.requires.1, record { lent = _; state = r.state; symbol = _; turning = reading_turning r (rw c.in-Found.is at (reading_next r c.next_by.ensures)) })

pub returns-in-Err : goal.returns-in-Err
returns-in-Err c =
    let r = c.loop-symbol.invariant.0 in
    let seen = rw c.in-Found.is at (reading_next r c.next_by.ensures) in
    reading_stops r _ seen (rw c.in-Err.is at (c.turn.ensures _ _ _ (reading_turning r seen)))

pub loop-symbol-smaller : goal.loop-symbol-smaller
loop-symbol-smaller c =
    let r = c.loop-symbol.invariant.0 in
    let seen = rw c.in-Found.is at (reading_next r c.next_by.ensures) in
    let g = rw c.in-Ok.is at (c.turn.ensures _ _ _ (reading_turning r seen)) in
    omega (arith, g.at_is, seen.ok.0, seen.ok.1.starts, seen.ok.1.within)

pub loop-symbol-preserved : goal.loop-symbol-preserved
loop-symbol-preserved c =
    let r = c.loop-symbol.invariant.0 in
    let seen = rw c.in-Found.is at (reading_next r c.next_by.ensures) in
    (reading_on r seen (rw c.in-Ok.is at (c.turn.ensures _ _ _ (reading_turning r seen))), search rules)
