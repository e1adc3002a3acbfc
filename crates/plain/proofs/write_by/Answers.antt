use mathlib.Core.Path.{refl, ◌∙◌}
use native.Mathlib.Omega.{arith}
use Rattle.std.proofs.Common.{rules}
use Rattle.scanner.proofs.CursorMoves.{tells_next}
use Rattle.addresses.proofs.CursorSteps.{found_in}
use Rattle.plain.proofs.WalkSteps.{behind_less, coming_first, comes, coming_next, coming_none, none_ahead, colon_in}
use Rattle.plain.proofs.write_by.Goals as goal

pub loop-cursor-init : goal.loop-cursor-init
loop-cursor-init c = (coming_first c.args.classes.now c.args.text.now c.args.start c.args.out.now (tells_next c.args.classes.now c.args.text.now c.args.start (rw c.new-cursor.ensures at c.step.ensures)), refl)

pub returns : goal.returns
returns c = let x = coming_none c.loop-cursor.invariant.0 (none_ahead c.loop-cursor.cursor c.in_default.not-Symbol) in
    let same_part = c.loop-cursor.invariant.1 in
    (x.0, search rules)

pub put_symbol-requires : goal.put_symbol-requires
put_symbol-requires c =
    let i = c.loop-cursor.invariant.0 in
    let x = comes i (found_in c.loop-cursor.cursor c.in-Symbol.is) in
    (x.starts, x.within, omega (arith, i.counted, x.from, x.starts, x.within, c.requires))

pub loop-cursor-smaller : goal.loop-cursor-smaller
loop-cursor-smaller c =
    let e = found_in c.loop-cursor.cursor c.in-Symbol.is in
    behind_less (comes c.loop-cursor.invariant.0 e) e (tells_next c.args.classes.now c.args.text.now c.loop-cursor.cursor.end c.step-in-Symbol.ensures)

pub loop-cursor-preserved : goal.loop-cursor-preserved
loop-cursor-preserved c = (
  coming_next c.loop-cursor.invariant.0 (found_in c.loop-cursor.cursor c.in-Symbol.is) c.requires (tells_next c.args.classes.now c.args.text.now c.loop-cursor.cursor.end c.step-in-Symbol.ensures) (colon_in c.step-in-Symbol.new.self c.colon_ahead-colon_next.ensures) c.put_symbol.ensures.wrote (omega (arith, c.put_symbol.ensures.few)) c.after-place.ensures,
  c.put_symbol.ensures.same_part ∙ c.loop-cursor.invariant.1,
)
