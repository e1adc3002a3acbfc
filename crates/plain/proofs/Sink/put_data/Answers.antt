-- `plain::Sink::put_data` meets its contract. Assumes nothing.
use mathlib.Core.Path.{sym, ap}
use mathlib.Core.List.{[], ◌∷◌}
use native.Mathlib.Omega.{arith}
use Rattle.octets.specs.Believed.Octets.{return_byte, line_feed_byte}
use Rattle.scanner.proofs.Meanings.{DataFirst, datum_is}
use Rattle.plain.specs.Believed.PlainText.{data_text}
use Rattle.plain.proofs.Sinks.{still_all, still_after, still_few, still_none}
use Rattle.plain.proofs.Sink.put_data.Goals.{In-Byte, In-LineEnd}
use Rattle.plain.proofs.Sink.put_data.Goals as goal

-- the datum at the position reached
byte_first : (c : In-Byte) → DataFirst c.args.classes.now c.args.text.now c.loop-datum.p (c.in-Byte.b ∷ []) c.in-Byte.behind
byte_first c = let d = datum_is c.args.classes.now c.args.text.now c.loop-datum.p in rw (sym c.in-Some.ensures, c.in-Byte.is) at d

line_end_first : (c : In-LineEnd) → DataFirst c.args.classes.now c.args.text.now c.loop-datum.p (return_byte ∷ line_feed_byte ∷ c.in-LineEnd.white ∷ []) c.in-LineEnd.behind
line_end_first c = let d = datum_is c.args.classes.now c.args.text.now c.loop-datum.p in rw (sym c.in-Some.ensures, c.in-LineEnd.is) at d

pub loop-datum-init : goal.loop-datum-init
loop-datum-init c = (omega arith, omega arith, still_few (still_all _ _) (omega arith))

pub put_datum-requires : goal.put_datum-requires
put_datum-requires c = let x = byte_first (goal.at.put_datum-requires c).In-Byte in omega (arith, x.passed, x.within, c.loop-datum.invariant.2.few)

pub loop-datum-smaller-in-Byte : goal.loop-datum-smaller-in-Byte
loop-datum-smaller-in-Byte c = let x = byte_first (goal.at.loop-datum-smaller-in-Byte c).In-Byte in omega (arith, x.passed, x.within)

pub loop-datum-preserved-in-Byte : goal.loop-datum-preserved-in-Byte
loop-datum-preserved-in-Byte c =
    let x = byte_first (goal.at.loop-datum-preserved-in-Byte c).In-Byte in
    (omega (arith, x.passed), x.within, still_few (still_after c.loop-datum.invariant.2 (λ rest. ap (λ t. data_text t rest) x.first) c.put_datum.ensures) (omega (arith, x.passed)))

pub put_line_end-requires : goal.put_line_end-requires
put_line_end-requires c = let x = line_end_first (goal.at.put_line_end-requires c).In-LineEnd in omega (arith, x.passed, x.within, c.loop-datum.invariant.2.few)

pub loop-datum-smaller : goal.loop-datum-smaller
loop-datum-smaller c = let x = line_end_first (goal.at.loop-datum-smaller c).In-LineEnd in omega (arith, x.passed, x.within)

pub loop-datum-preserved : goal.loop-datum-preserved
loop-datum-preserved c =
    let x = line_end_first (goal.at.loop-datum-preserved c).In-LineEnd in
    (omega (arith, x.passed), x.within, still_few (still_after c.loop-datum.invariant.2 (λ rest. ap (λ t. data_text t rest) x.first) c.put_line_end.ensures) (omega (arith, x.passed)))

pub returns : goal.returns
returns c =
    let e = rw (sym c.in_default.ensures) at (datum_is c.args.classes.now c.args.text.now c.loop-datum.p) in
    still_none c.loop-datum.invariant.2 (λ rest. ap (λ t. data_text t rest) e) (omega arith)
