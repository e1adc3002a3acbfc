-- `plain::write_fitting` meets its contract: there is room enough for what each byte leads to, or a first run stores nothing. Assumes nothing.
use native.Mathlib.Omega.{arith}
use mathlib.Core.Path.{refl}
use mathlib.Core.List.{[]}
use lib.ListN.{length}
use Rattle.plain.specs.Ties.Walking.{written_text}
use Rattle.octets.proofs.Writes.{too_long, fitting}
use Rattle.plain.proofs.TextBounds.{written_most}
use Rattle.plain.proofs.write_fitting.Goals as goal

pub returns-then-text-start : goal.returns-then-text-start
returns-then-text-start c =
    let a = c.args in
    let t = written_text a.classes.now a.text.now a.start in
    fitting t a.out.now [] _ (length t) _ refl refl (omega (arith, c.if-text-start.true, written_most a.classes.now a.text.now a.start)) c.write_by.ensures.0 c.write_by.ensures.1

pub returns-then-out-needed : goal.returns-then-out-needed
returns-then-out-needed c =
    let a = c.args in
    too_long (written_text a.classes.now a.text.now a.start) a.out.now c.write_by-needed.new.out _ c.write_by-needed.ensures.0 c.write_by-needed.auto.out c.if-out-needed.true

pub returns : goal.returns
returns c =
    let a = c.args in
    fitting (written_text a.classes.now a.text.now a.start) a.out.now c.write_by-needed.new.out _ _ _ c.write_by-needed.ensures.0 c.write_by-needed.auto.out c.if-out-needed.false c.write_by-2.ensures.0 c.write_by-2.ensures.1
