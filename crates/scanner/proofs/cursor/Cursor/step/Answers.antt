use mathlib.Core.Path.{refl, sym, ap, ◌∙◌}
use native.Mathlib.Omega.{arith}
use Rattle.scanner.specs.Ties.Cursors.{moved}
use Rattle.scanner.specs.declared.Next.{Next}
use Rattle.scanner.proofs.CursorMoves.{moves_on, white_passes, mark_comes, atom_comes, end_comes}
use Rattle.scanner.proofs.cursor.Cursor.step.Goals as goal

pub returns-then-class_in-ne-CONTROL : goal.returns-then-class_in-ne-CONTROL
returns-then-class_in-ne-CONTROL c = c.step_any.ensures

pub loop-p-init : goal.loop-p-init
loop-p-init c = record { looked = refl; same = refl }

pub returns-then-class-ge-LETTER : goal.returns-then-class-ge-LETTER
returns-then-class-ge-LETTER c =
    let l = c.loop-p in
    moves_on c.args.self.now l.self l.invariant (
    c.put.ensures
    ∙ ap (λ (n : Next). moved n l.self.from) (atom_comes (record { is_control = sym c.class_in.ensures ∙ c.if-class_in-ne-CONTROL.false }) c.args.text.now l.p c.loop-p-test.true l.self.from
    (rw c.class_in-class.ensures at c.if-class-ge-LETTER.true) c.plain_end-end.ensures c.atom_class.ensures)
    )

pub returns-then-class-gt-CLOSE_BRACKET : goal.returns-then-class-gt-CLOSE_BRACKET
returns-then-class-gt-CLOSE_BRACKET c =
    let l = c.loop-p in
    let e = c.class_in-class.ensures in
    moves_on c.args.self.now l.self l.invariant (
    c.put-then-class-gt-CLOSE_BRACKET.ensures
    ∙ ap (λ (n : Next). moved n l.self.from) (mark_comes (record { is_control = sym c.class_in.ensures ∙ c.if-class_in-ne-CONTROL.false }) c.args.text.now l.p c.loop-p-test.true l.self.from
    (omega (arith, e, c.if-class-gt-CLOSE_BRACKET.true)) (rw e at c.single.ensures))
    )

pub returns-then-class-eq-QUOTE : goal.returns-then-class-eq-QUOTE
returns-then-class-eq-QUOTE c = moves_on c.args.self.now c.loop-p.self c.loop-p.invariant c.step_quoted.ensures

pub returns-then-class-ne-WHITE : goal.returns-then-class-ne-WHITE
returns-then-class-ne-WHITE c = moves_on c.args.self.now c.loop-p.self c.loop-p.invariant c.step_any-then-class-ne-WHITE.ensures

pub loop-p-preserved : goal.loop-p-preserved
loop-p-preserved c =
    let l = c.loop-p in
    record {
      looked = l.invariant.looked;
      same = l.invariant.same ∙ white_passes (record { is_control = sym c.class_in.ensures ∙ c.if-class_in-ne-CONTROL.false }) c.args.text.now l.p c.loop-p-test.true (sym c.class_in-class.ensures ∙ c.if-class-ne-WHITE.false);
    }

pub returns : goal.returns
returns c =
    let l = c.loop-p in
    moves_on c.args.self.now l.self l.invariant (
    c.put_no_symbol.ensures
    ∙ ap (λ (n : Next). moved n l.self.from) (end_comes c.args.classes.now c.args.text.now l.self.from l.p c.loop-p-test.false)
    )
