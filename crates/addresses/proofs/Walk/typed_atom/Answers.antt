-- `addresses::Walk::typed_atom` meets its contract. Assumes nothing.
use mathlib.Core.Path.{sym, ◌∙◌}
use Rattle.grammar.specs.Executable.Trees733.{Atom, Colon}
use Rattle.addresses.proofs.CursorSteps.{with_cursor, stepped, class_in}
use Rattle.addresses.proofs.CursorReads.{typed_done, no_atom_done, no_colon_done}
use Rattle.addresses.proofs.Walk.typed_atom.Goals as goal

pub returns-then-not-is_ahead : goal.returns-then-not-is_ahead
returns-then-not-is_ahead c = no_atom_done c.args.classes.now c.args.text.now (stepped _ _ c.args.self.now c.step.ensures) (sym c.is_ahead.ensures ∙ c.if-not-is_ahead.true)

pub returns-then-not-is_ahead-2 : goal.returns-then-not-is_ahead-2
returns-then-not-is_ahead-2 c =
    let k = c.args.classes.now in
    let t = c.args.text.now in
    no_colon_done k t (stepped k t c.args.self.now c.step.ensures) (class_in Atom c.step.new.self c.is_ahead.ensures c.if-not-is_ahead.false) (stepped k t (with_cursor c.args.self.now c.step.new.self) c.step-2.ensures) (sym c.is_ahead-2.ensures ∙ c.if-not-is_ahead-2.true)

pub returns : goal.returns
returns c =
    let k = c.args.classes.now in
    let t = c.args.text.now in
    typed_done k t (stepped k t c.args.self.now c.step.ensures) (class_in Atom c.step.new.self c.is_ahead.ensures c.if-not-is_ahead.false) (stepped k t (with_cursor c.args.self.now c.step.new.self) c.step-2.ensures) (class_in Colon c.step-2.new.self c.is_ahead-2.ensures c.if-not-is_ahead-2.false)
