use mathlib.Core.Path.{refl, sym, ap, ◌∙◌}
use mathlib.Core.List.{[], ◌∷◌}
use native.Mathlib.Omega.{arith}
use lib.ListN.{length}
use Rattle.std.proofs.lemmas.Result.{err_from_is_err_and}
use Rattle.scanner.specs.declared.cursor.Ahead.TheVariants.{Symbol}
use Rattle.grammar.proofs.Rfc733.Readers.{ends_list}
use Rattle.addresses.specs.declared.Enclosure.TheVariants.{Angle, Group}
use Rattle.addresses.specs.declared.Walk.{Walk}
use Rattle.addresses.specs.Ties.Steps.{ends_ahead}
use Rattle.addresses.proofs.ClassCases.{by_class, begins_none_lem, ends_not}
use Rattle.addresses.proofs.CursorSteps.{with_cursor, refused_as, found_in, stepped}
use Rattle.addresses.proofs.CursorCycle.{none_ahead, angle_ahead, end_ahead, lone_ahead, mark_ahead, mark_later, no_mark_ahead, from_lone, from_mailbox, from_enclosed, enclosed_deep, enclosed_inside, enclosed_done, from_typed, from_nameless, typed_too_deep, typed_refused, child_begins, child_later, typed_inside, typed_done, goes_start, comma_less, goes_comma, address_begins, address_later, goes_stops, goes_address, address_less, goes_end}
use Rattle.addresses.proofs.Walk.+reading.Goals as goal

pub read_address-returns-in-LessThan : goal.read_address-returns-in-LessThan
read_address-returns-in-LessThan t c =
    let a = c.args in
    angle_ahead a.classes.now a.text.now a.self.now a.level (c.in-Symbol.is ∙ ap Symbol c.in-LessThan.is) a.table.now c.read_enclosed.new.table c.read_enclosed.result c.read_enclosed.new.self c.read_enclosed.ensures

pub read_address-returns-in_default-class : goal.read_address-returns-in_default-class
read_address-returns-in_default-class t c =
    let a = c.args in
    let n = c.in_default-class in
    none_ahead a.classes.now a.text.now a.self.now a.level c.in-Symbol.is (begins_none_lem c.in-Symbol.class (sym (ap ends_ahead c.in-Symbol.is) ∙ c.requires.begins) n.not-Atom n.not-Quoted n.not-LessThan n.not-Colon) a.table.now c.refusal-in_default-class.result a.self.now (refused_as (length a.text.now) a.self.now c.refusal-in_default-class.ensures)

pub read_colon-returns-in-Some : goal.read_colon-returns-in-Some
read_colon-returns-in-Some t c =
    let a = c.args in
    from_typed a.classes.now a.text.now a.self.now c.typed_atom.new.self c.requires c.in-Some.ensures a.table.now c.read_typed.new.table c.read_typed.result c.read_typed.new.self c.read_typed.ensures

pub read_colon-returns : goal.read_colon-returns
read_colon-returns t c =
    let a = c.args in
    from_nameless a.classes.now a.text.now a.self.now c.typed_atom.new.self c.requires c.in_default.ensures a.table.now c.read_enclosed.new.table c.read_enclosed.result c.read_enclosed.new.self c.read_enclosed.ensures

pub read_enclosed-returns-then-level-eq0 : goal.read_enclosed-returns-then-level-eq0
read_enclosed-returns-then-level-eq0 t c =
    let a = c.args in
    enclosed_deep a.classes.now a.text.now a.self.now a.level a.enclosure a.name c.requires c.if-level-eq0.true a.table.now

pub read_enclosed-returns-in_err-read_list : goal.read_enclosed-returns-in_err-read_list
read_enclosed-returns-in_err-read_list t c =
    let a = c.args in
    let p = err_from_is_err_and c.from_residual.result c.from_residual.ensures.1 in
    rw (p.1, p.2) (enclosed_inside a.classes.now a.text.now a.self.now a.level a.enclosure a.name c.requires c.if-level-eq0.false a.table.now c.read_list.new.table c.in_err-read_list.field-0.0 c.read_list.new.self c.in_err-read_list.ensures)

pub read_enclosed-returns : goal.read_enclosed-returns
read_enclosed-returns t c =
    let a = c.args in
    enclosed_done a.classes.now a.text.now a.self.now a.level a.enclosure a.name c.requires c.if-level-eq0.false a.table.now c.read_list.new.table c.close_list.new.table c.read_list.new.self c.close_list.result c.close_list.new.self c.in_ok-read_list.ensures c.close_list.ensures

pub read_list-loop-self-init : goal.read_list-loop-self-init
read_list-loop-self-init t c = (refl, λ entry p x. goes_start c.args.classes.now c.args.text.now p c.args.table.now x)

pub read_list-returns-in_default : goal.read_list-returns-in_default
read_list-returns-in_default t c =
    let k = c.args.classes.now in
    let x = c.args.text.now in
    goes_end k x (c.loop-self.invariant.1 c.args.self.now c.requires (stepped k x c.args.self.now c.step.ensures)) (end_ahead k x c.loop-self.self c.in_default.not-Symbol).1

pub read_list-loop-self-smaller-in-Comma : goal.read_list-loop-self-smaller-in-Comma
read_list-loop-self-smaller-in-Comma t c =
    let k = c.args.classes.now in
    let x = c.args.text.now in
    let g = c.loop-self.invariant.1 c.args.self.now c.requires (stepped k x c.args.self.now c.step.ensures) in
    comma_less k x g (c.in-Symbol.is ∙ ap Symbol c.in-Comma.is) (stepped k x c.loop-self.self c.step-in-Comma.ensures)

pub read_list-loop-self-preserved-in-Comma : goal.read_list-loop-self-preserved-in-Comma
read_list-loop-self-preserved-in-Comma t c =
    let k = c.args.classes.now in
    let x = c.args.text.now in
    (c.loop-self.invariant.0, λ entry p s. goes_comma k x (c.loop-self.invariant.1 entry p s) (c.in-Symbol.is ∙ ap Symbol c.in-Comma.is) (stepped k x c.loop-self.self c.step-in-Comma.ensures))

pub read_list-returns-in-GreaterThan : goal.read_list-returns-in-GreaterThan
read_list-returns-in-GreaterThan t c =
    let k = c.args.classes.now in
    let x = c.args.text.now in
    let g = c.loop-self.invariant.1 c.args.self.now c.requires (stepped k x c.args.self.now c.step.ensures) in
    goes_end k x g (rw (found_in c.loop-self.self.cursor c.in-Symbol.is) (by_class (4 ∷ 6 ∷ []) ends_list tt c.in-Symbol.class c.in-GreaterThan.in-GreaterThan-own.keys2))

pub read_list-read_address-requires : goal.read_list-read_address-requires
read_list-read_address-requires t c =
    let k = c.args.classes.now in
    let x = c.args.text.now in
    let n = c.in_default-class in
    let g = c.loop-self.invariant.1 c.args.self.now c.requires (stepped k x c.args.self.now c.step.ensures) in
    let f = ends_not c.in-Symbol.class n.not-Comma n.not-GreaterThan n.not-Semicolon in
    (omega (arith, address_later k x g c.in-Symbol.is f), address_begins k x g c.in-Symbol.is f c.requires)

pub read_list-loop-self-smaller : goal.read_list-loop-self-smaller
read_list-loop-self-smaller t c =
    let k = c.args.classes.now in
    let x = c.args.text.now in
    let n = c.in_default-class in
    let g = c.loop-self.invariant.1 c.args.self.now c.requires (stepped k x c.args.self.now c.step.ensures) in
    address_less k x g c.in-Symbol.is (ends_not c.in-Symbol.class n.not-Comma n.not-GreaterThan n.not-Semicolon) c.read_address.new.table c.read_address.new.self c.in_ok-read_address-in_default-class.ensures

pub read_list-loop-self-preserved : goal.read_list-loop-self-preserved
read_list-loop-self-preserved t c =
    let k = c.args.classes.now in
    let x = c.args.text.now in
    let n = c.in_default-class in
    (omega (arith, c.loop-self.invariant.0, c.read_address.auto.table), λ entry p s. goes_address k x (c.loop-self.invariant.1 entry p s) c.in-Symbol.is (ends_not c.in-Symbol.class n.not-Comma n.not-GreaterThan n.not-Semicolon) c.read_address.new.table c.read_address.new.self c.in_ok-read_address-in_default-class.ensures)

pub read_list-returns-in_err-read_address-in_default-class : goal.read_list-returns-in_err-read_address-in_default-class
read_list-returns-in_err-read_address-in_default-class t c =
    let k = c.args.classes.now in
    let x = c.args.text.now in
    let n = c.in_default-class in
    let g = c.loop-self.invariant.1 c.args.self.now c.requires (stepped k x c.args.self.now c.step.ensures) in
    let p = err_from_is_err_and c.from_residual.result c.from_residual.ensures.1 in
    rw (p.1, p.2) (goes_stops k x g c.in-Symbol.is (ends_not c.in-Symbol.class n.not-Comma n.not-GreaterThan n.not-Semicolon) c.read_address.new.table c.in_err-read_address-in_default-class.field-0.0 c.read_address.new.self c.in_err-read_address-in_default-class.ensures)

pub read_named-read_lone-requires : goal.read_named-read_lone-requires
read_named-read_lone-requires t c =
    let a = c.args in
    let k = a.classes.now in
    let x = a.text.now in
    lone_ahead k x a.self.now c.read_words-lone.new.self c.requires c.is_ahead-quoted.ensures c.read_words-lone.ensures (end_ahead k x c.read_words-lone.new.self c.in_default.not-Symbol).0

pub read_named-returns-in_default : goal.read_named-returns-in_default
read_named-returns-in_default t c =
    let a = c.args in
    let k = a.classes.now in
    let x = a.text.now in
    from_lone k x a.self.now c.read_words-lone.new.self c.requires c.is_ahead-quoted.ensures c.read_words-lone.ensures a.table.now c.read_lone.new.table c.read_lone.result c.read_lone.new.self c.read_lone.ensures

pub read_named-read_mailbox-requires : goal.read_named-read_mailbox-requires
read_named-read_mailbox-requires t c =
    let a = c.args in
    let k = a.classes.now in
    let x = a.text.now in
    mark_ahead k x a.self.now c.read_words-lone.new.self c.requires c.is_ahead-quoted.ensures c.read_words-lone.ensures c.in-Symbol.is

pub read_named-returns-in-At : goal.read_named-returns-in-At
read_named-returns-in-At t c =
    let a = c.args in
    let k = a.classes.now in
    let x = a.text.now in
    from_mailbox k x a.self.now c.read_words-lone.new.self c.requires c.is_ahead-quoted.ensures c.read_words-lone.ensures (c.in-Symbol.is ∙ ap Symbol c.in-At.is) a.table.now c.read_mailbox.new.table c.read_mailbox.result c.read_mailbox.new.self c.read_mailbox.ensures

pub read_named-read_enclosed-requires : goal.read_named-read_enclosed-requires
read_named-read_enclosed-requires t c =
    let a = c.args in
    let k = a.classes.now in
    let x = a.text.now in
    let m = mark_ahead k x a.self.now c.read_words-lone.new.self c.requires c.is_ahead-quoted.ensures c.read_words-lone.ensures c.in-Symbol.is in
    (omega (arith, mark_later k x a.self.now c.read_words-lone.new.self c.requires c.is_ahead-quoted.ensures c.read_words-lone.ensures c.in-Symbol.is, m.stands.within), m)

pub read_named-returns-in-LessThan : goal.read_named-returns-in-LessThan
read_named-returns-in-LessThan t c =
    let a = c.args in
    let k = a.classes.now in
    let x = a.text.now in
    from_enclosed k x a.self.now c.read_words-lone.new.self c.requires c.is_ahead-quoted.ensures c.read_words-lone.ensures Angle (c.in-Symbol.is ∙ ap Symbol c.in-LessThan.is) a.table.now c.read_enclosed.new.table c.read_enclosed.result c.read_enclosed.new.self c.read_enclosed.ensures

pub read_named-read_enclosed-requires-in-Colon : goal.read_named-read_enclosed-requires-in-Colon
read_named-read_enclosed-requires-in-Colon t c =
    let a = c.args in
    let k = a.classes.now in
    let x = a.text.now in
    let m = mark_ahead k x a.self.now c.read_words-lone.new.self c.requires c.is_ahead-quoted.ensures c.read_words-lone.ensures c.in-Symbol.is in
    (omega (arith, mark_later k x a.self.now c.read_words-lone.new.self c.requires c.is_ahead-quoted.ensures c.read_words-lone.ensures c.in-Symbol.is, m.stands.within), m)

pub read_named-returns-in-Colon : goal.read_named-returns-in-Colon
read_named-returns-in-Colon t c =
    let a = c.args in
    let k = a.classes.now in
    let x = a.text.now in
    from_enclosed k x a.self.now c.read_words-lone.new.self c.requires c.is_ahead-quoted.ensures c.read_words-lone.ensures Group (c.in-Symbol.is ∙ ap Symbol c.in-Colon.is) a.table.now c.read_enclosed-in-Colon.new.table c.read_enclosed-in-Colon.result c.read_enclosed-in-Colon.new.self c.read_enclosed-in-Colon.ensures

pub read_named-read_lone-requires-in_default-mark : goal.read_named-read_lone-requires-in_default-mark
read_named-read_lone-requires-in_default-mark t c =
    let a = c.args in
    let k = a.classes.now in
    let x = a.text.now in
    let n = c.in_default-mark in
    lone_ahead k x a.self.now c.read_words-lone.new.self c.requires c.is_ahead-quoted.ensures c.read_words-lone.ensures (no_mark_ahead k x a.self.now c.read_words-lone.new.self c.requires c.is_ahead-quoted.ensures c.read_words-lone.ensures c.in-Symbol.is n.not-At n.not-LessThan n.not-Colon)

pub read_named-returns-in_default-mark : goal.read_named-returns-in_default-mark
read_named-returns-in_default-mark t c =
    let a = c.args in
    let k = a.classes.now in
    let x = a.text.now in
    from_lone k x a.self.now c.read_words-lone.new.self c.requires c.is_ahead-quoted.ensures c.read_words-lone.ensures a.table.now c.read_lone-in_default-mark.new.table c.read_lone-in_default-mark.result c.read_lone-in_default-mark.new.self c.read_lone-in_default-mark.ensures

pub read_typed-returns-then-level-eq0 : goal.read_typed-returns-then-level-eq0
read_typed-returns-then-level-eq0 t c =
    let a = c.args in
    let w = a.self.now in
    let back : Walk = record w { cursor = record w.cursor { start = a.start } } in
    typed_too_deep a.classes.now a.text.now w a.level a.start a.atom c.requires c.if-level-eq0.true a.table.now back refl

pub read_typed-returns-then-ends_address : goal.read_typed-returns-then-ends_address
read_typed-returns-then-ends_address t c =
    let a = c.args in
    let k = a.classes.now in
    let x = a.text.now in
    let now = with_cursor a.self.now c.step.new.self in
    typed_refused k x a.self.now a.level a.start a.atom c.requires c.if-level-eq0.false now (stepped k x a.self.now c.step.ensures) (sym c.ends_address.ensures ∙ c.if-ends_address.true) a.table.now c.refusal.result now (refused_as (length x) now c.refusal.ensures)

pub read_typed-read_address-requires : goal.read_typed-read_address-requires
read_typed-read_address-requires t c =
    let a = c.args in
    let k = a.classes.now in
    let x = a.text.now in
    let s = stepped k x a.self.now c.step.ensures in
    let e = sym c.ends_address.ensures ∙ c.if-ends_address.false in
    let now = with_cursor a.self.now c.step.new.self in
    (omega (arith, c.if-level-eq0.false, child_later k x a.self.now a.level a.start a.atom c.requires c.if-level-eq0.false now s e), child_begins k x a.self.now a.level a.start a.atom c.requires c.if-level-eq0.false now s e)

pub read_typed-returns-in_err-read_address : goal.read_typed-returns-in_err-read_address
read_typed-returns-in_err-read_address t c =
    let a = c.args in
    let k = a.classes.now in
    let x = a.text.now in
    let p = err_from_is_err_and c.from_residual.result c.from_residual.ensures.1 in
    rw (p.1, p.2) (typed_inside k x a.self.now a.level a.start a.atom c.requires c.if-level-eq0.false (with_cursor a.self.now c.step.new.self) (stepped k x a.self.now c.step.ensures) (sym c.ends_address.ensures ∙ c.if-ends_address.false) a.table.now c.read_address.new.table c.in_err-read_address.field-0.0 c.read_address.new.self c.in_err-read_address.ensures)

pub read_typed-returns : goal.read_typed-returns
read_typed-returns t c =
    let a = c.args in
    let k = a.classes.now in
    let x = a.text.now in
    typed_done k x a.self.now a.level a.start a.atom c.requires c.if-level-eq0.false (with_cursor a.self.now c.step.new.self) (stepped k x a.self.now c.step.ensures) (sym c.ends_address.ensures ∙ c.if-ends_address.false) a.table.now c.read_address.new.table c.put.new.table c.read_address.new.self c.in_ok-read_address.ensures (rw c.typed_kind-kind.ensures at c.put.ensures)
