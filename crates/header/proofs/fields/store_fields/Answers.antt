use native.Mathlib.Omega.{arith}
use mathlib.Core.Path.{sym, ap, ◌∙◌}
use Rattle.std.proofs.Common.{Ok}
use Rattle.std.proofs.lemmas.Result.{err_from_is_err_and}
use Rattle.header.proofs.StepLaws.{gave, gave_end, gave_fault}
use Rattle.header.proofs.SplitLaws.{after_field, at_ended, at_fault}
use Rattle.header.proofs.fields.store_fields.Goals as goal

pub returns-in_err-field-clause-many : goal.returns-in_err-field-clause-many
returns-in_err-field-clause-many c =
    let p = err_from_is_err_and c.from_residual.result c.from_residual.ensures.1 in
    let d = at_fault c.loop-field.invariant (gave_fault _ (c.in_err-field.ensures)) in
    rw (p.1, p.2) d.many

pub returns-in_err-field-clause-stored : goal.returns-in_err-field-clause-stored
returns-in_err-field-clause-stored c = (at_fault c.loop-field.invariant (gave_fault _ (c.in_err-field.ensures))).stored

pub overflow_add-at : goal.overflow_add-at
overflow_add-at c =
    let l = c.loop-field in
    let g = gave c.args.message.now l.at l.invariant.within (ap Ok (sym c.in-Some.is) ∙ c.in_ok-field.ensures) in
    omega arith

pub loop-field-smaller : goal.loop-field-smaller
loop-field-smaller c =
    let l = c.loop-field in
    let g = gave c.args.message.now l.at l.invariant.within (ap Ok (sym c.in-Some.is) ∙ c.in_ok-field.ensures) in
    omega arith

pub loop-field-preserved : goal.loop-field-preserved
loop-field-preserved c =
    let l = c.loop-field in
    let g = gave c.args.message.now l.at l.invariant.within (ap Ok (sym c.in-Some.is) ∙ c.in_ok-field.ensures) in
    after_field l.invariant g c.store.ensures

pub returns-clause-many : goal.returns-clause-many
returns-clause-many c = (at_ended c.loop-field.invariant (gave_end _ (ap Ok (sym c.in_default.is) ∙ c.in_ok-field.ensures))).many

pub returns-clause-stored : goal.returns-clause-stored
returns-clause-stored c = (at_ended c.loop-field.invariant (gave_end _ (ap Ok (sym c.in_default.is) ∙ c.in_ok-field.ensures))).stored
