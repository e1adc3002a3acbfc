-- `dates::read_date` meets its contract: the checks and the first fault of scanning, then 12 and 14; and by the grammar. Assumes nothing.
use mathlib.Core.Path.{sym, ap, ◌∙◌}
use native.Mathlib.Omega.{arith}
use mir.Val.{SFits}
use mir.Facts.{to_z-of_z}
use mir.Syntax.{w64}
use lib.Seq.{length-take-le}
use Rattle.std.specs.Prelude.{Ok}
use Rattle.octets.specs.Believed.Classes.{class_of, class_table}
use Rattle.scanner.proofs.BodyChecks.{clean}
use Rattle.dates.specs.Believed.Outcome.{moment_answer}
use Rattle.std.proofs.lemmas.Result.{err_from_is_err_and}
use Rattle.dates.proofs.AnswerLaws.{unread, without_fault, no_form, moment_or_fault, promised}
use borrow.Enum.Refused.{opened}
use Rattle.dates.proofs.read_date.Goals as goal

pub returns-in-Refused : goal.returns-in-Refused
returns-in-Refused c =
    let a = c.args in
    let all = promised a.message.now a.start a.end (unread a.message.now a.start a.end (rw c.in-Refused.is at c.scan_body.ensures.outcome.1)) in record { outcome = all.0; by_grammar = all.1 }

pub slice_bounds-read_form-end : goal.slice_bounds-read_form-end
slice_bounds-read_form-end c = sym (length-take-le _ c.args.message.now ((let a = c.args in clean a.message.now a.start a.end c.scan_body.result c.scan_body.ensures.outcome.1 (opened c.in_default.in_default-own.keys2))).inside)

pub read_form-requires : goal.read_form-requires
read_form-requires c =
    let a = c.args in
    let x = (let a = c.args in clean a.message.now a.start a.end c.scan_body.result c.scan_body.ensures.outcome.1 (opened c.in_default.in_default-own.keys2)) in
    omega (arith, length-take-le a.end a.message.now x.inside, x.ordered)

pub returns-in_err-written : goal.returns-in_err-written
unfolding class_table class_of
returns-in_err-written c =
    let a = c.args in
    let x = clean a.message.now a.start a.end c.scan_body.result c.scan_body.ensures.outcome.1 (opened c.in_default.in_default-own.keys2) in
    let e = without_fault a.message.now a.start a.end x.short x.ordered x.inside x.faultless c.read_form.result c.read_form.ensures in
    let p = err_from_is_err_and c.from_residual.result c.from_residual.ensures.1 in
    let all = promised a.message.now a.start a.end (p.1 ∙ rw p.2 (no_form a.start c.in_err-written.ensures.ok_part c.in_err-written.ensures.value) ∙ e) in
    record { outcome = all.0; by_grammar = all.1 }

pub returns-in_err-value : goal.returns-in_err-value
unfolding class_table class_of
returns-in_err-value c =
    let a = c.args in
    let x = clean a.message.now a.start a.end c.scan_body.result c.scan_body.ensures.outcome.1 (opened c.in_default.in_default-own.keys2) in
    let e = without_fault a.message.now a.start a.end x.short x.ordered x.inside x.faultless c.read_form.result c.read_form.ensures in
    let m = c.moment_of.result in
    let p = err_from_is_err_and c.from_residual-in_err-value.result c.from_residual-in_err-value.ensures.1 in
    let all = promised a.message.now a.start a.end
    (p.1 ∙ rw p.2 (sym c.in_err-value.was ∙ c.ok_or-2.ensures.value ∙ moment_or_fault a.start m ∙ ap (λ m. moment_answer a.start m) c.moment_of.ensures ∙ (rw c.in_ok-written.ensures.ok_part at e))) in
    record { outcome = all.0; by_grammar = all.1 }

pub returns : goal.returns
unfolding class_table class_of
returns c =
    let a = c.args in
    let x = clean a.message.now a.start a.end c.scan_body.result c.scan_body.ensures.outcome.1 (opened c.in_default.in_default-own.keys2) in
    let e = without_fault a.message.now a.start a.end x.short x.ordered x.inside x.faultless c.read_form.result c.read_form.ensures in
    let m = c.moment_of.result in
    let k = c.in_ok-value.known_told-in-Continue-branch-2-1-own.given in
    let f : SFits w64 c.in_ok-value.value = record { sfits = omega arith } in
    let all = promised a.message.now a.start a.end
    (ap Ok (to_z-of_z f) ∙ sym c.in_ok-value.was ∙ c.ok_or-2.ensures.value ∙ moment_or_fault a.start m ∙ ap (λ m. moment_answer a.start m) c.moment_of.ensures ∙ (rw c.in_ok-written.ensures.ok_part at e)) in
    record { outcome = all.0; by_grammar = all.1 }
