-- `engine::expected` meets its contract. Assumes nothing.
use mathlib.Core.Path.{refl, sym, ◌∙◌}
use lib.Seq.{length-take-le}
use Rattle.octets.specs.Believed.Classes.{class_of, class_table}
use Rattle.scanner.proofs.BodyChecks.{clean, when_clean, when_refused}
use Rattle.addresses.proofs.AnyEdition.{clean_text}
use Rattle.engine.specs.Ties.Actions.{action_table}
use borrow.Enum.Refused.{opened}
use Rattle.engine.proofs.expected.Goals as goal

pub returns-in-Refused : goal.returns-in-Refused
returns-in-Refused c =
    let a = c.args in
    sym (when_refused a.message.now a.start a.end (λ number p. 0) _ (rw c.in-Refused.is at c.scan_body.ensures.outcome.1))

pub slice_bounds-expected_at_stop-end : goal.slice_bounds-expected_at_stop-end
slice_bounds-expected_at_stop-end c = sym (length-take-le _ c.args.message.now ((let a = c.args in clean a.message.now a.start a.end c.scan_body.result c.scan_body.ensures.outcome.1 (opened c.in_default.in_default-own.keys2))).inside)

pub expected_at_stop-requires : goal.expected_at_stop-requires
unfolding action_table class_table class_of
expected_at_stop-requires c = (clean_text ((let a = c.args in clean a.message.now a.start a.end c.scan_body.result c.scan_body.ensures.outcome.1 (opened c.in_default.in_default-own.keys2))), refl)

pub returns : goal.returns
unfolding class_table class_of
returns c =
    let a = c.args in
    c.expected_at_stop.ensures ∙ sym (when_clean a.message.now a.start a.end (λ number p. 0) _ ((let a = c.args in clean a.message.now a.start a.end c.scan_body.result c.scan_body.ensures.outcome.1 (opened c.in_default.in_default-own.keys2))))
