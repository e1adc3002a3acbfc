-- `header::fields::next_field` meets its contract. Assumes nothing.
use native.Mathlib.Omega.{arith}
use mathlib.Core.Path.{sym, ap, ◌∙◌}
use Rattle.std.proofs.lemmas.Result.{err_from_is_err_and}
use Rattle.header.specs.Believed.Fields.{line_start}
use Rattle.header.specs.Ties.Steps.{first_of}
use Rattle.header.proofs.HeaderLaws.{ends, empty_line, name_starts, no_name}
use Rattle.header.proofs.ByteLaws.{two_bytes}
use Rattle.header.proofs.fields.next_field.Goals as goal
use Rattle.header.proofs.fields.next_field.Goals.{then-message-at-via-then-message-at, then-message-at-via-else-message-at+then-is_crlf}

pub returns-then-message-at : goal.returns-then-message-at
unfolding first_of
returns-then-message-at c =
    let a = c.args in
    elim c.then-message-at.branch [
      | then-message-at-via-then-message-at w ↦ sym (ap first_of (ends a.message.now a.at line_start (omega arith)))
      | then-message-at-via-else-message-at+then-is_crlf w ↦
          sym (ap first_of (empty_line a.message.now a.at (omega arith) (two_bytes a.message.now a.at ∙ sym w.is_crlf.ensures ∙ w.if-is_crlf.true)))
    ]

pub returns-then-not-name_starts_with : goal.returns-then-not-name_starts_with
unfolding first_of
returns-then-not-name_starts_with c =
    let a = c.args in
    rw c.fault.ensures
    (sym
    (ap first_of
    (no_name a.message.now a.at (omega arith)
    (two_bytes a.message.now a.at ∙ sym c.is_crlf.ensures ∙ c.if-is_crlf.false)
    (sym c.name_starts_with.ensures ∙ c.if-not-name_starts_with.true))))

pub returns-in_err-field : goal.returns-in_err-field
returns-in_err-field c =
    let a = c.args in
    let p = err_from_is_err_and c.from_residual.result c.from_residual.ensures.1 in
    rw (p.1, p.2)
    (c.in_err-field.ensures
    ∙ sym
    (ap first_of
    (name_starts a.message.now a.at (omega arith)
    (two_bytes a.message.now a.at ∙ sym c.is_crlf.ensures ∙ c.if-is_crlf.false)
    (sym c.name_starts_with.ensures ∙ c.if-not-name_starts_with.false))))

pub returns : goal.returns
returns c =
    let a = c.args in
    c.in_ok-field.ensures
    ∙ sym
    (ap first_of
    (name_starts a.message.now a.at (omega arith)
    (two_bytes a.message.now a.at ∙ sym c.is_crlf.ensures ∙ c.if-is_crlf.false)
    (sym c.name_starts_with.ensures ∙ c.if-not-name_starts_with.false)))
