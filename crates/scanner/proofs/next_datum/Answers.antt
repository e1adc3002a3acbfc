-- `scanner::next_datum` meets its contract. Assumes nothing.
use mathlib.Core.Path.{sym, ◌∙◌}
use Rattle.scanner.proofs.Meanings.{as_data, datum_on, datum_backslash, datum_quote, datum_end}
use Rattle.scanner.proofs.next_datum.Goals as goal

pub returns-in_err-kind : goal.returns-in_err-kind
returns-in_err-kind c = let a = c.args in c.from_residual.ensures ∙ sym (datum_end a.classes.now a.text.now a.at c.in_err-kind.ensures)

pub returns-in-Quote : goal.returns-in-Quote
returns-in-Quote c = sym (datum_quote (rw c.in-Quote.is at c.in_ok-kind.ensures))

pub returns-in-Backslash : goal.returns-in-Backslash
returns-in-Backslash c = c.taken_datum.ensures ∙ sym (datum_backslash (rw c.in-Backslash.is at c.in_ok-kind.ensures))

pub returns-in_default : goal.returns-in_default
returns-in_default c = sym (datum_on c.in_ok-kind.ensures (as_data c.in_ok-kind.field-0.kind c.in_default.not-Quote c.in_default.not-Backslash))
