-- `scanner::next_symbol` meets its contract: number 1, then number 13, then the next symbol of the body. Assumes nothing.
use mathlib.Core.Path.{sym, ap, ◌∙◌}
use Rattle.octets.specs.Believed.Classes.{class_of, class_table}
use Rattle.scanner.specs.Believed.Answers.{next_told}
use Rattle.scanner.specs.declared.Next.TheVariants.{Fault}
use Rattle.scanner.proofs.BodyChecks.{passed, in_its_order}
use borrow.Enum.Refused.{opened}
use Rattle.scanner.proofs.next_symbol.Goals as goal

pub returns : goal.returns
unfolding class_table class_of
returns c =
    let a = c.args in
    let x = passed a.message.now a.at a.end c.check_body.result c.check_body.ensures (opened c.in_default.in_default-own.keys2) in
    let e = c.next_by.ensures ∙ sym (in_its_order a.message.now a.at a.end Fault _ x) in
    record { outcome = (ap next_told e, e) }
