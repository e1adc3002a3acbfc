-- `addresses::fault_or` meets its contract. Assumes nothing.
use mathlib.Core.Path.{sym, ◌∙◌}
use Rattle.scanner.specs.Believed.Scanning.{scan_by}
use Rattle.octets.specs.declared.answers.Answer.TheVariants.{Refused}
use Rattle.scanner.proofs.BodyChecks.{unless_refused, unless_none, fault_or_none}
use borrow.Enum.Refused.{opened}
use Rattle.addresses.proofs.fault_or.Goals as goal

pub returns-in-Refused : goal.returns-in-Refused
returns-in-Refused c = sym (unless_refused Refused (scan_by c.args.classes.now c.args.text.now c.args.at) _ (sym c.in-Refused.is ∙ c.fault_by.ensures))

pub returns-in_default : goal.returns-in_default
returns-in_default c = let s = scan_by c.args.classes.now c.args.text.now c.args.at in sym (unless_none Refused s _ (fault_or_none s c.fault_by.result c.fault_by.ensures (opened c.in_default.in_default-own.keys2)))
