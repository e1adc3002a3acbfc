-- `expansion::fault_of` meets its contract. Assumes nothing.
use mathlib.Core.Path.{sym, ◌∙◌}
use Rattle.expansion.proofs.OpeningLaws.{fault_refused, fault_levels}
use borrow.Enum.Refused.{opened}
use Rattle.expansion.proofs.fault_of.Goals as goal

pub returns-in-Refused : goal.returns-in-Refused
returns-in-Refused c = let a = c.args in fault_refused a.i a.spot.position a.list.now _ _ _ (sym c.in-Refused.is ∙ c.read_addresses.ensures.outcome.answer_is)

pub returns-in_default : goal.returns-in_default
returns-in_default c = let a = c.args in rw c.fault.ensures (fault_levels a.i a.spot.position a.list.now _ c.read_addresses.result c.read_addresses.ensures.outcome.answer_is (opened c.in_default.in_default-own.keys2))
