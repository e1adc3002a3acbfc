-- `scanner::first` meets its contract. Assumes nothing.
use mathlib.Core.Path.{sym, ◌∙◌}
use Rattle.scanner.specs.Believed.Scanning.{scan_by}
use Rattle.scanner.proofs.FirstLaws.{next_first}
use Rattle.scanner.proofs.first.Goals as goal

pub returns-in-Found : goal.returns-in-Found
returns-in-Found c = let a = c.args in next_first (scan_by a.classes.now a.text.now a.at) (sym c.in-Found.is ∙ c.next_by.ensures)

pub returns-in-Ended : goal.returns-in-Ended
returns-in-Ended c = let a = c.args in next_first (scan_by a.classes.now a.text.now a.at) (sym c.in-Ended.is ∙ c.next_by.ensures)

pub returns-in-Fault : goal.returns-in-Fault
returns-in-Fault c = let a = c.args in next_first (scan_by a.classes.now a.text.now a.at) (sym c.in-Fault.is ∙ c.next_by.ensures)
