-- `scanner::scan_body` meets its contract. Assumes nothing.
use mathlib.Core.Path.{ap}
use Rattle.octets.specs.Believed.Answers.{told}
use Rattle.octets.specs.Believed.Classes.{class_of, class_table}
use Rattle.scanner.proofs.scan_body.Goals as goal

pub returns : goal.returns
unfolding class_table class_of
returns c = let e = c.scan_by.ensures in record { outcome = (ap told e, e) }
