-- `scanner::plain_last` meets its contract: every atom has run up to the position reached. Assumes nothing.
use Rattle.scanner.proofs.ByteLaws.{Running}
use Rattle.scanner.proofs.plain_last.Given as goal

abbrev pub invariant-loop-p : goal.invariant-loop-p
invariant-loop-p l = Running l.classes l.text l.at l.p
