-- `scanner::cursor::Cursor::step` meets its contract: scanning outside has come to the position reached. Assumes nothing.
use Rattle.scanner.proofs.CursorMoves.{Passing}
use Rattle.scanner.proofs.cursor.Cursor.step.Given as goal

abbrev pub invariant-loop-p : goal.invariant-loop-p
invariant-loop-p l = Passing l.classes l.text l.self.from l.at l.p
