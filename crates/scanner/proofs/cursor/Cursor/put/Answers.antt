-- `scanner::cursor::Cursor::put` meets its contract. Assumes nothing.
use mathlib.Core.Path.{refl}
use Rattle.scanner.proofs.cursor.Cursor.put.Goals as goal

pub returns : goal.returns
returns c = refl
