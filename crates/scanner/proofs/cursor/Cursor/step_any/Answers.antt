-- `scanner::cursor::Cursor::step_any` meets its contract. Assumes nothing.
use mathlib.Core.Path.{sym, ap, ◌∙◌}
use Rattle.scanner.specs.Ties.Cursors.{moved}
use Rattle.scanner.specs.Ties.Steps.{outside_at}
use Rattle.scanner.specs.declared.Next.{Next}
use Rattle.scanner.proofs.CursorMoves.{looked_from}
use Rattle.scanner.proofs.cursor.Cursor.step_any.Goals as goal

pub returns-in-Found : goal.returns-in-Found
returns-in-Found c =
    let a = c.args in
    c.put.ensures ∙ ap (λ (n : Next). moved n a.self.now.from) (looked_from a.self.now.from a.at (outside_at a.classes.now a.text.now a.at) (sym c.in-Found.is ∙ c.next_by.ensures))

pub returns-in-Ended : goal.returns-in-Ended
returns-in-Ended c =
    let a = c.args in
    c.put_no_symbol.ensures ∙ ap (λ (n : Next). moved n a.self.now.from) (looked_from a.self.now.from a.at (outside_at a.classes.now a.text.now a.at) (sym c.in-Ended.is ∙ c.next_by.ensures))

pub returns-in-Fault : goal.returns-in-Fault
returns-in-Fault c =
    let a = c.args in
    c.put_no_symbol-in-Fault.ensures ∙ ap (λ (n : Next). moved n a.self.now.from) (looked_from a.self.now.from a.at (outside_at a.classes.now a.text.now a.at) (sym c.in-Fault.is ∙ c.next_by.ensures))
