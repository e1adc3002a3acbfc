-- `scanner::cursor::Cursor::step_quoted` meets its contract. Assumes nothing.
use mathlib.Core.Path.{sym, ap, ◌∙◌}
use Rattle.scanner.specs.Ties.Cursors.{moved}
use Rattle.scanner.specs.declared.Next.{Next}
use Rattle.scanner.proofs.CursorMoves.{quote_there, quoted_comes}
use Rattle.scanner.proofs.cursor.Cursor.step_quoted.Goals as goal

pub returns-then-quote_at : goal.returns-then-quote_at
returns-then-quote_at c =
    let a = c.args in
    let pre = c.requires in
    let closing = quote_there a.classes.now a.text.now _ (sym c.quote_at.ensures ∙ c.if-quote_at.true) in
    c.put.ensures ∙ ap (λ (n : Next). moved n a.self.now.from) (quoted_comes pre.2 a.text.now a.at pre.0 a.self.now.from pre.1 c.past_data-end.ensures closing.0 closing.1)
