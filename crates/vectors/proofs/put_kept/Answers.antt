-- `vectors::put_kept` meets its contract. Assumes nothing.
use mathlib.Core.Path.{sym, ◌∙◌}
use Rattle.vectors.proofs.PutLaws.{puts_nothing}
use Rattle.vectors.proofs.AnswerLaws.{note_none, note_one}
use Rattle.vectors.proofs.put_kept.Goals as goal

pub returns-then-is_kept : goal.returns-then-is_kept
returns-then-is_kept c =
    let args = c.args in
    note_none args.table.now args.from (sym c.is_kept.ensures ∙ c.if-is_kept.true) (puts_nothing _ _)

pub returns : goal.returns
returns c =
    let args = c.args in
    note_one args.table.now args.from (sym c.is_kept.ensures ∙ c.if-is_kept.false) c.put_line.ensures
