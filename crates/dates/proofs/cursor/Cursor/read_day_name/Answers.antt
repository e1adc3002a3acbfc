-- `dates::cursor::Cursor::read_day_name` meets its contract. Assumes nothing.
use mathlib.Core.Path.{sym, ◌∙◌}
use Rattle.dates.proofs.FormLaws.{passed, not_passed, day_named, no_comma, no_day}
use Rattle.dates.proofs.cursor.Cursor.read_day_name.Goals as goal
use Rattle.dates.proofs.cursor.Cursor.read_day_name.Goals.{else-is_some-via-then-is_some+else-not-past, else-is_some-via-else-is_some}

pub returns-then-not-past : goal.returns-then-not-past
returns-then-not-past c = no_comma _ _ c.read_name-name.result c.read_name-name.ensures (sym c.is_some.ensures ∙ c.if-is_some.true) (not_passed c.past.ensures c.if-not-past.true).0

pub returns : goal.returns
returns c = elim c.else-is_some.branch [
  | else-is_some-via-then-is_some+else-not-past w ↦
      let y = passed w.past.ensures w.if-not-past.false in
      rw (w.self-is, y.1) (day_named _ _ c.read_name-name.result c.read_name-name.ensures (sym c.is_some.ensures ∙ w.if-is_some.true) y.0)
  | else-is_some-via-else-is_some w ↦
      rw w.self-is (no_day _ _ c.read_name-name.result c.read_name-name.ensures (sym c.is_some.ensures ∙ w.if-is_some.false))
]
