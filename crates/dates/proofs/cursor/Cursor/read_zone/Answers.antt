-- `dates::cursor::Cursor::read_zone` meets its contract. Assumes nothing.
use mathlib.Core.Path.{sym, ◌∙◌}
use Rattle.dates.proofs.FormLaws.{passed, not_passed}
use Rattle.dates.proofs.cursor.Cursor.read_zone.Goals.{else-past-2-via-then-past-2+else-sees, else-past-2-via-else-past-2}
use Rattle.dates.specs.Executable.Form.{zone_of}
use Rattle.dates.proofs.cursor.Cursor.read_zone.Goals as goal

pub returns-then-past : goal.returns-then-past
unfolding zone_of
returns-then-past c = let y = passed c.past.ensures c.if-past.true in rw y.0 (rw y.1 at c.read_signed_zone.ensures)

pub returns-then-sees : goal.returns-then-sees
unfolding zone_of
returns-then-sees c =
    let y = not_passed c.past.ensures c.if-past.false in
    let z = passed (rw y.1 at c.past-2.ensures) c.if-past-2.true in
    let s = rw z.1 at (sym c.sees.ensures ∙ c.if-sees.true) in
    rw (y.0, z.0, s) (rw z.1 at c.read_signed_zone-then-sees.ensures)

pub returns : goal.returns
unfolding zone_of
returns c =
    let y = not_passed c.past.ensures c.if-past.false in
    elim c.else-past-2.branch [
      | else-past-2-via-then-past-2+else-sees w ↦
          let z = passed (rw y.1 at c.past-2.ensures) w.if-past-2.true in
          let s = rw z.1 at (sym w.sees.ensures ∙ w.if-sees.false) in
          rw (y.0, z.0, s) (rw z.1 at c.read_named_zone.ensures)
      | else-past-2-via-else-past-2 w ↦
          let z = not_passed (rw y.1 at c.past-2.ensures) w.if-past-2.false in
          rw (y.0, z.0) (rw z.1 at c.read_named_zone.ensures)
    ]
