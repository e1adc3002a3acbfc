-- `dates::form::offset_of` meets its contract. Assumes nothing.
use mathlib.Core.Path.{◌≡◌}
use native.Mathlib.Omega.{arith}
use borrow.Author.Tests.{le-leb, lt-leb}
use Prim.Native.Nat.{ℕ, ◌+◌, ◌*◌, ◌/◌, ◌%◌, ◌<◌}
use lib.IntN.{pos, neg_ℤ, +ℤ_idl}
use mir.Syntax.{w16}
use mir.Val.{to_z}
use mir.Facts.{to_z-of_z, to_z_pos}
use Rattle.octets.proofs.ChoiceLaws.{both_false}
use Rattle.dates.specs.Believed.Grammar.{offset_of}
use Rattle.dates.proofs.MomentLaws.{minus_fits}
use Rattle.dates.proofs.form.offset_of.Goals as goal
use Rattle.dates.proofs.form.offset_of.Goals.{then-hours-gt23-via-then-hours-gt23, then-hours-gt23-via-else-hours-gt23+then-minutes-gt59}

pub returns-then-hours-gt23 : goal.returns-then-hours-gt23
unfolding offset_of
returns-then-hours-gt23 c = elim c.then-hours-gt23.branch [
  | then-hours-gt23-via-then-hours-gt23 w ↦ rw (lt-leb _ 23 w.if-hours-gt23.true)
  | then-hours-gt23-via-else-hours-gt23+then-minutes-gt59 w ↦ rw (lt-leb _ 59 w.if-minutes-gt59.true, both_false)
]

-- hours and minutes in minutes, which fit
abbrev minutes : ℕ → ℕ
minutes hhmm = hhmm / 100 * 60 + hhmm % 100

as_read : (hhmm : ℕ) → minutes hhmm < 10000 → to_z w16 (minutes hhmm) ≡ pos (minutes hhmm)
as_read hhmm k = to_z_pos w16 (omega arith)

pub returns-then-minus : goal.returns-then-minus
unfolding offset_of
returns-then-minus c =
    let n = c.args.hhmm in
    let k : minutes n < 10000 = omega arith in
    rw (as_read n k, to_z-of_z (minus_fits (minutes n) k), +ℤ_idl (neg_ℤ (pos (minutes n))), c.if-minus.true, le-leb _ 23 c.if-hours-gt23.false, le-leb _ 59 c.if-minutes-gt59.false)

pub returns-else-minus : goal.returns-else-minus
unfolding offset_of
returns-else-minus c =
    let n = c.args.hhmm in
    let k : minutes n < 10000 = omega arith in
    rw (as_read n k, c.if-minus.false, le-leb _ 23 c.if-hours-gt23.false, le-leb _ 59 c.if-minutes-gt59.false)
