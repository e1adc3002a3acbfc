-- `dates::cursor::Cursor::read_second` meets its contract. Assumes nothing.
use borrow.Author.Tests.{ne_eqb}
use Rattle.dates.proofs.FormLaws.{passed, not_passed}
use Rattle.dates.specs.Executable.Form.{second_after}
use Rattle.dates.proofs.cursor.Cursor.read_second.Goals as goal

pub returns-then-not-past : goal.returns-then-not-past
unfolding second_after
returns-then-not-past c = let y = not_passed c.past.ensures c.if-not-past.true in rw (y.0, y.1)

pub returns-in_err-run : goal.returns-in_err-run
unfolding second_after
returns-in_err-run c = let y = passed c.past.ensures c.if-not-past.false in rw (c.from_residual.ensures, y.0, rw y.1 at c.in_err-run.ensures.reads)

pub returns-then-run-ne2 : goal.returns-then-run-ne2
unfolding second_after
returns-then-run-ne2 c = let y = passed c.past.ensures c.if-not-past.false in rw (y.0, rw y.1 at c.in_ok-run.ensures.reads, ne_eqb _ _ c.if-run-ne2.true)

pub returns : goal.returns
unfolding second_after
returns c = let y = passed c.past.ensures c.if-not-past.false in rw (y.0, rw y.1 at c.in_ok-run.ensures.reads, c.if-run-ne2.false)
