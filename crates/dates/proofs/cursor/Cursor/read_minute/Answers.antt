-- `dates::cursor::Cursor::read_minute` meets its contract. Assumes nothing.
use Rattle.std.proofs.Common.{arith}
use Rattle.std.proofs.lemmas.Bool.Decides.{nat_tests}
use Rattle.dates.proofs.FormLaws.{passed, not_passed}
use Rattle.dates.specs.Executable.Form.{minute_after}
use Rattle.dates.proofs.cursor.Cursor.read_minute.Goals as goal

pub returns-then-not-past : goal.returns-then-not-past
unfolding minute_after
returns-then-not-past c = let y = not_passed c.past.ensures c.if-not-past.true in rw y.0

pub returns-in_err-run : goal.returns-in_err-run
unfolding minute_after
returns-in_err-run c = let y = passed c.past.ensures c.if-not-past.false in rw (c.from_residual.ensures, y.0, rw y.1 at c.in_err-run.ensures.reads)

pub returns-in-4 : goal.returns-in-4
unfolding minute_after
returns-in-4 c = let y = passed c.past.ensures c.if-not-past.false in rw (y.0, rw y.1 at c.in_ok-run.ensures.reads, c.in-4.is)

pub returns-in-2 : goal.returns-in-2
unfolding minute_after
returns-in-2 c = let y = passed c.past.ensures c.if-not-past.false in rw (y.0, rw y.1 at c.in_ok-run.ensures.reads, c.in-2.is) c.read_second.ensures

pub returns-in_default : goal.returns-in_default
unfolding minute_after
returns-in_default c = let y = passed c.past.ensures c.if-not-past.false in rw (y.0, rw y.1 at c.in_ok-run.ensures.reads) (grind (arith, nat_tests))
