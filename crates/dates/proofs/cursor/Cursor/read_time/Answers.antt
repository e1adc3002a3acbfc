-- `dates::cursor::Cursor::read_time` meets its contract. Assumes nothing.
use Rattle.std.proofs.Common.{arith}
use Rattle.std.proofs.lemmas.Bool.Decides.{nat_tests}
use Rattle.dates.specs.Executable.Form.{time_of}
use Rattle.dates.proofs.cursor.Cursor.read_time.Goals as goal

pub returns-in_err-run : goal.returns-in_err-run
unfolding time_of
returns-in_err-run c = rw (c.from_residual.ensures, c.in_err-run.ensures.reads)

pub returns-in-6 : goal.returns-in-6
unfolding time_of
returns-in-6 c = rw (c.in_ok-run.ensures.reads, c.in-6.is)

pub returns-in-4 : goal.returns-in-4
unfolding time_of
returns-in-4 c = rw (c.in_ok-run.ensures.reads, c.in-4.is) c.read_second.ensures

pub returns-in-2 : goal.returns-in-2
unfolding time_of
returns-in-2 c = rw (c.in_ok-run.ensures.reads, c.in-2.is) c.read_minute.ensures

pub returns-in_default : goal.returns-in_default
unfolding time_of
returns-in_default c = rw c.in_ok-run.ensures.reads (grind (arith, nat_tests))
