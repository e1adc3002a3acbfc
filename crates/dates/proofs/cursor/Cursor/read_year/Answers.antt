-- `dates::cursor::Cursor::read_year` meets its contract. Assumes nothing.
use Rattle.std.proofs.Common.{arith}
use Rattle.std.proofs.lemmas.Bool.Decides.{nat_tests}
use Rattle.dates.specs.Executable.Form.{year_of}
use Rattle.dates.proofs.cursor.Cursor.read_year.Goals as goal

pub returns-in_err-run : goal.returns-in_err-run
unfolding year_of
returns-in_err-run c = rw (c.from_residual.ensures, c.in_err-run.ensures.reads)

pub overflow_add-result : goal.overflow_add-result
unfolding year_of
overflow_add-result c = omega (arith, c.in_ok-run.ensures.small)

pub returns-in-2 : goal.returns-in-2
unfolding year_of
returns-in-2 c = rw (c.in_ok-run.ensures.reads, c.in-2.is)

pub returns-in-4 : goal.returns-in-4
unfolding year_of
returns-in-4 c = rw (c.in_ok-run.ensures.reads, c.in-4.is)

pub returns-in_default : goal.returns-in_default
unfolding year_of
returns-in_default c = rw c.in_ok-run.ensures.reads (grind (arith, nat_tests))
