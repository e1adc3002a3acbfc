-- `dates::cursor::Cursor::read_day` meets its contract. Assumes nothing.
use Rattle.std.proofs.Common.{arith}
use Rattle.std.proofs.lemmas.Bool.Decides.{nat_tests}
use Rattle.dates.specs.Executable.Form.{day_of}
use Rattle.dates.proofs.cursor.Cursor.read_day.Goals as goal

pub returns-in_err-run : goal.returns-in_err-run
unfolding day_of
returns-in_err-run c = rw (c.from_residual.ensures, c.in_err-run.ensures.reads)

pub returns-in-1 : goal.returns-in-1
unfolding day_of
returns-in-1 c = rw c.in_ok-run.ensures.reads (grind (arith, nat_tests))

pub returns-in_default : goal.returns-in_default
unfolding day_of
returns-in_default c = rw c.in_ok-run.ensures.reads (grind (arith, nat_tests))

pub returns-in_default-2 : goal.returns-in_default-2
unfolding day_of
returns-in_default-2 c = rw c.in_ok-run.ensures.reads (grind (arith, nat_tests))
