-- `dates::cursor::Cursor::read_signed_zone` meets its contract. Assumes nothing.
use borrow.Author.Tests.{ne_eqb}
use Rattle.dates.specs.Executable.Form.{zone_signed}
use Rattle.dates.proofs.cursor.Cursor.read_signed_zone.Goals as goal

pub returns-in_err-run : goal.returns-in_err-run
unfolding zone_signed
returns-in_err-run c = rw (c.from_residual.ensures, c.in_err-run.ensures.reads)

pub returns-then-run-ne4 : goal.returns-then-run-ne4
unfolding zone_signed
returns-then-run-ne4 c = rw (c.in_ok-run.ensures.reads, ne_eqb _ _ c.if-run-ne4.true)

pub returns : goal.returns
unfolding zone_signed
returns c = rw (c.in_ok-run.ensures.reads, c.if-run-ne4.false, c.offset_of.ensures)
