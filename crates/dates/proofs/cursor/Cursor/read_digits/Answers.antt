-- `dates::cursor::Cursor::read_digits` meets its contract. Assumes nothing.
use borrow.Author.Tests.{le-leb, lt-leb}
use Rattle.dates.specs.Executable.Form.{digit_run_of}
use Rattle.dates.proofs.cursor.Cursor.read_digits.Goals as goal

pub returns-in_err-digits : goal.returns-in_err-digits
unfolding digit_run_of
returns-in_err-digits c = record { reads = rw (c.from_residual.ensures, c.in_err-digits.ensures); small = rw c.from_residual.ensures tt }

pub returns-then-digits-gt6 : goal.returns-then-digits-gt6
unfolding digit_run_of
returns-then-digits-gt6 c = record { reads = rw (c.in_ok-digits.ensures.0, ← c.in_ok-digits.ensures.1, lt-leb _ 6 c.if-digits-gt6.true); small = tt }

pub returns : goal.returns
unfolding digit_run_of
returns c = record { reads = rw (c.in_ok-digits.ensures.0, ← c.in_ok-digits.ensures.1, le-leb _ 6 c.if-digits-gt6.false, ← c.decimal.ensures.0, c.step.ensures); small = c.decimal.ensures.1 }
