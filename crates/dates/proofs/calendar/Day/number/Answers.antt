-- `dates::calendar::Day::number` meets its contract. Assumes nothing.
use native.Mathlib.Omega.{arith}
use Rattle.dates.specs.Believed.Calendar.{day_number}
use Rattle.dates.proofs.calendar.Day.number.Goals as goal

pub returns : goal.returns
unfolding day_number
returns c = (rw (c.before_year.ensures.0, c.before_month.ensures.0), omega arith)
