-- `dates::calendar::before_year` meets its contract: its formula is the sum over the years. Assumes nothing.
use native.Mathlib.Omega.{arith}
use Rattle.dates.proofs.CalendarLaws.{formula}
use Rattle.dates.proofs.calendar.before_year.Goals as goal

pub overflow_sub-result-3 : goal.overflow_sub-result-3
overflow_sub-result-3 c = (formula c.args.year c.requires.0).enough

pub returns : goal.returns
returns c = let f = formula c.args.year c.requires.0 in (f.same, omega (arith, f.same, f.small c.requires.1))
