-- `dates::calendar::is_leap` meets its contract. Assumes nothing.
use borrow.Author.Tests.{ne_eqb}
use Rattle.dates.specs.Believed.Calendar.{leap}
use Rattle.dates.proofs.calendar.is_leap.Goals as goal

pub returns-then-year-eq0 : goal.returns-then-year-eq0
unfolding leap
returns-then-year-eq0 c = rw c.if-year-eq0.true

pub returns-else-year-eq0 : goal.returns-else-year-eq0
unfolding leap
returns-else-year-eq0 c = rw (ne_eqb _ _ c.if-year-eq0.false)
