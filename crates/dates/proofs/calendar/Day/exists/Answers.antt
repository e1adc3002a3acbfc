-- `dates::calendar::Day::exists` meets its contract. Assumes nothing.
use Rattle.std.proofs.Common.{arith}
use Rattle.std.proofs.lemmas.Bool.Decides.{nat_tests}
use Rattle.dates.specs.Believed.Answers.{day_exists}
use Rattle.dates.proofs.calendar.Day.exists.Goals as goal
use Rattle.dates.proofs.calendar.Day.exists.Goals.{then-contains, else-contains}

pub returns-then-self-ge1 : goal.returns-then-self-ge1
unfolding day_exists
returns-then-self-ge1 c = grind (arith, nat_tests)

pub returns-else-self-ge1 : goal.returns-else-self-ge1
unfolding day_exists
returns-else-self-ge1 c = elim c.if-contains.branch [ then-contains w ↦ grind (arith, nat_tests) | else-contains w ↦ grind (arith, nat_tests) ]
