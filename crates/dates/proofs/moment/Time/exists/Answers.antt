-- `dates::moment::Time::exists` meets its contract. Assumes nothing.
use Rattle.std.proofs.Common.{arith}
use Rattle.std.proofs.lemmas.Bool.Decides.{nat_tests}
use Rattle.dates.specs.Believed.Answers.{time_exists}
use Rattle.dates.proofs.moment.Time.exists.Goals as goal
use Rattle.dates.proofs.moment.Time.exists.Goals.{then-self-le23, else-self-le23}

pub returns-then-self-le59 : goal.returns-then-self-le59
unfolding time_exists
returns-then-self-le59 c = elim c.if-self-le23.branch [ then-self-le23 w ↦ grind (arith, nat_tests) | else-self-le23 w ↦ grind (arith, nat_tests) ]

pub returns-else-self-le59 : goal.returns-else-self-le59
unfolding time_exists
returns-else-self-le59 c = elim c.if-self-le23.branch [ then-self-le23 w ↦ grind (arith, nat_tests) | else-self-le23 w ↦ grind (arith, nat_tests) ]
