-- `dates::moment::name_true` meets its contract. Assumes nothing.
use Rattle.dates.specs.Believed.Answers.{name_true}
use Rattle.dates.proofs.moment.name_true.Goals as goal

pub returns-in-Some : goal.returns-in-Some
unfolding name_true
returns-in-Some c = rw c.in-Some.is

pub returns-in-None : goal.returns-in-None
unfolding name_true
returns-in-None c = rw c.in-None.is
