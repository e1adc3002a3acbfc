-- `dates::parts::key_of` meets its contract. Assumes nothing.
use Rattle.std.proofs.Common.{arith}
use Rattle.std.proofs.lemmas.Bool.Decides.{nat_tests}
use Rattle.dates.specs.Believed.Parts.{key_of, is_run, is_mark}
use Rattle.dates.proofs.parts.key_of.Goals as goal

pub returns-in-17 : goal.returns-in-17
unfolding key_of is_run is_mark
returns-in-17 c = rw (← c.class_in.ensures, c.in-17.is)

pub returns-in-16 : goal.returns-in-16
unfolding key_of is_run is_mark
returns-in-16 c = rw (← c.class_in.ensures, c.in-16.is)

pub returns-in-44 : goal.returns-in-44
unfolding key_of is_run is_mark
returns-in-44 c = rw (← c.class_in.ensures, c.in-44.is) (grind (arith, nat_tests))

pub returns-in-58 : goal.returns-in-58
unfolding key_of is_run is_mark
returns-in-58 c = rw (← c.class_in.ensures, c.in-58.is) (grind (arith, nat_tests))

pub returns-in-43 : goal.returns-in-43
unfolding key_of is_run is_mark
returns-in-43 c = rw (← c.class_in.ensures, c.in-43.is) (grind (arith, nat_tests))

pub returns-in-45 : goal.returns-in-45
unfolding key_of is_run is_mark
returns-in-45 c = rw (← c.class_in.ensures, c.in-45.is) (grind (arith, nat_tests))

pub returns-in_default-b : goal.returns-in_default-b
unfolding key_of is_run is_mark
returns-in_default-b c = grind (arith, nat_tests)
