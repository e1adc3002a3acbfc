-- `header::names::candidate` meets its contract: each length and small letter leaves its known name. Assumes nothing.
use borrow.Author.Tests.{ne_eqb}
use native.Mathlib.Omega.{arith}
use lib.ListN.{length}
use mathlib.Core.Path.{sym, ap, ◌∙◌}
use Rattle.std.specs.Option.{option_map}
use Rattle.octets.specs.Believed.Letters.{lower}
use Rattle.header.specs.Believed.Names.{known_names, same_length_and_first}
use Rattle.header.specs.Ties.Candidates.{candidate, in_small}
use Rattle.header.proofs.CandidateLaws.{candidate_by, by_letter}
use Rattle.header.proofs.names.candidate.Goals as goal

pub returns-in-116 : goal.returns-in-116
unfolding known_names candidate_by lower
returns-in-116 c = sym (ap (option_map in_small) (by_letter known_names _ (omega (arith, c.in-2.is)) c.in-2.is c.first_letter.ensures) ∙ rw c.in-116.is)

pub returns-in-99 : goal.returns-in-99
unfolding known_names candidate_by lower
returns-in-99 c = sym (ap (option_map in_small) (by_letter known_names _ (omega (arith, c.in-2.is)) c.in-2.is c.first_letter.ensures) ∙ rw c.in-99.is)

pub returns-in_default-first_letter : goal.returns-in_default-first_letter
unfolding known_names candidate_by lower
returns-in_default-first_letter c = sym (ap (option_map in_small) (by_letter known_names _ (omega (arith, c.in-2.is)) c.in-2.is c.first_letter.ensures) ∙ rw (ne_eqb c.first_letter.result 116 (λ e. omega arith), ne_eqb c.first_letter.result 99 (λ e. omega arith)))

pub returns-in-98 : goal.returns-in-98
unfolding known_names candidate_by lower
returns-in-98 c = sym (ap (option_map in_small) (by_letter known_names _ (omega (arith, c.in-3.is)) c.in-3.is c.first_letter-in-3.ensures) ∙ rw c.in-98.is)

pub returns-in_default-first_letter-2 : goal.returns-in_default-first_letter-2
unfolding known_names candidate_by lower
returns-in_default-first_letter-2 c = sym (ap (option_map in_small) (by_letter known_names _ (omega (arith, c.in-3.is)) c.in-3.is c.first_letter-in-3.ensures) ∙ rw (ne_eqb c.first_letter-in-3.result 98 (λ e. omega arith)))

pub returns-in-100 : goal.returns-in-100
unfolding known_names candidate_by lower
returns-in-100 c = sym (ap (option_map in_small) (by_letter known_names _ (omega (arith, c.in-4.is)) c.in-4.is c.first_letter-in-4.ensures) ∙ rw c.in-100.is)

pub returns-in-102 : goal.returns-in-102
unfolding known_names candidate_by lower
returns-in-102 c = sym (ap (option_map in_small) (by_letter known_names _ (omega (arith, c.in-4.is)) c.in-4.is c.first_letter-in-4.ensures) ∙ rw c.in-102.is)

pub returns-in_default-first_letter-3 : goal.returns-in_default-first_letter-3
unfolding known_names candidate_by lower
returns-in_default-first_letter-3 c = sym (ap (option_map in_small) (by_letter known_names _ (omega (arith, c.in-4.is)) c.in-4.is c.first_letter-in-4.ensures) ∙ rw (ne_eqb c.first_letter-in-4.result 100 (λ e. omega arith), ne_eqb c.first_letter-in-4.result 102 (λ e. omega arith)))

pub returns-in-114 : goal.returns-in-114
unfolding known_names candidate_by lower
returns-in-114 c = sym (ap (option_map in_small) (by_letter known_names _ (omega (arith, c.in-8.is)) c.in-8.is c.first_letter-in-8.ensures) ∙ rw c.in-114.is)

pub returns-in_default-first_letter-4 : goal.returns-in_default-first_letter-4
unfolding known_names candidate_by lower
returns-in_default-first_letter-4 c = sym (ap (option_map in_small) (by_letter known_names _ (omega (arith, c.in-8.is)) c.in-8.is c.first_letter-in-8.ensures) ∙ rw (ne_eqb c.first_letter-in-8.result 114 (λ e. omega arith)))

pub returns-in_default : goal.returns-in_default
unfolding known_names candidate same_length_and_first
returns-in_default c = sym (rw (ne_eqb (length c.args.name.now) 2 (λ e. omega arith), ne_eqb (length c.args.name.now) 3 (λ e. omega arith), ne_eqb (length c.args.name.now) 4 (λ e. omega arith), ne_eqb (length c.args.name.now) 8 (λ e. omega arith)))
