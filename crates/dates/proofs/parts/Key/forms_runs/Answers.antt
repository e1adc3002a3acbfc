-- `dates::parts::Key::forms_runs` meets its contract. Assumes nothing.
use Rattle.dates.specs.Believed.Parts.{is_run}
use mathlib.Core.Logic.{inl, inr}
use Rattle.dates.proofs.PartLaws.{no_run}
use Rattle.dates.proofs.parts.Key.forms_runs.Goals as goal

pub returns-in-Digits : goal.returns-in-Digits
unfolding is_run
returns-in-Digits c = elim c.in-Digits.is [ inl e ↦ rw e | inr e ↦ rw e ]

pub returns-in_default : goal.returns-in_default
returns-in_default c = no_run c.args.self c.in_default.not-Digits c.in_default.not-Letters
