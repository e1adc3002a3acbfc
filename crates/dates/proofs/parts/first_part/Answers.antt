-- `dates::parts::first_part` meets its contract. Assumes nothing.
use mathlib.Core.Path.{sym, ◌∙◌}
use Rattle.dates.proofs.PartLaws.{first_run, first_single}
use Rattle.dates.proofs.parts.first_part.Goals as goal

pub returns-then-forms_runs : goal.returns-then-forms_runs
returns-then-forms_runs c =
    let a = c.args in
    first_run a.classes.now a.text.now a.at a.end c.key_of-key.result c.requires.0 c.requires.1 (sym c.key_of-key.ensures) c.run_end-stop.result (sym c.forms_runs.ensures ∙ c.if-forms_runs.true) c.run_end-stop.ensures

pub returns-else-forms_runs : goal.returns-else-forms_runs
returns-else-forms_runs c =
    let a = c.args in
    first_single a.classes.now a.text.now a.at a.end c.key_of-key.result c.requires.0 c.requires.1 (sym c.key_of-key.ensures) (sym c.forms_runs.ensures ∙ c.if-forms_runs.false)
