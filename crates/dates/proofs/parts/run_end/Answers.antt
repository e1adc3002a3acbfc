-- `dates::parts::run_end` meets its contract. Assumes nothing.
use mathlib.Core.Path.{◌∙◌}
use Rattle.std.proofs.Common.{ℕ, Bool, rules, tests, eqb}
use Rattle.std.proofs.lemmas.Iterator.{YieldsList-from_slice}
use Rattle.std.proofs.lemmas.Iterator.Consumers.{count_from_yields_List}
use Rattle.std.proofs.lemmas.Iterator.Search.{YieldsList-from_take_while}
use Rattle.std.proofs.lemmas.List.Folds.{length-prefix_len}
use Rattle.octets.specs.Believed.Text.{part}
use Rattle.dates.specs.Believed.Parts.{key_of}
use Rattle.dates.specs.Ties.Steps.{key_number}
use Rattle.dates.proofs.PartLaws.{same_span, ends}
use Rattle.dates.proofs.parts.run_end.Goals as goal

pub returns : goal.returns
returns c =
    let a = c.args in
    let t : ℕ → Bool = λ b. eqb (key_of a.classes.now b) (key_number a.key) in
    let count = count_from_yields_List c.take_while.result _ c.count-same.ensures.ran (YieldsList-from_take_while _ t (YieldsList-from_slice (part a.text.now a.at a.end) (cc)) c.take_while.ensures.closure c.take_while.ensures.done (λ x b q k. search (rules, tests))) ∙ length-prefix_len t (part a.text.now a.at a.end) in
    let p = part a.text.now a.at a.end in
    ends a.classes.now a.text.now a.at a.end (key_number a.key) c.requires (count ∙ same_span a.classes.now (key_number a.key) p)
