-- `dates::names::place_of` meets its contract. Assumes nothing.
use mathlib.Core.Path.{◌∙◌}
use Rattle.std.proofs.Common.{rules, tests}
use Rattle.std.proofs.lemmas.Iterator.{YieldsList-from_slice}
use Rattle.std.proofs.lemmas.Iterator.Search.{position_from_yields_List}
use Rattle.dates.specs.Believed.Names.{called}
use Rattle.dates.proofs.NameLaws.{place_found}
use Rattle.dates.proofs.names.place_of.Goals as goal

pub returns : goal.returns
returns c =
    let a = c.args in
    position_from_yields_List (λ full. called full.now a.name.now) _ _ c.position.result c.position.ensures.ran (YieldsList-from_slice a.names.now cc) (λ x b q k. search (rules, tests))
    ∙ place_found a.name.now a.names.now
