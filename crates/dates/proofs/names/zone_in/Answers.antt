-- `dates::names::zone_in` meets its contract. Assumes nothing.
use mathlib.Core.Path.{◌≡◌, ap, ◌∙◌}
use native.Mathlib.Omega.{arith}
use mir.Syntax.{w16}
use mir.Val.{SFits}
use mir.Facts.{to_z-of_z}
use Rattle.std.proofs.Common.{rules, tests}
use Rattle.std.specs.Option.{option_map}
use Rattle.std.specs.List.{find}
use Rattle.std.proofs.lemmas.Iterator.{YieldsList-from_slice}
use Rattle.std.proofs.lemmas.Iterator.Search.{find_from_yields_List}
use Rattle.dates.specs.Believed.Names.{called}
use Rattle.dates.proofs.NameLaws.{zone_found}
use Rattle.dates.proofs.names.zone_in.Goals as goal

pub returns-in_err-zone : goal.returns-in_err-zone
returns-in_err-zone c =
    let a = c.args in
    let found : option_map (λ z. z.now) c.find.result ≡ find (λ z. called z.0.now a.name.now) a.zones.now = find_from_yields_List (λ zone. called zone.0.now a.name.now) _ _ c.find.result c.find.ensures.ran (YieldsList-from_slice a.zones.now cc) (λ x b q k. search (rules, tests)) in
    rw c.from_residual.ensures (ap (option_map (λ z. z.1)) (rw c.in_err-zone.was at found) ∙ zone_found a.name.now a.zones.now)

pub returns : goal.returns
returns c =
    let a = c.args in
    let found : option_map (λ z. z.now) c.find.result ≡ find (λ z. called z.0.now a.name.now) a.zones.now = find_from_yields_List (λ zone. called zone.0.now a.name.now) _ _ c.find.result c.find.ensures.ran (YieldsList-from_slice a.zones.now cc) (λ x b q k. search (rules, tests)) in
    let all = ap (option_map (λ z. z.1)) (rw c.in_ok-zone.was at found) ∙ zone_found a.name.now a.zones.now in
    let fits : SFits w16 c.in_ok-zone.zone.now.1 = record { sfits = omega arith } in
    rw (to_z-of_z fits) all
