-- `touch::touch_list` meets its contract. Assumes nothing.
use Rattle.std.proofs.Common.{◌≡◌, ◌+◌, rules, arith, MatchOption}
use Rattle.grammar.specs.Believed.Records.{records}
use Rattle.touch.proofs.ClimbLaws.{last_parent, last_low}
use Rattle.touch.proofs.TouchLaws.{parts, outside_body, byte_told}
use Rattle.touch.proofs.touch_list.Goals.{After-map_or-last}
use Rattle.touch.proofs.touch_list.Goals as goal

-- the last record around the place, as a parent is written
as_parent : (c : After-map_or-last) → MatchOption c.last_around.result (c.map_or-last.result ≡ 0) (λ n. c.map_or-last.result ≡ n + 1)
as_parent c = search rules

pub returns-then-not-contains : goal.returns-then-not-contains
returns-then-not-contains c =
    let a = c.args in
    λ k h. parts (outside_body a.message.now a.start a.end a.place a.path.now h (λ x. search rules))

pub climb-around-requires : goal.climb-around-requires
climb-around-requires c =
    let s = c.requires in
    let h = s.held.holds in
    let low = last_low c.args.records.now.table.now c.args.records.now.many c.args.place c.last_around.result c.last_around.ensures (as_parent (goal.at.climb-around-requires c).After-map_or-last) in
    record { many = _; rs = records s.derivation; holds = h; within = low; room = omega (arith, low, h.few) }

pub returns : goal.returns
returns c =
    let a = c.args in
    let is = as_parent (goal.at.returns c).After-map_or-last in
    λ k h. byte_told a.message.now a.start a.end a.place a.path.now h c.category_at.ensures (last_parent a.place c.last_around.result h.holds c.last_around.ensures is) (last_low c.args.records.now.table.now c.args.records.now.many c.args.place c.last_around.result c.last_around.ensures is) c.climb-around.ensures (search rules) (search rules)
