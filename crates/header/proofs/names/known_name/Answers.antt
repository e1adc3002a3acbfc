-- `header::names::known_name` meets its contract: a candidate is compared with the name, and is that name or none is. Assumes nothing.
use mathlib.Core.Path.{sym, ◌∙◌}
use Rattle.header.proofs.CandidateLaws.{none_left, settles}
use Rattle.header.proofs.names.known_name.Goals as goal

pub agrees-requires : goal.agrees-requires
agrees-requires c = (settles c.args.name.now c.in-Some.ensures).sized

pub returns-in-None : goal.returns-in-None
returns-in-None c = let (k, n) = none_left c.args.name.now c.in-None.ensures in (sym k, sym n)

pub returns-then-agrees : goal.returns-then-agrees
returns-then-agrees c =
    let s = settles c.args.name.now c.in-Some.ensures in
    (sym (s.found c.agrees.result c.agrees.ensures ∙ rw c.if-agrees.true), sym s.counted)

pub returns-else-agrees : goal.returns-else-agrees
returns-else-agrees c =
    let s = settles c.args.name.now c.in-Some.ensures in
    (sym (s.found c.agrees.result c.agrees.ensures ∙ rw c.if-agrees.false), sym s.counted)
