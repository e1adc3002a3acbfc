-- `vectors::meant` meets its contract. Assumes nothing.
use Rattle.vectors.proofs.ReadLaws.{meant_return, meant_feed, meant_zero, meant_self}
use Rattle.vectors.proofs.meant.Goals as goal

pub returns-then-b-eq126 : goal.returns-then-b-eq126
returns-then-b-eq126 c = meant_return _ c.if-b-eq126.true

pub returns-then-b-eq94 : goal.returns-then-b-eq94
returns-then-b-eq94 c = meant_feed _ c.if-b-eq126.false c.if-b-eq94.true

pub returns-then-b-eq36 : goal.returns-then-b-eq36
returns-then-b-eq36 c = meant_zero _ c.if-b-eq126.false c.if-b-eq94.false c.if-b-eq36.true

pub returns : goal.returns
returns c = meant_self _ c.if-b-eq126.false c.if-b-eq94.false c.if-b-eq36.false
