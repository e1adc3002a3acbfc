-- `expansion::walk_body` meets its contract. Assumes nothing.
use native.Mathlib.Omega.{arith}
use Rattle.expansion.proofs.EntryLaws.{body_walked}
use Rattle.expansion.proofs.walk_body.Goals as goal

pub walk-requires : goal.walk-requires
walk-requires c = record { low = omega arith; few = omega arith; counted = omega arith }

pub returns : goal.returns
returns c = let a = c.args in body_walked a.text.now.classes.now a.store.now a.text.now.bytes.now a.start a.out.now _ c.walk.result c.walk.ensures
