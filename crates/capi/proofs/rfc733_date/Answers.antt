-- `capi::rfc733_date` meets its contract. Assumes nothing.
use mir.Syntax.{w64}
use mir.Val.{SFits}
use mir.Facts.{to_z-of_z}
use Rattle.capi.proofs.rfc733_date.Goals as goal

pub returns : goal.returns
returns c = let e = c.read_date-answer.ensures.outcome.1 in (rw (c.number.ensures, c.position.ensures, c.count.ensures, e) at c.put_three.ensures, let f : SFits w64 c.value.result = record { sfits = c.value.type_inv } in rw (to_z-of_z f) (rw e at c.value.ensures))
