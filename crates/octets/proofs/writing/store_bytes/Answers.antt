-- `octets::writing::store_bytes` meets its contract. Assumes nothing.
use mathlib.Core.Path.{sym}
use native.Mathlib.Omega.{arith}
use Rattle.octets.proofs.Parts.{sets_out, stored_mid}
use Rattle.octets.proofs.writing.store_bytes.Goals as goal

pub returns-then-at-out : goal.returns-then-at-out
returns-then-at-out c = let a = c.args in stored_mid a.text.now a.out.now c.copy_front.new.table a.at (omega arith) c.copy_front.ensures

pub returns-else-at-out : goal.returns-else-at-out
returns-else-at-out c = let a = c.args in sym (sets_out a.text.now a.out.now a.at c.if-at-out.false)
