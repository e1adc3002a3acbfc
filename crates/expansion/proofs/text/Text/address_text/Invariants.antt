-- `expansion::address_text` meets its contract. Assumes nothing.
use lib.ListN.{length}
use Rattle.plain.proofs.WalkSteps.{behind}
use Rattle.expansion.proofs.AddressTexts.{Coming}
use Rattle.expansion.proofs.text.Text.address_text.Given as goal

abbrev pub invariant-loop-coming : goal.invariant-loop-coming
invariant-loop-coming l = Coming l.self.classes.now l.self.bytes.now l.at l.initial.own l.own l.n l.place l.coming

abbrev pub decreases-loop-coming : goal.decreases-loop-coming
decreases-loop-coming l = behind (length l.self.bytes.now) l.coming
