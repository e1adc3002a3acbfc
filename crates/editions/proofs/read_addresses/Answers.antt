-- `editions::read_addresses` meets its contract: in RFC 822 what the outcome says, condition 3 says, and 10 is never answered. Assumes nothing.
use Rattle.editions.proofs.EditionLaws.{settles_822, never_deep}
use Rattle.editions.proofs.read_addresses.Goals as goal

pub returns-in-Ok-Rfc822-clause-condition3 : goal.returns-in-Ok-Rfc822-clause-condition3
returns-in-Ok-Rfc822-clause-condition3 c = settles_822 _ _ _ c.args.table.now c.read_822.ensures (rw c.in-Ok-Rfc822.field-0-is at c.in-Ok-Rfc822.ensures)

pub returns-in-Ok-Rfc822-clause-levels : goal.returns-in-Ok-Rfc822-clause-levels
returns-in-Ok-Rfc822-clause-levels c = let a = c.args in never_deep a.message.now a.start a.end a.table.now c.read_822.ensures
