use Rattle.scanner.proofs.ByteLaws.{no_data, data_on}
use Rattle.scanner.proofs.cursor.past_data.Goals as goal

pub loop-p-init : goal.loop-p-init
loop-p-init c = no_data _ _ _ c.requires.0

pub loop-p-preserved : goal.loop-p-preserved
loop-p-preserved c = let e = c.class_in-class.ensures in data_on c.loop-p.invariant c.requires.1 c.loop-p-test.true (rw e at c.if-class-lt-WHITE.false) (rw e at c.if-class-eq-BACKSLASH.false)
