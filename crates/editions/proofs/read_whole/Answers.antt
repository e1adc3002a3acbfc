-- `editions::read_whole` meets its contract. Assumes nothing.
use Rattle.std.proofs.Common.{sym, arith}
use Rattle.addresses.proofs.NextLaws.{next_is}
use Rattle.editions.proofs.LoopLaws.{come_on, stop_at, end_listed, end_unfinished, none_left}
use Rattle.editions.proofs.read_whole.Goals as goal

pub class_in-class-requires : goal.class_in-class-requires
class_in-class-requires c = (next_is _ _ _ _ c.in-Found.ensures).ok.1.starts

pub returns-in_default-step : goal.returns-in_default-step
returns-in_default-step c = stop_at _ _ c.loop-symbol.invariant (next_is _ _ _ _ c.in-Found.ensures) (rw c.class_in-class.ensures at c.in_default-step.ensures)

pub loop-symbol-smaller : goal.loop-symbol-smaller
loop-symbol-smaller c = let x = next_is _ _ _ _ c.in-Found.ensures in omega (arith, x.ok.0, x.ok.1.starts, x.ok.1.within)

pub loop-symbol-preserved : goal.loop-symbol-preserved
loop-symbol-preserved c = come_on _ _ c.loop-symbol.invariant (next_is _ _ _ _ c.in-Found.ensures) (rw c.class_in-class.ensures at c.in-Some.ensures)

pub returns-then-may_end : goal.returns-then-may_end
returns-then-may_end c = end_listed _ _ c.loop-symbol.invariant (none_left _ _ _ _ c.next_by.ensures c.in_default.not-Found) (sym c.if-may_end.ensures)

pub returns-else-may_end : goal.returns-else-may_end
returns-else-may_end c = end_unfinished _ _ c.loop-symbol.invariant (none_left _ _ _ _ c.next_by.ensures c.in_default.not-Found) (sym c.if-may_end.ensures)
