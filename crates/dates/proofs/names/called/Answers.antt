-- `dates::names::called` meets its contract. Assumes nothing.
use native.Mathlib.Omega.{arith}
use borrow.Author.Tests.{lt-leb}
use lib.Seq.{take_all}
use Rattle.dates.specs.Believed.Names.{called}
use Rattle.dates.proofs.names.called.Goals as goal

pub returns-then-same_letters : goal.returns-then-same_letters
unfolding called
returns-then-same_letters c = rw (← c.same_letters.ensures, c.if-same_letters.true)

pub returns-then-full-ge3 : goal.returns-then-full-ge3
unfolding called
returns-then-full-ge3 c = rw (← c.same_letters.ensures, c.if-same_letters.false) c.same_letters-then-full-ge3.ensures

pub returns-else-full-ge3 : goal.returns-else-full-ge3
unfolding called
returns-else-full-ge3 c =
    rw (take_all 3 c.args.full.now (omega arith), ← c.same_letters.ensures, c.if-same_letters.false, lt-leb 3 _ c.if-full-ge3.false)
