-- `vectors::put_symbols` meets its contract: the symbols before p are put. Assumes nothing.
use mathlib.Core.Path.{◌≡◌}
use lib.ListN.{length}
use Rattle.vectors.specs.Believed.Answers.{symbols}
use Rattle.vectors.proofs.PutLaws.{Left}
use Rattle.vectors.proofs.put_symbols.Given as goal

abbrev pub invariant-loop-left : goal.invariant-loop-left
invariant-loop-left l = (length l.out ≡ length l.initial.out) × Left l.initial.out l.n (symbols 65536 l.message l.start l.end) l.out l.m (symbols l.left l.message l.p l.end)

abbrev pub decreases-loop-left : goal.decreases-loop-left
decreases-loop-left l = l.left
