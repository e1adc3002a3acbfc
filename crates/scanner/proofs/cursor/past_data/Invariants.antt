-- `scanner::cursor::past_data` meets its contract: the bytes passed are data of every quoted-string. Assumes nothing.
use Prim.Native.Nat.{◌-◌}
use lib.ListN.{length}
use Rattle.scanner.specs.Ties.Steps.{DataPasses}
use Rattle.scanner.proofs.cursor.past_data.Given as goal

abbrev pub invariant-loop-p : goal.invariant-loop-p
invariant-loop-p l = DataPasses l.classes l.text l.at l.p

abbrev pub decreases-loop-p : goal.decreases-loop-p
decreases-loop-p l = length l.text - l.p
