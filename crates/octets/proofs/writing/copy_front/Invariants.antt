-- `octets::writing::copy_front` meets its contract: the bytes up to i are stored, and those from i on are left. Assumes nothing.
use mathlib.Core.Path.{◌≡◌}
use lib.ListN.{length, take, drop}
use lib.Seq.{sets}
use Rattle.octets.proofs.writing.copy_front.Given as goal

abbrev pub invariant-loop-i : goal.invariant-loop-i
invariant-loop-i l =
    (length l.table ≡ length l.initial.table) × (sets l.initial.table 0 (take l.many l.from) ≡ sets l.table l.i (drop l.i (take l.many l.from)))
