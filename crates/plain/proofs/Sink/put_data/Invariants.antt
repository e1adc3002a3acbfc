-- `plain::Sink::put_data` meets its contract: the data up to p are put, and those from p on are left. Assumes nothing.
use Prim.Native.Nat.{◌*◌, ◌-◌, ◌≤◌}
use lib.ListN.{length}
use Rattle.scanner.specs.Ties.Meanings.{data_at}
use Rattle.plain.specs.Believed.PlainText.{data_text}
use Rattle.plain.proofs.Sinks.{StillPuts}
use Rattle.plain.proofs.Sink.put_data.Given as goal

abbrev pub invariant-loop-datum : goal.invariant-loop-datum
invariant-loop-datum l =
    (l.at ≤ l.p) × (l.p ≤ length l.text) × StillPuts (data_text (data_at l.classes l.text l.at)) (data_text (data_at l.classes l.text l.p)) (2 * (l.p - l.at)) l.initial.self l.self

abbrev pub decreases-loop-datum : goal.decreases-loop-datum
decreases-loop-datum l = length l.text - l.p
