-- `plain::Sink::put_datum` meets its contract. Assumes nothing.
use native.Mathlib.Omega.{arith}
use Rattle.plain.proofs.Sinks.{puts_both, puts_few}
use Rattle.plain.proofs.Sink.put_datum.Goals as goal
use Rattle.plain.proofs.Sink.put_datum.Goals.{then-needs_backslash, else-needs_backslash}

pub returns : goal.returns
returns c =
    elim c.if-needs_backslash.branch [
      | then-needs_backslash w ↦ rw (← c.needs_backslash.ensures, w.if-needs_backslash.true) (puts_both w.put.ensures (rw w.self-is at c.put-2.ensures))
      | else-needs_backslash w ↦ rw (← c.needs_backslash.ensures, w.if-needs_backslash.false) (puts_few (rw w.self-is at c.put-2.ensures) (omega arith))
    ]
