-- `plain::Sink::put_bytes` meets its contract. Assumes nothing.
use mathlib.Core.Path.{refl}
use native.Mathlib.Omega.{arith}
use Rattle.octets.proofs.Writes.{wrote_text}
use Rattle.plain.proofs.Sink.put_bytes.Goals as goal

pub returns : goal.returns
returns c = record { same_part = refl; wrote = wrote_text c.args.bytes.now c.store_bytes.ensures; few = omega arith }
