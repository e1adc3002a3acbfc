-- `header::fields::name_rest` meets its contract: the bytes passed are the name's, so it goes on from here. Assumes nothing.
use Prim.Native.Nat.{◌+◌}
use mathlib.Core.Path.{◌≡◌}
use Rattle.header.specs.Believed.Fields.{in_name, header_at}
use Rattle.header.proofs.fields.name_rest.Given as goal

abbrev pub invariant-loop-at : goal.invariant-loop-at
invariant-loop-at l = header_at l.message (l.start + 1) (in_name l.start (l.start + 1)) ≡ header_at l.message l.at (in_name l.start l.end)
