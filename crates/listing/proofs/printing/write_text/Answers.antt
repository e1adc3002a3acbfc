-- `listing::printing::write_text` meets its contract: each write is put behind those before it. Assumes nothing.
use native.Mathlib.Omega.{arith}
use lib.ListN.{length-drop}
use Rattle.std.proofs.KnownBytes.{Appends-kept}
use Rattle.std.proofs.lemmas.List.{take_rest}
use Rattle.listing.proofs.WindowLaws.{written_more}
use Rattle.listing.proofs.printing.write_text.Goals as goal
use Rattle.listing.proofs.printing.write_text.Goals.{in-Ok, in-Err}

pub writes-preserved : goal.writes-preserved
writes-preserved g c =
    let text = c.args.text.now in
    let done = c.writes.done in
    elim c.match-write.branch [
      | in-Ok w ↦ (
          let bytes = rw take_rest at w.in-Ok.ensures.bytes in
          let bound = rw take_rest at w.in-Ok.ensures.bound in
          rw w.done-is (omega (arith, bound, length-drop done text), written_more _ _ _ text done w.in-Ok.more c.writes.invariant.1 bytes))
      | in-Err w ↦ rw w.done-is (c.writes.invariant.0, Appends-kept _ _ _ _ c.writes.invariant.1 w.in-Err.ensures.bytes)
    ]
