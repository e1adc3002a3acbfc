-- `listing::put_date_body` meets its contract. Assumes nothing.
use mathlib.Core.Path.{sym, ◌∙◌}
use native.Mathlib.Omega.{arith}
use mir.Syntax.{w64}
use mir.Val.{SFits}
use mir.Facts.{to_z-of_z}
use Rattle.listing.proofs.BodyLaws.{accepted_date, refused_date}
use Rattle.listing.proofs.put_date_body.Goals as goal

pub returns-in-Ok : goal.returns-in-Ok
returns-in-Ok c =
    let f : SFits w64 c.in-Ok.seconds = record { sfits = omega arith } in (
      accepted_date c.in-Ok.seconds (sym c.read_date.ensures.outcome.1 ∙ c.in-Ok.is) c.put_bytes-a.ensures.0 (rw (to_z-of_z f) at c.put_signed-b.ensures.0) c.put.ensures.0,
      omega (arith, c.put_bytes-a.ensures.1, c.put_signed-b.ensures.1, c.put.ensures.1),
    )

pub returns-in-Err : goal.returns-in-Err
returns-in-Err c =
    (refused_date (sym c.read_date.ensures.outcome.1 ∙ c.in-Err.is) c.put_refused.ensures.0, c.put_refused.ensures.1)
