-- `dates::moment::seconds` meets its contract. Assumes nothing.
use native.Mathlib.Omega.{arith}
use mir.Syntax.{w16, w64}
use mir.Facts.{sfits_widen, to_z-of_z, to_z_pos}
use Rattle.dates.proofs.MomentLaws.{sixty_fits, seconds_fit}
use Rattle.dates.proofs.moment.seconds.Goals as goal

pub overflow_mul-result : goal.overflow_mul-result
overflow_mul-result c =
    let a = c.args in
    let f = c.ranges.minutes in
    rw (c.from.ensures, to_z-of_z f, to_z-of_z (sfits_widen {w = w16} {w' = w64} tt f)) (sixty_fits a.local a.minutes f)

pub overflow_sub-result : goal.overflow_sub-result
overflow_sub-result c =
    let a = c.args in
    let f = c.ranges.minutes in
    rw (
      c.from.ensures,
      to_z-of_z f,
      to_z-of_z (sfits_widen {w = w16} {w' = w64} tt f),
      to_z-of_z (sixty_fits a.local a.minutes f),
      to_z_pos w64 {n = a.local} (omega arith),
    ) (seconds_fit a.local a.minutes f c.requires)

pub returns : goal.returns
returns c =
    let a = c.args in
    let f = c.ranges.minutes in
    rw (
      c.from.ensures,
      to_z-of_z f,
      to_z-of_z (sfits_widen {w = w16} {w' = w64} tt f),
      to_z-of_z (sixty_fits a.local a.minutes f),
      to_z_pos w64 {n = a.local} (omega arith),
      to_z-of_z (seconds_fit a.local a.minutes f c.requires),
    )
