-- `dates::moment::moment_of` meets its contract. Assumes nothing.
use mathlib.Core.Path.{◌≡◌, sym, ap, ◌∙◌}
use Prim.Native.Nat.{◌+◌, ◌*◌}
use native.Mathlib.Omega.{arith}
use mir.Syntax.{w16, w64}
use mir.Val.{SFits}
use mir.Facts.{to_z-of_z}
use Rattle.std.specs.Prelude.{Some}
use Rattle.dates.specs.Believed.Answers.{moment_of}
use Rattle.dates.proofs.MomentLaws.{in_calendar, in_day}
use Rattle.dates.proofs.moment.moment_of.Goals as goal
use Rattle.dates.proofs.moment.moment_of.Goals.{then-not-exists-via-then-not-exists, then-not-exists-via-else-not-exists+then-not-exists-2}

pub returns-then-not-exists : goal.returns-then-not-exists
unfolding moment_of
returns-then-not-exists c = elim c.then-not-exists.branch [
  | then-not-exists-via-then-not-exists w ↦ rw (← c.exists.ensures, w.if-not-exists.true)
  | then-not-exists-via-else-not-exists+then-not-exists-2 w ↦ rw (← c.exists.ensures, w.if-not-exists.false, ← w.exists-else-not-exists.ensures, w.if-not-exists-2.true)
]

pub number-days-requires : goal.number-days-requires
number-days-requires c = in_calendar _ _ _ (sym c.exists.ensures ∙ c.if-not-exists.false)

pub returns-then-not-name_true : goal.returns-then-not-name_true
unfolding moment_of
returns-then-not-name_true c =
    rw (← c.exists.ensures, c.if-not-exists.false, ← c.exists-else-not-exists.ensures, c.if-not-exists-2.false, ← c.number-days.ensures.0, ← c.name_true.ensures, c.if-not-name_true.true)

pub returns-in_err-minutes : goal.returns-in_err-minutes
unfolding moment_of
returns-in_err-minutes c =
    rw (c.from_residual.ensures, ← c.exists.ensures, c.if-not-exists.false, ← c.exists-else-not-exists.ensures, c.if-not-exists-2.false, ← c.number-days.ensures.0, ← c.name_true.ensures, c.if-not-name_true.false, c.in_err-minutes.was)

pub seconds-requires : goal.seconds-requires
seconds-requires c = in_day _ _ _ (sym c.exists-else-not-exists.ensures ∙ c.if-not-exists-2.false)

pub returns : goal.returns
unfolding moment_of
returns c =
    let t = c.args.w.time in
    let days = c.number-days.result in
    let l : days * 86400 + c.seconds.result ≡ days * 86400 + t.hour * 3600 + t.minute * 60 + t.second = omega (arith, c.seconds.ensures.0) in
    let g : SFits w16 c.in_ok-minutes.minutes = record { sfits = omega arith } in
    let f : SFits w64 c.seconds-2.result = record { sfits = c.seconds-2.type_inv } in
    rw (← c.exists.ensures, c.if-not-exists.false, ← c.exists-else-not-exists.ensures, c.if-not-exists-2.false, ← c.number-days.ensures.0, ← c.name_true.ensures, c.if-not-name_true.false, c.in_ok-minutes.was)
    (ap Some (to_z-of_z f ∙ c.seconds-2.ensures ∙ rw (to_z-of_z g, l)))
