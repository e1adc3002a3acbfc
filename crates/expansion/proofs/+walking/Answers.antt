use native.Mathlib.Omega.{arith}
use mathlib.Core.Path.{◌≡◌}
use Rattle.plain.proofs.WalkSteps.{behind_falls, behind_less}
use Rattle.expansion.specs.Ties.Steps.{RecordOpens}
use Rattle.expansion.proofs.WalkRuns.{record_faulty, record_walked, walking_first, walking_none, comes, room, walking_symbol, walking_nowhere, record_inside, walking_stopped, walking_opened}
use Rattle.std.specs.Prelude.{Ok, Err}
use Rattle.std.proofs.lemmas.Grind.{common_steps}
use Rattle.std.proofs.lemmas.Result.{err_from_is_err_and}
use Rattle.octets.specs.declared.answers.Fault.{Fault}
use Rattle.expansion.proofs.+walking.Goals as goal

pub walk-loop-coming-init : goal.walk-loop-coming-init
walk-loop-coming-init t c =
    let a = c.args in
    let p = c.requires in
    walking_first a.text.now.classes.now a.store.now a.text.now.bytes.now a.start a.around a.stage a.out.now c.none-levels.result a.text.now.short p.few c.none-levels.ensures c.next_by-coming.ensures

pub walk-returns-in_default : goal.walk-returns-in_default
walk-returns-in_default t c =
    rw c.joined.ensures (walking_none _ _ _ _ _ _ _ c.loop-coming.invariant c.in_default.not-Found)

pub walk-write_on-here-requires : goal.walk-write_on-here-requires
walk-write_on-here-requires t c =
    let l = c.loop-coming.invariant in
    let p = c.requires in
    let x = comes _ _ _ _ _ _ _ l c.in-Found.is in
    (x.starts, x.within, omega (arith, room _ _ _ _ _ _ _ l p.counted, l.few))

pub walk-loop-coming-smaller-in-None : goal.walk-loop-coming-smaller-in-None
walk-loop-coming-smaller-in-None t c =
    let e = c.in-Found.is in
    behind_less (comes _ _ _ _ _ _ _ c.loop-coming.invariant e) e c.next_by-coming-in-None.ensures

pub walk-loop-coming-preserved-in-None : goal.walk-loop-coming-preserved-in-None
walk-loop-coming-preserved-in-None t c =
    walking_symbol _ _ _ _ _ _ _ c.loop-coming.invariant c.in-Found.is c.args.text.now.short (rw c.in-None.is at c.include_at.ensures)
    c.next_by-coming-in-None.ensures c.is_colon-colon.ensures c.after-levels.ensures c.write_on-here.auto.out c.write_on-here.ensures

pub walk-spot_of-spot-requires : goal.walk-spot_of-spot-requires
walk-spot_of-spot-requires t c = c.requires.low

pub walk-returns-in_default-leads_to : goal.walk-returns-in_default-leads_to
walk-returns-in_default-leads_to t c =
    rw (c.stopped.ensures, c.fault.ensures)
    (walking_nowhere _ _ _ _ _ _ _ c.loop-coming.invariant c.in-Found.is (rw c.in-Some.is at c.include_at.ensures) c.spot_of-spot.ensures.0
    (rw c.in_default-leads_to.is at c.leads_to.ensures))

pub walk-walk_record-requires : goal.walk-walk_record-requires
walk-walk_record-requires t c =
    let l = c.loop-coming.invariant in
    let p = c.requires in (
      omega (arith, p.few, l.from, l.few),
      record {
        inside =
            record_inside _ _ _ _ _ _ _ l c.in-Found.is (rw c.in-Some.is at c.include_at.ensures) c.spot_of-spot.ensures.0
            (rw c.in-Some-leads_to.is at c.leads_to.ensures);
        few = l.few;
        counted = room _ _ _ _ _ _ _ l p.counted;
      },
    )

pub walk-returns-in_err-here-in-Some : goal.walk-returns-in_err-here-in-Some
walk-returns-in_err-here-in-Some t c =
    let q = err_from_is_err_and c.from_residual.result c.from_residual.ensures.1 in
    rw (q.1, q.2)
    (walking_stopped _ _ _ _ _ _ _ c.loop-coming.invariant c.in-Found.is (rw c.in-Some.is at c.include_at.ensures) c.spot_of-spot.ensures.0
    (rw c.in-Some-leads_to.is at c.leads_to.ensures) c.spot_of-spot.ensures.1 c.in_err-here-in-Some.ensures)

pub walk-loop-coming-smaller : goal.walk-loop-coming-smaller
walk-loop-coming-smaller t c =
    let e = c.in-Found.is in
    behind_falls _ (comes _ _ _ _ _ _ _ c.loop-coming.invariant e) c.include_end.ensures.1 e c.next_by-coming-in-Some.ensures

pub walk-loop-coming-preserved : goal.walk-loop-coming-preserved
walk-loop-coming-preserved t c =
    walking_opened _ _ _ _ _ _ _ c.loop-coming.invariant c.in-Found.is (rw c.in-Some.is at c.include_at.ensures) c.spot_of-spot.ensures.0
    (rw c.in-Some-leads_to.is at c.leads_to.ensures) c.spot_of-spot.ensures.1 (rw c.in_ok-here-in-Some.was at c.walk_record.ensures)
    c.walk_record.auto.out c.include_end.ensures c.next_by-coming-in-Some.ensures

pub walk_record-walk-requires : goal.walk_record-walk-requires
walk_record-walk-requires t c =
    let p = c.requires in
    let a = c.args in
    let v : c.verdict_on.result ≡ Ok tt = grind (arith, common_steps) in
    let o : RecordOpens a.store.now a.i a.spot.position a.spot.depth a.stage.openings = rw v at c.verdict_on.ensures in
    rw c.joined.ensures (
      omega (arith, o.few),
      record { low = o.low; few = omega (arith, o.few); counted = p.counted },
    )

pub walk_record-returns-in_err-map_err : goal.walk_record-returns-in_err-map_err
walk_record-returns-in_err-map_err t c =
    let a = c.args in
    let q = err_from_is_err_and c.from_residual.result c.from_residual.ensures.1 in
    let v = c.map_err.ensures.cases in
    let f : Fault = c.in_err-map_err.field-0.0.fault in
    let e : c.in_err-map_err.field-0.0 ≡ record { fault = f; openings = a.stage.openings } = grind (arith, common_steps) in
    let g : c.verdict_on.result ≡ Err f = grind (arith, common_steps) in
    rw (q.1, q.2, e) (record_faulty a.store.now a.i a.spot.position a.spot.depth a.stage a.out.now (rw g at c.verdict_on.ensures))

pub walk_record-returns : goal.walk_record-returns
walk_record-returns t c =
    let a = c.args in
    let v : c.verdict_on.result ≡ Ok tt = grind (arith, common_steps) in
    record_walked a.store.now a.i a.spot.position a.spot.depth a.stage a.out.now a.text.now.classes.now a.text.now.known (rw v at c.verdict_on.ensures) _ c.walk.result
    (rw (c.joined.ensures, c.list_in.ensures) at c.walk.ensures)
