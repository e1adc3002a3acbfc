-- `engine::finish` meets its contract. Assumes nothing.
use Rattle.engine.proofs.Dispatch.{end_listed, end_open, end_ends, end_ended_listed, end_ended_open}
use Rattle.engine.proofs.finish.Goals as goal
use Rattle.engine.proofs.finish.Goals.{in-OfList, in-OfAddress}

pub complete-requires : goal.complete-requires
complete-requires c = end_ends c.requires.stands c.end_at.ensures c.in-OfAddress.is

pub returns-then-depth-eq0 : goal.returns-then-depth-eq0
returns-then-depth-eq0 c =
    λ lent s x.
    elim c.match-end_at.branch [
      | in-OfList w ↦ rw (w.table-is, w.depth-is) (end_listed x c.end_at.ensures w.in-OfList.is (rw w.depth-is at c.if-depth-eq0.true))
      | in-OfAddress w ↦
          rw (w.table-is, w.depth-is)
          (end_ended_listed x c.end_at.ensures w.in-OfAddress.is (λ h y g. w.complete.ensures c.args.text.now lent s h y x g) (rw w.depth-is at c.if-depth-eq0.true))
    ]

pub returns : goal.returns
returns c =
    λ lent s x.
    elim c.match-end_at.branch [
      | in-OfList w ↦ end_open x c.end_at.ensures w.in-OfList.is (rw w.depth-is at c.if-depth-eq0.false)
      | in-OfAddress w ↦
          end_ended_open x c.end_at.ensures w.in-OfAddress.is (λ h y g. w.complete.ensures c.args.text.now lent s h y x g) (rw w.depth-is at c.if-depth-eq0.false)
    ]
