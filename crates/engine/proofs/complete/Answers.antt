-- `engine::complete` meets its contract. Assumes nothing.
use Rattle.engine.proofs.TurnLaws.{ended_open}
use Rattle.engine.proofs.CodeLaws.{complete_closing}
use Rattle.engine.proofs.complete.Goals as goal

pub parent-requires : goal.parent-requires
parent-requires c = let p = c.requires in record { here = p.here; is_open = ended_open p.state p.here p.address p.stands p.ended }

pub close_typed-requires : goal.close_typed-requires
close_typed-requires c =
    let p = c.requires in
    record {
      lent = p.lent;
      here = p.here;
      address = p.address;
      closing = complete_closing p.state p.here p.address _ _ p.stands p.ended c.lone_kind.ensures
          (c.parent.ensures p.here (ended_open p.state p.here p.address p.stands p.ended)) c.store.ensures;
    }

pub returns : goal.returns
returns c =
    λ text lent s h a x g.
    c.close_typed.ensures lent h a
    (complete_closing s h a _ _ x g c.lone_kind.ensures (c.parent.ensures h (ended_open s h a x g)) c.store.ensures)
