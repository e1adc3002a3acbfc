-- `engine::close_level` meets its contract. Assumes nothing.
use mathlib.Core.Path.{sym, ◌∙◌}
use borrow.Author.Tests.{eqb-true}
use Rattle.engine.specs.Ties.Turns.{kind_at}
use Rattle.engine.proofs.TurnLaws.{address_if, close_right}
use Rattle.engine.proofs.CodeLaws.{mark_level, right_closing, right_closed}
use Rattle.engine.proofs.close_level.Goals as goal

pub put_level-requires : goal.put_level-requires
put_level-requires c =
    let p = c.requires in
    let k = eqb-true (kind_at c.args.stack.now.levels c.args.depth) c.args.kind (sym c.is_of.ensures ∙ c.if-not-is_of.false) in
    mark_level p.angle (close_right p.angle p.level p.sofar p.at k)

pub close_typed-stack-requires : goal.close_typed-stack-requires
close_typed-stack-requires c =
    let p = c.requires in
    let k = eqb-true (kind_at c.args.stack.now.levels c.args.depth) c.args.kind (sym c.is_of.ensures ∙ c.if-not-is_of.false) in
    let r = close_right p.angle p.level p.sofar p.at k in
    record {
      lent = p.lent;
      here = r.here;
      address = address_if p.angle r.name r.mark p.sofar p.mark;
      closing = right_closing p.angle p.level p.sofar p.at r c.put_level.new.table (c.put_level.ensures r.here _ _ _ _ r.at);
    }

pub returns : goal.returns
returns c =
    λ text lent k l t b free next x.
    let e = eqb-true (kind_at c.args.stack.now.levels c.args.depth) c.args.kind (sym c.is_of.ensures ∙ c.if-not-is_of.false) in
    let r = close_right b k l x e in
    right_closed b k l x r _ _
    (c.close_typed-stack.ensures lent r.here (address_if b r.name r.mark l t) (right_closing b k l x r c.put_level.new.table (c.put_level.ensures r.here _ _ _ _ r.at)))
