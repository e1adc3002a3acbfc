-- `engine::turn` meets its contract. Assumes nothing.
use Rattle.std.proofs.lemmas.Result.{err_from_is_err_and}
use Rattle.engine.specs.Ties.Turns.{is_angle}
use Rattle.engine.proofs.Dispatch.{turn_refuses, turn_begins, turn_adds, turn_passes, turn_opens, turn_opens_named, turn_types, ends_by_comma, turn_comma, turn_closes, ends_by_mark, turn_ended_closes}
use Rattle.engine.proofs.turn.Goals as goal

pub returns-in-Refuse : goal.returns-in-Refuse
returns-in-Refuse c = λ lent s t x. turn_refuses x c.action_at-act.ensures c.in-Refuse.is

pub returns-in-Begin : goal.returns-in-Begin
returns-in-Begin c = λ lent s t x. rw c.goes_on.ensures (turn_begins x c.action_at-act.ensures c.in-Begin.is)

pub returns-in-Add : goal.returns-in-Add
returns-in-Add c = λ lent s t x. rw c.goes_on-in-Add.ensures (turn_adds x c.action_at-act.ensures c.in-Add.is)

pub returns-in-Pass : goal.returns-in-Pass
returns-in-Pass c = λ lent s t x. rw c.goes_on-in-Pass.ensures (turn_passes x c.action_at-act.ensures c.in-Pass.is)

pub returns-in-Open : goal.returns-in-Open
returns-in-Open c =
    λ lent s t x.
    let a = c.args in
    let y = turn_opens x c.action_at-act.ensures c.in-Open.is c.enclosure.result c.enclosure.ensures in
    rw y.steps (c.open_level.ensures a.text.now lent a.table.now y.here y.name t (is_angle a.symbol.class) (rw c.nameless.ensures y.opening))

pub returns-in-OpenNamed : goal.returns-in-OpenNamed
returns-in-OpenNamed c =
    λ lent s t x.
    let a = c.args in
    let y = turn_opens_named x c.action_at-act.ensures c.in-OpenNamed.is c.enclosure-in-OpenNamed.result c.enclosure-in-OpenNamed.ensures in
    rw y.steps (c.open_level-in-OpenNamed.ensures a.text.now lent a.table.now y.here y.name t (is_angle a.symbol.class) y.opening)

pub make_typed-requires : goal.make_typed-requires
make_typed-requires c =
    let p = c.requires.1 in
    let y = turn_types p.turning c.action_at-act.ensures c.in-TurnTyped.is in
    record { lent = p.lent; table = c.args.table.now; here = y.here; colon = y.colon; atom = y.atom; at = y.at }

pub returns-in-TurnTyped : goal.returns-in-TurnTyped
returns-in-TurnTyped c =
    λ lent s t x.
    let y = turn_types x c.action_at-act.ensures c.in-TurnTyped.is in
    rw y.steps (c.make_typed.ensures lent c.args.table.now y.here y.colon y.atom t y.at)

pub complete-stack-requires : goal.complete-stack-requires
complete-stack-requires c = ends_by_comma c.requires.1.turning c.action_at-act.ensures c.in-EndAtComma.is

pub returns-in-EndAtComma : goal.returns-in-EndAtComma
returns-in-EndAtComma c =
    λ lent s t x.
    rw c.at_place.ensures (turn_comma x c.action_at-act.ensures c.in-EndAtComma.is (λ h a g. c.complete-stack.ensures c.args.text.now lent s h a x.stands g))

pub close_level-requires : goal.close_level-requires
close_level-requires c =
    let p = c.requires.1 in
    let y = turn_closes p.turning c.action_at-act.ensures c.in-Close.is c.enclosure-in-Close.result c.enclosure-in-Close.ensures in
    record { text = c.args.text.now; lent = p.lent; level = y.level; sofar = y.sofar; mark = p.symbol; angle = is_angle c.args.symbol.class; free = _; next = _; at = y.at }

pub returns-in_ok-close_level-in-Close : goal.returns-in_ok-close_level-in-Close
returns-in_ok-close_level-in-Close c =
    λ lent s t x.
    let y = turn_closes x c.action_at-act.ensures c.in-Close.is c.enclosure-in-Close.result c.enclosure-in-Close.ensures in
    rw (c.at_place-in-Close.ensures, y.steps) (c.in_ok-close_level-in-Close.ensures c.args.text.now lent y.level y.sofar t (is_angle c.args.symbol.class) _ _ y.at)

pub returns-in_err-close_level-in-Close : goal.returns-in_err-close_level-in-Close
returns-in_err-close_level-in-Close c =
    λ lent s t x.
    let y = turn_closes x c.action_at-act.ensures c.in-Close.is c.enclosure-in-Close.result c.enclosure-in-Close.ensures in
    let p = err_from_is_err_and c.from_residual.result c.from_residual.ensures.1 in
    rw (p.1, p.2, y.steps) (c.in_err-close_level-in-Close.ensures c.args.text.now lent y.level y.sofar t (is_angle c.args.symbol.class) _ _ y.at)

pub complete-depth-requires : goal.complete-depth-requires
complete-depth-requires c = ends_by_mark c.requires.1.turning c.action_at-act.ensures c.in-EndAndClose.is

pub close_level-requires-in-EndAndClose : goal.close_level-requires-in-EndAndClose
close_level-requires-in-EndAndClose c =
    let p = c.requires.1 in
    let y = turn_ended_closes p.turning c.action_at-act.ensures c.in-EndAndClose.is c.enclosure-in-EndAndClose.result c.enclosure-in-EndAndClose.ensures
    (λ h a g. c.complete-depth.ensures c.args.text.now p.lent p.state h a p.turning.stands g) in
    record { text = c.args.text.now; lent = p.lent; level = y.level; sofar = y.sofar; mark = p.symbol; angle = is_angle c.args.symbol.class; free = _; next = _; at = y.at }

pub returns-in_ok-close_level-in-EndAndClose : goal.returns-in_ok-close_level-in-EndAndClose
returns-in_ok-close_level-in-EndAndClose c =
    λ lent s t x.
    let y = turn_ended_closes x c.action_at-act.ensures c.in-EndAndClose.is c.enclosure-in-EndAndClose.result c.enclosure-in-EndAndClose.ensures
    (λ h a g. c.complete-depth.ensures c.args.text.now lent s h a x.stands g) in
    rw (c.at_place-in-EndAndClose.ensures, y.steps) (c.in_ok-close_level-in-EndAndClose.ensures c.args.text.now lent y.level y.sofar t (is_angle c.args.symbol.class) _ _ y.at)

pub returns-in_err-close_level-in-EndAndClose : goal.returns-in_err-close_level-in-EndAndClose
returns-in_err-close_level-in-EndAndClose c =
    λ lent s t x.
    let y = turn_ended_closes x c.action_at-act.ensures c.in-EndAndClose.is c.enclosure-in-EndAndClose.result c.enclosure-in-EndAndClose.ensures
    (λ h a g. c.complete-depth.ensures c.args.text.now lent s h a x.stands g) in
    let p = err_from_is_err_and c.from_residual-in_err-close_level-in-EndAndClose.result c.from_residual-in_err-close_level-in-EndAndClose.ensures.1 in
    rw (p.1, p.2, y.steps) (c.in_err-close_level-in-EndAndClose.ensures c.args.text.now lent y.level y.sofar t (is_angle c.args.symbol.class) _ _ y.at)
