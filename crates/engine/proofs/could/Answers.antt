-- `engine::could` meets its contract. Assumes nothing.
use mathlib.Core.Path.{◌∙◌}
use mathlib.Core.Logic.{inl, inr}
use Rattle.engine.proofs.ExpectingLaws.{could_go_on, could_open, could_open_named, closes_here, could_end_and_close, under_low}
use Rattle.engine.proofs.could.Goals as goal

pub returns-in-Begin : goal.returns-in-Begin
returns-in-Begin c = λ x. could_go_on c.args.class x c.action_at.ensures c.in-Begin.is

pub is_of-requires-in-EndAndClose-clause-deep : goal.is_of-requires-in-EndAndClose-clause-deep
is_of-requires-in-EndAndClose-clause-deep c = under_low (closes_here c.args.class c.requires.0 c.action_at.ensures c.in-EndAndClose.is) c.under_typed.ensures

pub returns-in-Open : goal.returns-in-Open
returns-in-Open c =
    λ x. elim c.in-Open.is [ inl q ↦ could_open c.args.class x c.action_at.ensures q | inr q ↦ could_open_named c.args.class x c.action_at.ensures q ]

pub returns-in-EndAndClose : goal.returns-in-EndAndClose
returns-in-EndAndClose c =
    λ x. c.is_of-in-EndAndClose.ensures ∙ could_end_and_close c.args.class x c.action_at.ensures _ c.in-EndAndClose.is c.enclosure-in-EndAndClose.ensures c.under_typed.ensures
