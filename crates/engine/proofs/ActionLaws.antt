-- The table holds what is done in each mode at each symbol. Assumes nothing.
use mathlib.Core.Path.{◌≡◌, refl}
use mathlib.Core.List.{List}
use lib.ListN.{get_or}
use Rattle.scanner.specs.declared.Class.{Class}
use Rattle.scanner.specs.declared.Class.TheVariants.{Atom, Quoted, At, LessThan, GreaterThan, Comma, Semicolon, Colon, Stray, Dot, Literal}
use Rattle.grammar.specs.Believed.Rfc733.{class_number}
use Rattle.engine.specs.declared.actions.Mode.{Mode}
use Rattle.engine.specs.declared.actions.Mode.TheVariants.{AtPlace, AtStart, AtFirstAtom, Wanting, AtAtom, AtQuoted, AtWords, AfterAt, AtNode, AfterAddress}
use Rattle.engine.specs.declared.actions.Action.{Action}
use Rattle.engine.specs.declared.actions.End.{End}
use Rattle.engine.specs.Ties.Actions.{Row, row_of, on_class, action_of, cells, mode_number, action_table, end_table}

-- the row of a mode
row_in : (m : Mode) (other : List Action) → get_or action_table (mode_number m) other ≡ cells (row_of m)
unfolding action_table
row_in AtPlace other = refl
row_in AtStart other = refl
row_in AtFirstAtom other = refl
row_in Wanting other = refl
row_in AtAtom other = refl
row_in AtQuoted other = refl
row_in AtWords other = refl
row_in AfterAt other = refl
row_in AtNode other = refl
row_in AfterAddress other = refl

action_in : (r : Row) (c : Class) (other : Action) → get_or (cells r) (class_number c) other ≡ on_class r c
action_in r Atom other = refl
action_in r Quoted other = refl
action_in r At other = refl
action_in r LessThan other = refl
action_in r GreaterThan other = refl
action_in r Comma other = refl
action_in r Semicolon other = refl
action_in r Colon other = refl
action_in r Stray other = refl
action_in r Dot other = refl
action_in r Literal other = refl

-- what is done in a mode at a symbol of a class
pub entry_at : (m : Mode) (c : Class) (row : List Action) (other : Action) → get_or (get_or action_table (mode_number m) row) (class_number c) other ≡ action_of m c
entry_at m c row other = rw row_in (action_in (row_of m) c other)

-- .. and at the end of the text
pub end_entry : (m : Mode) (other : End) → get_or end_table (mode_number m) other ≡ (row_of m).end
end_entry AtPlace other = refl
end_entry AtStart other = refl
end_entry AtFirstAtom other = refl
end_entry Wanting other = refl
end_entry AtAtom other = refl
end_entry AtQuoted other = refl
end_entry AtWords other = refl
end_entry AfterAt other = refl
end_entry AtNode other = refl
end_entry AfterAddress other = refl
