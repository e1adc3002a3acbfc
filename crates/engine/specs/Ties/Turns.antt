-- What the functions of the reader answer.
-- A function asks that there is a state of the machine for which its arguments stand (`Some..`), and answers for every such state.
use Rattle.std.specs.Prelude.{ℕ, zero, suc, ◌+◌, ◌*◌, ◌≤◌, ◌<◌, ◌≡◌, Bool, true, false, List, [], ◌∷◌, length, set, Result, Ok, Err}
use Rattle.std.proofs.Math.Option.{Option, none, some}
use Rattle.std.proofs.lemmas.List.Edits.{sets}
use Rattle.octets.specs.Believed.Numbers.{message_limit, level_limit, too_many_levels, ends_too_soon}
use Rattle.octets.specs.Believed.Text.{part}
use Rattle.records.specs.Believed.AddressRecords.{address_record_size, record_by, record_bytes, table_bytes}
use Rattle.scanner.specs.declared.Symbol.{Symbol}
use Rattle.scanner.specs.declared.Class.{Class}
use Rattle.scanner.specs.declared.Class.TheVariants.{Atom, LessThan, GreaterThan}
use Rattle.grammar.specs.Believed.Language.{Refusal, number}
use Rattle.grammar.specs.Believed.Rfc733.{kind_number, mailbox, angle_list, group, quoted}
use Rattle.grammar.specs.Executable.Machines.{Step, go, stop}
use Rattle.grammar.specs.Executable.Trees733.{one_of, Lexeme, Phrase, one, atom_word, quoted_word, Nodes, empty, AddressList, idle, Address}
use Rattle.grammar.specs.Executable.Trees733 as trees
use Rattle.grammar.specs.Executable.Machine733.{Here, in_list, Level, in_angle, in_group, State, list, phrase, node, want, Spot, close, enter, end_angle, end_group, levels_here, levels_at, step_on, finish}
use Rattle.grammar.proofs.Rfc733.TreeRecords.{list_count, list_records, address_end, name_start, name_end}
use Rattle.engine.specs.declared.actions.Mode.{Mode}
use Rattle.engine.specs.declared.actions.Mode.TheVariants.{AtPlace, AtStart, AtFirstAtom, Wanting, AtAtom, AtQuoted, AtWords, AtNode, AfterAt, AfterAddress}
use Rattle.engine.specs.Ties.Stands.{mode_of, level_at, number_here, parent_at, parent_here, Entry, HoldsHere, HoldsLevel, stored_here, stored_list, stored_address, Stands}
use Rattle.records.specs.declared.Span.{Span}
use Rattle.engine.specs.declared.OpenLevel.{OpenLevel}
use Rattle.engine.specs.declared.Stack.{Stack}
use Rattle.engine.specs.declared.Engine.{Engine}
use Rattle.grammar.specs.declared.Whole.{Whole}
use Rattle.grammar.specs.declared.Whole.TheVariants.{Listed, Refused}

-- the reader's numbers
abbrev pub span : ℕ → ℕ → Span
span start end = record { start = start; end = end }

abbrev pub engine_by : Mode → ℕ → Span → ℕ → Engine
engine_by mode free name at = record { mode = mode; free = free; name = name; at = at }

-- a bracket, not a mark of groups
abbrev pub is_angle : Class → Bool
is_angle c = one_of (LessThan ∷ GreaterThan ∷ []) c

-- the kind of what a bracket or a mark of groups opens
abbrev pub kind_if : Bool → ℕ
kind_if true = kind_number angle_list
kind_if false = kind_number group

-- the kind of an address that ends in a mode
abbrev pub lone_kind : Mode → ℕ
lone_kind AtPlace = kind_number mailbox
lone_kind AtStart = kind_number mailbox
lone_kind AtFirstAtom = kind_number mailbox
lone_kind Wanting = kind_number mailbox
lone_kind AtAtom = kind_number mailbox
lone_kind AtQuoted = kind_number quoted
lone_kind AtWords = kind_number mailbox
lone_kind AfterAt = kind_number mailbox
lone_kind AtNode = kind_number mailbox
lone_kind AfterAddress = kind_number mailbox

-- the level that it opens
abbrev pub level_if : Bool → Here → Option Phrase → Lexeme → Level
level_if true h o t = in_angle h o t
level_if false h o t = in_group h o t

-- what the machine does where it closes one
abbrev pub end_if : Bool → Level → AddressList → Lexeme → Step State
end_if true k l t = end_angle k l t
end_if false k l t = end_group k l t

-- an address that ends in a state
pub data Ended : State → Here → Address → Type 0 where
  lone : {h : Here} {t : Lexeme} → Ended (phrase h (one (quoted_word t))) h (trees.quoted t)
  boxed : {h : Here} {p : Phrase} {m : Nodes} → Ended (node h p m) h (trees.mailbox p m)

-- ---- levels

-- the kind of the innermost of so many levels, 0 where there is none
abbrev pub kind_at : List OpenLevel → ℕ → ℕ
kind_at levels zero = 0
kind_at levels (suc level) = (level_at levels level).kind

-- no level is open
pub record IsNew (stack : Stack) : Type 0 where
  pub none : stack.depth ≡ 0
  pub tall : length stack.levels ≡ level_limit

-- a level more is open, if that is within the limit
pub record Pushed (before : Stack) (level : OpenLevel) (after : Stack) : Type 0 where
  pub room : before.depth < level_limit
  pub levels_are : after.levels ≡ set before.levels before.depth level
  pub depth_is : after.depth ≡ before.depth + 1

pub record NotPushed (before after : Stack) (number-told : ℕ) : Type 0 where
  pub full : level_limit ≤ before.depth
  pub kept : after ≡ before
  pub number_is : number-told ≡ too_many_levels

abbrev pub PushIs : Stack → OpenLevel → Stack → Result (Unit {0}) ℕ → Type 0
PushIs before level after (Ok u) = Pushed before level after
PushIs before level after (Err n) = NotPushed before after n

-- the levels around an address
pub record OpenHere (levels : List OpenLevel) (h : Here) (depth : ℕ) : Type 0 where
  pub depth_is : depth ≡ levels_here h
  pub holds : HoldsHere levels h
  pub deep : depth ≤ level_limit

pub record SomeHere (levels : List OpenLevel) (depth : ℕ) : Type 0 where
  pub here : Here
  pub is_open : OpenHere levels here depth

-- the parent of an address that stands there
abbrev pub ParentIs : List OpenLevel → ℕ → ℕ → Type 0
ParentIs levels depth r = (h : Here) → OpenHere levels h depth → r ≡ parent_here h

-- an open level: its numbers, and where its address stands
pub record LevelAt (levels : List OpenLevel) (level : ℕ) (h : Here) (start kind first last : ℕ) : Type 0 where
  pub entry : Entry levels level (number_here h) start kind first last
  pub is_open : OpenHere levels h level
  pub kind_low : kind < 256
  pub below : level < level_limit

pub record SomeLevel (levels : List OpenLevel) (level : ℕ) : Type 0 where
  pub here : Here
  pub start : ℕ
  pub kind : ℕ
  pub first : ℕ
  pub last : ℕ
  pub at : LevelAt levels level here start kind first last

-- its record is written
abbrev pub PutLevelIs : List OpenLevel → List ℕ → List ℕ → ℕ → ℕ → Type 0
PutLevelIs levels table after level end =
    (h : Here) (start kind first last : ℕ) → LevelAt levels level h start kind first last
    → after ≡ sets table (number_here h * address_record_size) (record_bytes (record_by kind level (parent_here h) start end first last))

-- ---- an address has ended

-- the records of the address are written, those of the typed addresses around it not yet
pub record Closing (lent : List ℕ) (levels : List OpenLevel) (table : List ℕ) (depth end : ℕ) (h : Here) (a : Address) : Type 0 where
  pub is_open : OpenHere levels h depth
  pub end_is : end ≡ address_end a
  pub stored : table ≡ stored_address lent h a

pub record SomeClosing (levels : List OpenLevel) (table : List ℕ) (depth end : ℕ) : Type 0 where
  pub lent : List ℕ
  pub here : Here
  pub address : Address
  pub closing : Closing lent levels table depth end here address

-- .. and the levels that it closes are closed
pub record Closed (lent : List ℕ) (spot : Spot) (table : List ℕ) (depth : ℕ) : Type 0 where
  pub depth_is : depth ≡ levels_at spot.level
  pub stored : table ≡ stored_list lent spot.level spot.sofar

-- all of them are closed
abbrev pub CloseTypedIs : List OpenLevel → List ℕ → List ℕ → ℕ → ℕ → ℕ → Type 0
CloseTypedIs levels table after depth end r = (lent : List ℕ) (h : Here) (a : Address) → Closing lent levels table depth end h a → Closed lent (close h a) after r

pub record SomeEnded (stack : Stack) (table : List ℕ) (e : Engine) : Type 0 where
  pub text : List ℕ
  pub lent : List ℕ
  pub state : State
  pub here : Here
  pub address : Address
  pub stands : Stands text lent state e stack table
  pub ended : Ended state here address

-- the address is written, and the typed addresses around it
abbrev pub CompleteIs : Stack → List ℕ → List ℕ → Engine → ℕ → Type 0
CompleteIs stack table after e r =
    (text lent : List ℕ) (s : State) (h : Here) (a : Address) → Stands text lent s e stack table → Ended s h a → Closed lent (close h a) after r

-- ---- turns

-- a symbol of a class stands from start to end, after this position
pub record Follows (text : List ℕ) (at : ℕ) (c : Class) (t : Lexeme) (start end : ℕ) : Type 0 where
  pub start_is : start ≡ t.start
  pub end_is : end ≡ t.end
  pub from : at ≤ start
  pub starts : start < end
  pub within : end ≤ length text
  pub meaning : c ≡ Atom → t.meaning ≡ part text start end

-- the machine goes on to a state, for which the reader's numbers stand
pub record GoesTo (text lent : List ℕ) (step : Step State) (end : ℕ) (e : Engine) (stack : Stack) (table : List ℕ) : Type 0 where
  pub state : State
  pub steps : step ≡ go state
  pub stands : Stands text lent state e stack table
  pub at_is : e.at ≡ end

-- the machine stops, and the levels are as they were
pub record StopsBy (step : Step State) (n : ℕ) (stack after : Stack) : Type 0 where
  pub why : Refusal
  pub steps : step ≡ stop why
  pub number_is : n ≡ number why
  pub kept : after ≡ stack

-- either of the two
abbrev pub TurnedIs : List ℕ → List ℕ → Step State → ℕ → Stack → Stack → List ℕ → Result Engine ℕ → Type 0
TurnedIs text lent step end stack after table (Ok e) = GoesTo text lent step end e after table
TurnedIs text lent step end stack after table (Err n) = StopsBy step n stack after

-- the numbers of a level that is opened fit
pub record Fits (e : Engine) (kind end : ℕ) : Type 0 where
  pub free_low : e.free < end
  pub start_low : e.name.start ≤ end
  pub name_low : e.name.end ≤ end
  pub kind_low : kind < 256
  pub short : end ≤ message_limit

-- a level is opened
pub record Opening (text lent : List ℕ) (h : Here) (o : Option Phrase) (t : Lexeme) (angle : Bool) (e : Engine) (kind : ℕ) (next : Mode) (end : ℕ) (stack : Stack) (table : List ℕ) : Type 0 where
  pub is_open : OpenHere stack.levels h stack.depth
  pub free_is : e.free ≡ number_here h
  pub stored : table ≡ stored_here lent h
  pub start_is : e.name.start ≡ name_start o t
  pub name_is : e.name.end ≡ name_end o t
  pub kind_is : kind ≡ kind_if angle
  pub next_is : next ≡ mode_of (list (level_if angle h o t) (idle empty))
  pub fits : Fits e kind end
  pub within : end ≤ length text
  pub short : length text ≤ message_limit
  pub tall : length stack.levels ≡ level_limit

abbrev pub OpenLevelIs : Stack → Stack → Engine → ℕ → Mode → ℕ → Result Engine ℕ → Type 0
OpenLevelIs stack after e kind next end r =
    (text lent table : List ℕ) (h : Here) (o : Option Phrase) (t : Lexeme) (angle : Bool) → Opening text lent h o t angle e kind next end stack table
    → TurnedIs text lent (enter level_limit (level_if angle h o t)) end stack after table r

-- a level is closed
pub record AtClose (text lent : List ℕ) (k : Level) (l : AddressList) (t : Lexeme) (angle : Bool) (depth free kind : ℕ) (next : Mode) (end : ℕ) (levels : List OpenLevel) (table : List ℕ) : Type 0 where
  pub depth_is : depth ≡ levels_at k
  pub deep : depth ≤ level_limit
  pub free_is : free ≡ parent_at k + list_count l
  pub holds : HoldsLevel levels k
  pub stored : table ≡ stored_list lent k l
  pub kind_is : kind ≡ kind_if angle
  pub next_is : next ≡ AfterAddress
  pub end_is : end ≡ t.end
  pub room : free ≤ end
  pub within : end ≤ length text
  pub short : length text ≤ message_limit
  pub tall : length levels ≡ level_limit

pub record SomeAtClose (depth kind end : ℕ) (levels : List OpenLevel) (table : List ℕ) : Type 0 where
  pub text : List ℕ
  pub lent : List ℕ
  pub level : Level
  pub sofar : AddressList
  pub mark : Lexeme
  pub angle : Bool
  pub free : ℕ
  pub next : Mode
  pub at : AtClose text lent level sofar mark angle depth free kind next end levels table

-- the reader can go on so, or the machine stops
abbrev pub MayGoOn : List ℕ → List ℕ → Step State → ℕ → Engine → Stack → Stack → List ℕ → Result (Unit {0}) ℕ → Type 0
MayGoOn text lent step end e stack after table (Ok u) = GoesTo text lent step end e after table
MayGoOn text lent step end e stack after table (Err n) = StopsBy step n stack after

abbrev pub CloseLevelIs : Stack → List ℕ → Stack → List ℕ → ℕ → ℕ → ℕ → Result (Unit {0}) ℕ → Type 0
CloseLevelIs stack table stack' table' depth kind end r =
    (text lent : List ℕ) (k : Level) (l : AddressList) (t : Lexeme) (angle : Bool) (free : ℕ) (next : Mode) → AtClose text lent k l t angle depth free kind next end stack.levels table
    → MayGoOn text lent (end_if angle k l t) end (engine_by next free (span end end) end) stack stack' table' r

-- the nameless group turns typed
pub record AtTyped (text lent : List ℕ) (h : Here) (colon atom : Lexeme) (e : Engine) (next : Mode) (end : ℕ) (stack : Stack) (table : List ℕ) : Type 0 where
  pub stands : Stands text lent (phrase (in_list (in_group h none colon) empty) (one (atom_word atom))) e stack table
  pub next_is : next ≡ Wanting
  pub from : e.at < end
  pub within : end ≤ length text

pub record SomeTyped (text : List ℕ) (e : Engine) (next : Mode) (end : ℕ) (stack : Stack) : Type 0 where
  pub lent : List ℕ
  pub table : List ℕ
  pub here : Here
  pub colon : Lexeme
  pub atom : Lexeme
  pub at : AtTyped text lent here colon atom e next end stack table

abbrev pub MakeTypedIs : List ℕ → Stack → Stack → Engine → Mode → ℕ → Engine → Type 0
MakeTypedIs text stack after e next end r =
    (lent table : List ℕ) (h : Here) (colon atom t : Lexeme) → AtTyped text lent h colon atom e next end stack table
    → GoesTo text lent (go (want h colon atom t)) end r after table

-- ---- a turn

pub record Turning (text lent : List ℕ) (s : State) (t : Lexeme) (e : Engine) (c : Class) (start end : ℕ) (stack : Stack) (table : List ℕ) : Type 0 where
  pub stands : Stands text lent s e stack table
  pub follows : Follows text e.at c t start end

pub record SomeTurning (text : List ℕ) (e : Engine) (x : Symbol) (stack : Stack) (table : List ℕ) : Type 0 where
  pub lent : List ℕ
  pub state : State
  pub symbol : Lexeme
  pub turning : Turning text lent state symbol e x.class x.start x.end stack table

abbrev pub TurnIs : List ℕ → Stack → List ℕ → Stack → List ℕ → Engine → Symbol → Result Engine ℕ → Type 0
TurnIs text stack table stack' table' e x r =
    (lent : List ℕ) (s : State) (t : Lexeme) → Turning text lent s t e x.class x.start x.end stack table → TurnedIs text lent (step_on level_limit s x.class t) x.end stack stack' table' r

-- ---- the end

pub record SomeFinishing (text : List ℕ) (e : Engine) (stack : Stack) (table : List ℕ) : Type 0 where
  pub lent : List ℕ
  pub state : State
  pub stands : Stands text lent state e stack table

-- a list has ended
pub record FinishedList (lent : List ℕ) (s : State) (table : List ℕ) (n : ℕ) : Type 0 where
  pub tree : AddressList
  pub is : finish s ≡ some tree
  pub count_is : n ≡ list_count tree
  pub stored : table ≡ sets lent 0 (table_bytes (list_records tree 0 0 0))

-- the text ends too soon
pub record Unfinished (text : List ℕ) (s : State) (number-told place : ℕ) : Type 0 where
  pub is : finish s ≡ none
  pub number_is : number-told ≡ ends_too_soon
  pub place_is : place ≡ length text

abbrev pub FinishedIs : List ℕ → List ℕ → State → List ℕ → Whole → Type 0
FinishedIs text lent s table (Listed n) = FinishedList lent s table n
FinishedIs text lent s table (Refused n p) = Unfinished text s n p

abbrev pub FinishIs : List ℕ → Stack → List ℕ → List ℕ → Engine → Whole → Type 0
FinishIs text stack table after e r = (lent : List ℕ) (s : State) → Stands text lent s e stack table → FinishedIs text lent s after r
