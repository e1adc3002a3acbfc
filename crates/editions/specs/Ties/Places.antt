-- The loop of RFC 822: its places, what coming to one does, and what the loop keeps. Nothing here needs to be believed: what is
-- promised of the reader does not mention it.
use Rattle.std.specs.Prelude.{ℕ, zero, suc, ◌+◌, Bool, true, false, cond, List, [], ◌∷◌, ◌++◌, length, Option, Some, None, is_some, is_none}
use Rattle.std.specs.Option.{option_or}
use Rattle.octets.specs.Believed.Choice.{both}
use Rattle.records.specs.Believed.AddressRecords.{AddressRecord, record_by}
use Rattle.records.specs.Ties.Ends.{set_end}
use Rattle.scanner.specs.Believed.Symbols.{Symbol, Lexeme}
use Rattle.scanner.specs.declared.Class.{Class}
use Rattle.scanner.specs.declared.Class.TheVariants.{Atom, Quoted, At, LessThan, GreaterThan, Comma, Semicolon, Colon, Dot, Literal}
use Rattle.editions.specs.declared.places.Place.{Place}
use Rattle.editions.specs.declared.places.Place.TheVariants.{Slot, Word, Phrase, Local, LocalDot, AtSign, Domain, DomainDot, Opened, AngleWord, AngleLocal, AngleDot, AngleAt, AngleDomain, AngleDomainDot, EmptyHop, HopAt, HopDomain, HopComma, RouteColon, AngleClosed, GroupOpened, GroupClosed}

-- ---- places

-- the next place, from a place by a symbol of a class
abbrev pub next_place : Place → Class → Option Place
next_place Slot Atom = Some Word
next_place Slot Quoted = Some Word
next_place Slot Comma = Some Slot
next_place Slot Semicolon = Some GroupClosed
next_place Word Atom = Some Phrase
next_place Word Quoted = Some Phrase
next_place Word At = Some AtSign
next_place Word LessThan = Some Opened
next_place Word Colon = Some GroupOpened
next_place Word Dot = Some LocalDot
next_place Phrase Atom = Some Phrase
next_place Phrase Quoted = Some Phrase
next_place Phrase LessThan = Some Opened
next_place Phrase Colon = Some GroupOpened
next_place Local At = Some AtSign
next_place Local Dot = Some LocalDot
next_place LocalDot Atom = Some Local
next_place LocalDot Quoted = Some Local
next_place AtSign Atom = Some Domain
next_place AtSign Literal = Some Domain
next_place Domain Comma = Some Slot
next_place Domain Semicolon = Some GroupClosed
next_place Domain Dot = Some DomainDot
next_place DomainDot Atom = Some Domain
next_place DomainDot Literal = Some Domain
next_place Opened Atom = Some AngleWord
next_place Opened Quoted = Some AngleWord
next_place Opened At = Some HopAt
next_place Opened Comma = Some EmptyHop
next_place AngleWord At = Some AngleAt
next_place AngleWord Dot = Some AngleDot
next_place AngleLocal At = Some AngleAt
next_place AngleLocal Dot = Some AngleDot
next_place AngleDot Atom = Some AngleLocal
next_place AngleDot Quoted = Some AngleLocal
next_place AngleAt Atom = Some AngleDomain
next_place AngleAt Literal = Some AngleDomain
next_place AngleDomain GreaterThan = Some AngleClosed
next_place AngleDomain Dot = Some AngleDomainDot
next_place AngleDomainDot Atom = Some AngleDomain
next_place AngleDomainDot Literal = Some AngleDomain
next_place EmptyHop At = Some HopAt
next_place EmptyHop Comma = Some EmptyHop
next_place HopAt Atom = Some HopDomain
next_place HopAt Literal = Some HopDomain
next_place HopDomain Comma = Some HopComma
next_place HopDomain Colon = Some RouteColon
next_place HopDomain Dot = Some HopAt
next_place HopComma At = Some HopAt
next_place HopComma Comma = Some HopComma
next_place HopComma Colon = Some RouteColon
next_place RouteColon Atom = Some AngleWord
next_place RouteColon Quoted = Some AngleWord
next_place AngleClosed Comma = Some Slot
next_place AngleClosed Semicolon = Some GroupClosed
next_place GroupOpened Atom = Some Word
next_place GroupOpened Quoted = Some Word
next_place GroupOpened Comma = Some Slot
next_place GroupOpened Semicolon = Some GroupClosed
next_place GroupClosed Comma = Some Slot
next_place place class = None

-- a list may end there, outside of a group
abbrev pub ends_at : Place → Bool
ends_at Slot = true
ends_at Domain = true
ends_at AngleClosed = true
ends_at GroupClosed = true
ends_at place = false

-- ---- what the loop keeps

-- its place; the span of the name so far; the number of the open group and of the open angle address; the records
pub record Walked : Type 0 where
  pub place : Place
  pub start : ℕ
  pub name_end : ℕ
  pub group : Option ℕ
  pub angle : Option ℕ
  pub records : List AddressRecord

-- 1 where one is open
abbrev pub one_if : Option ℕ → ℕ
one_if number = cond (is_some number) 1 0

-- a number as a record's parent: plus 1, or 0 where there is none
abbrev pub parent_number : Option ℕ → ℕ
parent_number None = 0
parent_number (Some i) = suc i

-- the parent of what begins: the open angle address, or else the open group
abbrev pub parent_of : Option ℕ → Option ℕ → ℕ
parent_of group angle = parent_number (option_or angle group)

-- a record from the name on, whose end is not known yet
abbrev pub new_record : ℕ → Walked → Lexeme → AddressRecord
new_record kind f t = record_by kind (one_if f.group + one_if f.angle) (parent_of f.group f.angle) f.start t.end f.start f.name_end

-- what is kept, of these
abbrev pub walked_by : Place → ℕ → ℕ → Option ℕ → Option ℕ → List AddressRecord → Walked
walked_by place start name_end group angle records = record { place = place; start = start; name_end = name_end; group = group; angle = angle; records = records }

-- ---- what coming to a place does

-- nothing
abbrev pub stays : Place → Walked → Lexeme → Option Walked
stays c f t = Some (walked_by c f.start f.name_end f.group f.angle f.records)

-- a word begins the name
abbrev pub first_word : Place → Walked → Lexeme → Option Walked
first_word c f t = Some (walked_by c t.start t.end f.group f.angle f.records)

-- .. or goes on with it
abbrev pub further_word : Place → Walked → Lexeme → Option Walked
further_word c f t = Some (walked_by c f.start t.end f.group f.angle f.records)

-- a record of this kind begins; then this group and this angle address are open
abbrev pub add_record : ℕ → Option ℕ → Option ℕ → Place → Walked → Lexeme → Walked
add_record kind group angle c f t = walked_by c f.start f.name_end group angle (f.records ++ (new_record kind f t ∷ []))

-- the record with a number comes to its end; then this group and this angle address are open
abbrev pub close_record : Option ℕ → Option ℕ → Option ℕ → Place → Walked → Lexeme → Option Walked
close_record None group angle c f t = None
close_record (Some i) group angle c f t = Some (walked_by c f.start f.name_end group angle (set_end i t.end f.records))

-- a group begins, unless one is open
abbrev pub open_group : Option ℕ → Place → Walked → Lexeme → Option Walked
open_group None c f t = Some (add_record 3 (Some (length f.records)) f.angle c f t)
open_group (Some g) c f t = None

-- the number of the last of so many records
abbrev pub last_number : ℕ → Option ℕ
last_number zero = None
last_number (suc n) = Some n

-- coming to a place
abbrev pub come_to : Place → Walked → Lexeme → Option Walked
come_to Word f t = first_word Word f t
come_to AngleWord f t = first_word AngleWord f t
come_to Phrase f t = further_word Phrase f t
come_to Local f t = further_word Local f t
come_to AngleLocal f t = further_word AngleLocal f t
come_to AtSign f t = Some (add_record 1 f.group f.angle AtSign f t)
come_to AngleAt f t = Some (add_record 1 f.group f.angle AngleAt f t)
come_to Domain f t = close_record (last_number (length f.records)) f.group f.angle Domain f t
come_to AngleDomain f t = close_record (last_number (length f.records)) f.group f.angle AngleDomain f t
come_to Opened f t = Some (add_record 2 f.group (Some (length f.records)) Opened f t)
come_to AngleClosed f t = close_record f.angle f.group None AngleClosed f t
come_to GroupOpened f t = open_group f.group GroupOpened f t
come_to GroupClosed f t = close_record f.group None f.angle GroupClosed f t
come_to c f t = stays c f t

-- one symbol
abbrev pub step_from : Walked → Symbol Class → Option Walked
step_from f x = elim (next_place f.place x.class) [ None ↦ None | Some c ↦ come_to c f x.lexeme ]

-- ---- all symbols

-- the loop comes to the end of the symbols, or stops at one
pub data WalkEnd : Type 0 where
  ends : Walked → WalkEnd
  stops : List (Symbol Class) → WalkEnd

abbrev pub walk_from : Walked → List (Symbol Class) → WalkEnd
walk_from f [] = ends f
walk_from f (x ∷ xs) = elim (step_from f x) [ None ↦ stops (x ∷ xs) | Some g ↦ walk_from g xs ]

-- a list may end there
abbrev pub may_end : Walked → Bool
may_end f = both (ends_at f.place) (is_none f.group)
