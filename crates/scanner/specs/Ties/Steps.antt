-- What the functions below the entry points answer.
use Rattle.std.specs.Prelude.{◌≡◌, ℕ, ◌+◌, ◌≤◌, Bool, List, [], ◌∷◌, eqb, leb, ltb, length, get_or, Option, None, Some, Result, Ok, Err}
use Rattle.octets.specs.Believed.Choice.{pick, both}
use Rattle.octets.specs.Believed.Classes.{control, quote, letter}
use Rattle.octets.specs.Believed.Octets.{return_byte}
use Rattle.octets.specs.Believed.Text.{part}
use Rattle.octets.specs.Believed.Answers.{fault}
use Rattle.octets.specs.Believed.Numbers.{quoted_not_closed, comment_not_closed, literal_not_closed}
use Rattle.octets.specs.declared.answers.Answer.TheVariants.{Accepted, Refused}
use Rattle.octets.specs.declared.answers.Fault.{Fault}
use Rattle.scanner.specs.Believed.Kinds.{character_kind}
use Rattle.scanner.specs.Believed.Characters.{character, characters_at}
use Rattle.scanner.specs.Believed.Scanning.{Scanned, State, outside, in_atom, in_quoted, taking_in_quoted, in_literal, taking_in_literal, in_comment, taking_in_comment, atom, ended, next, fault_at, scan_from, parted, scan_by}
use Rattle.scanner.specs.Believed.Answers.{fault_of}
use Rattle.scanner.specs.declared.ByteKind.{ByteKind}
use Rattle.scanner.specs.declared.ByteKind.TheVariants.{White, Return, Backslash, Above}
use Rattle.scanner.specs.declared.Character.{Character}
use Rattle.scanner.specs.declared.Class.{Class}
use Rattle.scanner.specs.declared.Next.{Next}
use Rattle.scanner.specs.declared.Next.TheVariants as coming
use Rattle.scanner.specs.declared.Symbol.{Symbol}

-- what a text scans to from a position on, before it is told which symbols stand apart
abbrev pub outside_at : List ℕ → List ℕ → ℕ → Scanned
outside_at classes text at = scan_from classes (characters_at text at) outside

abbrev pub symbol_of : Class → ℕ → ℕ → ℕ → Bool → Symbol
symbol_of class start end size apart = record { class = class; start = start; end = end; length = size; apart = apart }

-- the first symbol of what was scanned, if there is one, or the fault before it
abbrev pub first_of : Scanned → Result (Option Symbol) Fault
first_of ended = Ok None
first_of (next x rest) = Ok (Some (symbol_of x.class x.lexeme.start x.lexeme.end (length x.lexeme.meaning) x.lexeme.apart))
first_of (fault_at number p) = Err (fault number p)

abbrev pub found : Result Symbol Fault → Result (Option Symbol) Fault
found (Ok symbol) = Ok (Some symbol)
found (Err f) = Err f

-- what comes first, as what comes next
abbrev pub as_next : Result (Option Symbol) Fault → Next
as_next (Ok (Some symbol)) = coming.Found symbol
as_next (Ok None) = coming.Ended
as_next (Err f) = coming.Fault f.number f.position

-- what comes first of what was scanned: a symbol that starts at a position and stands apart, or not, from whatever position tells so
abbrev pub FirstIs : Bool → ℕ → Scanned → Result Symbol Fault → Type 0
FirstIs apart start s r = (from : ℕ) → apart ≡ ltb from start → found r ≡ first_of (parted from s)

-- the first character at or after a position: its kind, its position p and the position q after it
pub record FirstCharacter (classes text : List ℕ) (at : ℕ) (kind : ByteKind) (p q : ℕ) : Type 0 where
  pub folded : Bool
  pub characters : characters_at text at ≡ character (get_or text p 0) p folded ∷ characters_at text q
  pub kind_is : kind ≡ character_kind classes (get_or text p 0) folded
  pub from : at ≤ p
  pub distance : p ≡ pick folded (at + 2) at
  pub behind : q ≡ p + 1
  pub within : q ≤ length text
  pub tight : (kind ≡ White → ⊥) → p ≡ at

abbrev pub CharacterIs : List ℕ → List ℕ → ℕ → Option Character → Type 0
CharacterIs classes text at None = characters_at text at ≡ []
CharacterIs classes text at (Some c) = FirstCharacter classes text at c.kind c.here c.next

-- a state inside of a quoted-string, a domain literal or a comment, with the fault of a text that ends there
abbrev pub NotClosed : State → Fault → Type 0
NotClosed outside unclosed = ⊥
NotClosed (in_atom start end t) unclosed = ⊥
NotClosed (in_quoted start t) unclosed = unclosed ≡ fault quoted_not_closed start
NotClosed (taking_in_quoted start t) unclosed = ⊥
NotClosed (in_literal start) unclosed = unclosed ≡ fault literal_not_closed start
NotClosed (taking_in_literal start) unclosed = ⊥
NotClosed (in_comment depth start) unclosed = unclosed ≡ fault comment_not_closed start
NotClosed (taking_in_comment depth start) unclosed = ⊥

-- .. and the state there after a backslash
abbrev pub taking : State → State
taking outside = outside
taking (in_atom start end t) = in_atom start end t
taking (in_quoted start t) = taking_in_quoted start t
taking (taking_in_quoted start t) = taking_in_quoted start t
taking (in_literal start) = taking_in_literal start
taking (taking_in_literal start) = taking_in_literal start
taking (in_comment depth start) = taking_in_comment depth start
taking (taking_in_comment depth start) = taking_in_comment depth start

-- what a backslash takes ends at a position
pub record TakenUpTo (classes text : List ℕ) (at q : ℕ) : Type 0 where
  pub kind : ByteKind
  pub place : ℕ
  pub first : FirstCharacter classes text at kind place q
  pub not_above : kind ≡ Above → ⊥

abbrev pub TakenIs : List ℕ → List ℕ → ℕ → Fault → Result ℕ Fault → Type 0
TakenIs classes text at unclosed (Ok q) = TakenUpTo classes text at q
TakenIs classes text at unclosed (Err f) = (state : State) → NotClosed state unclosed → scan_from classes (characters_at text at) (taking state) ≡ fault_at f.number f.position

-- a character that is no fault there, or a backslash with what it takes: its kind, its position p and the position q after it
pub data Inside (classes text : List ℕ) (at : ℕ) : ByteKind → ℕ → ℕ → Type 0 where
  alone : {kind : ByteKind} {p q : ℕ} → FirstCharacter classes text at kind p q → (kind ≡ Return → ⊥) → (kind ≡ Above → ⊥) → (kind ≡ Backslash → ⊥) → Inside classes text at kind p q
  with_taken : {p q r : ℕ} → FirstCharacter classes text at Backslash p q → TakenUpTo classes text q r → Inside classes text at Backslash p r

abbrev pub InsideIs : List ℕ → List ℕ → ℕ → Fault → Result Character Fault → Type 0
InsideIs classes text at unclosed (Ok c) = Inside classes text at c.kind c.here c.next
InsideIs classes text at unclosed (Err f) = (state : State) → NotClosed state unclosed → scan_from classes (characters_at text at) state ≡ fault_at f.number f.position

-- an atom that has run up to a position ends at `end`
pub record AtomEnds (classes text : List ℕ) (start at end : ℕ) : Type 0 where
  pub same : scan_from classes (characters_at text at) (in_atom start at (part text start at))
      ≡ next (atom start end (part text start end)) (outside_at classes text end)
  pub from : at ≤ end
  pub within : end ≤ length text

-- a table of classes has CR among the control bytes, so that a byte's class alone tells whether it is part of an atom
pub record ReturnIsControl (classes : List ℕ) : Type 0 where
  pub is_control : get_or classes return_byte 0 ≡ control

-- a byte's class is one that atoms are made of
abbrev pub plain_at : List ℕ → List ℕ → ℕ → Bool
plain_at classes text i = leb letter (get_or classes (get_or text i 0) 0)

-- every atom that has run up to a position ends at `end`
pub record PlainEnds (classes text : List ℕ) (at end : ℕ) : Type 0 where
  pub atom_from : (start : ℕ) → start ≤ at → AtomEnds classes text start at end
  pub from : at ≤ end
  pub within : end ≤ length text

-- every quoted-string whose data begin at a position has come to another, with the bytes between as its data
pub record DataPasses (classes text : List ℕ) (at end : ℕ) : Type 0 where
  pub same : (start : ℕ) → scan_from classes (characters_at text at) (in_quoted start []) ≡ scan_from classes (characters_at text end) (in_quoted start (part text at end))
  pub from : at ≤ end
  pub within : end ≤ length text

-- every domain literal that is open at a position goes on from another, and is told the same from there
pub record LiteralPasses (classes text : List ℕ) (at p : ℕ) : Type 0 where
  pub same : (start : ℕ) → scan_from classes (characters_at text at) (in_literal start) ≡ scan_from classes (characters_at text p) (in_literal start)
  pub from : at ≤ p
  pub within : p ≤ length text

-- a quote stands at a position
abbrev pub quote_at : List ℕ → List ℕ → ℕ → Bool
quote_at classes text i = both (ltb i (length text)) (eqb (get_or classes (get_or text i 0) 0) quote)

-- after a comment scanning goes on outside
pub record CommentEnds (classes text : List ℕ) (at start q : ℕ) : Type 0 where
  pub same : scan_from classes (characters_at text at) (in_comment 0 start) ≡ outside_at classes text q
  pub from : at ≤ q
  pub within : q ≤ length text

abbrev pub CommentIs : List ℕ → List ℕ → ℕ → ℕ → Result ℕ Fault → Type 0
CommentIs classes text at start (Ok q) = CommentEnds classes text at start q
CommentIs classes text at start (Err f) = scan_from classes (characters_at text at) (in_comment 0 start) ≡ fault_at f.number f.position

-- a body has no fault from a position on
pub record Faultless (classes text : List ℕ) (at : ℕ) : Type 0 where
  pub none : fault_of (scan_by classes text at) ≡ Accepted 0

abbrev pub FaultlessIs : List ℕ → List ℕ → ℕ → Result (Unit {0}) Fault → Type 0
FaultlessIs classes text at (Ok x) = fault_of (scan_by classes text at) ≡ Accepted 0
FaultlessIs classes text at (Err f) = fault_of (scan_by classes text at) ≡ Refused f.number f.position

-- a body has the same first fault from a later position on
pub record FaultsFrom (classes text : List ℕ) (at r : ℕ) : Type 0 where
  pub from : at ≤ r
  pub same : fault_of (scan_by classes text at) ≡ fault_of (scan_by classes text r)
