-- Document 02, CR 3: what a byte of a body is: white space, comment, part of a word, "at", or a bracket or mark.
use Rattle.std.specs.Prelude.{◌≡◌, ℕ, ◌≤◌, ◌<◌, true, false, List, [], ◌∷◌, leb, ltb, take}
use Rattle.octets.specs.Believed.Choice.{pick, both}
use Rattle.octets.specs.Believed.Classes.{class_table}
use Rattle.octets.specs.Believed.Letters.{same_letters}
use Rattle.octets.specs.Believed.Text.{bytes}
use Rattle.octets.specs.declared.answers.Answer.TheVariants.{Accepted}
use Rattle.scanner.specs.Believed.Symbols.{Symbol}
use Rattle.scanner.specs.Believed.Kinds.{character_kind}
use Rattle.scanner.specs.Believed.Characters.{Character, character, characters_at}
use Rattle.scanner.specs.Believed.Scanning.{Scanned, ended, next, fault_at, State, outside, in_atom, in_quoted, taking_in_quoted, in_literal, taking_in_literal, in_comment, taking_in_comment, Move, go, halt, move, scan, symbols_of}
use Rattle.scanner.specs.Believed.Answers.{body_checked, unless_fault, body_scanned}
use Rattle.scanner.specs.declared.Class.{Class}
use Rattle.scanner.specs.declared.Class.TheVariants.{Atom, Quoted, At, LessThan, GreaterThan, Comma, Semicolon, Colon, Stray, Dot, Literal}
use Rattle.scanner.specs.declared.ByteKind.{ByteKind}
use Rattle.scanner.specs.declared.ByteKind.TheVariants.{White, Control, Return, Plain, Open, Close, Quote, Backslash, Mark, Above, OpenBracket, CloseBracket}
use Rattle.scanner.specs.declared.Category.{Category}
use Rattle.scanner.specs.declared.Category.TheVariants as category

-- ---- in a symbol

-- "@" is a mark, and the atom "at", in any case of letters, is "at"
abbrev pub of_at : List ℕ → Category
of_at meaning = pick (same_letters meaning (bytes "at")) category.At category.Mark

-- what each byte of a symbol is, its quotes and the folds in it too; a symbol that fits no rule is nothing of these; dots and domain literals are symbols of RFC 822 alone
abbrev pub of_symbol : Class → List ℕ → Category
of_symbol Atom meaning = category.Word
of_symbol Quoted meaning = category.Word
of_symbol At meaning = of_at meaning
of_symbol LessThan meaning = category.Mark
of_symbol GreaterThan meaning = category.Mark
of_symbol Comma meaning = category.Mark
of_symbol Semicolon meaning = category.Mark
of_symbol Colon meaning = category.Mark
of_symbol Stray meaning = category.Nothing
of_symbol Dot meaning = category.Mark
of_symbol Literal meaning = category.Mark

-- ---- between symbols

-- a byte of a kind outside of words and comments: white space, or the "(" of a comment; any other begins a symbol or is a fault
abbrev pub taken_outside : ByteKind → Category
taken_outside White = category.White
taken_outside Control = category.Nothing
taken_outside Return = category.Nothing
taken_outside Plain = category.Nothing
taken_outside Open = category.Comment
taken_outside Close = category.Nothing
taken_outside Quote = category.Nothing
taken_outside Backslash = category.Nothing
taken_outside (Mark class) = category.Nothing
taken_outside Above = category.Nothing
taken_outside OpenBracket = category.Nothing
taken_outside CloseBracket = category.Nothing

-- a byte of a kind, by the state in which scanning takes it: in a comment it is comment; a word or literal does not lie between symbols
abbrev pub taken_in : State → ByteKind → Category
taken_in outside kind = taken_outside kind
taken_in (in_atom start end t) kind = category.Nothing
taken_in (in_quoted start t) kind = category.Nothing
taken_in (taking_in_quoted start t) kind = category.Nothing
taken_in (in_literal start) kind = category.Nothing
taken_in (taking_in_literal start) kind = category.Nothing
taken_in (in_comment depth start) kind = category.Comment
taken_in (taking_in_comment depth start) kind = category.Comment

-- what else, from the state that a move leads to; a word, a literal, another symbol or a fault ends what lies between symbols
abbrev pub behind : Move → (State → Category) → Category
behind (go [] outside) rest = rest outside
behind (go [] (in_atom start end t)) rest = category.Nothing
behind (go [] (in_quoted start t)) rest = category.Nothing
behind (go [] (taking_in_quoted start t)) rest = category.Nothing
behind (go [] (in_literal start)) rest = category.Nothing
behind (go [] (taking_in_literal start)) rest = category.Nothing
behind (go [] (in_comment depth start)) rest = rest (in_comment depth start)
behind (go [] (taking_in_comment depth start)) rest = rest (taking_in_comment depth start)
behind (go (x ∷ symbols) state) rest = category.Nothing
behind (halt symbols number p) rest = category.Nothing

-- the byte at a place, of these characters: the first character at or after it tells, for the CRLF of a fold is with its white space
unfoldable pub between : List ℕ → ℕ → List Character → State → Category
between classes place [] state = category.Nothing
between classes place (character b p folded ∷ rest) state =
    elim (ltb p place) [
      | true ↦ behind (move state (character_kind classes b folded) b p folded) (λ state'. between classes place rest state')
      | false ↦ taken_in state (character_kind classes b folded)
    ]

-- ---- in a text

-- the byte at a place of a text that scans so from a position on: the symbol in which it lies tells, or else what lies between the symbols around it
unfoldable pub category_of : List ℕ → List ℕ → ℕ → ℕ → Scanned → Category
category_of classes text place at ended = between classes place (characters_at text at) outside
category_of classes text place at (next x rest) =
    elim (ltb place x.lexeme.start) [
      | true ↦ between classes place (characters_at text at) outside
      | false ↦ elim (ltb place x.lexeme.end) [ true ↦ of_symbol x.class x.lexeme.meaning | false ↦ category_of classes text place x.lexeme.end rest ]
    ]
category_of classes text place at (fault_at number p) = category.Nothing

-- a byte of a body that is refused, whatever the number and position
abbrev pub of_refused : ℕ → ℕ → Category
of_refused number p = category.Nothing

-- the byte at a place of a message, in the body from `start` up to `end`; nothing where there is no such body, it has a fault, or the place is outside it
abbrev pub category_at : List ℕ → ℕ → ℕ → ℕ → Category
category_at message start end place =
    let text = take end message in
    body_checked of_refused message start end
    (unless_fault of_refused (scan text start)
    (pick (both (leb start place) (ltb place end)) (category_of class_table text place start (scan text start)) category.Nothing))

-- ---- of every byte

-- told: one of the five
abbrev pub Told : Category → Type 0
Told category.White = Unit {0}
Told category.Comment = Unit {0}
Told category.Word = Unit {0}
Told category.At = Unit {0}
Told category.Mark = Unit {0}
Told category.Nothing = ⊥

-- a place lies in one of these symbols that fits no rule
pub data InStray (place : ℕ) : List (Symbol Class) → Type 0 where
  here : {x : Symbol Class} {rest : List (Symbol Class)} → x.class ≡ Stray → x.lexeme.start ≤ place → place < x.lexeme.end → InStray place (x ∷ rest)
  further : {x : Symbol Class} {rest : List (Symbol Class)} → InStray place rest → InStray place (x ∷ rest)

-- of a body that passes the checks and scans without fault, each byte is told that lies in no such symbol
abbrev pub ToldUnlessStray : List ℕ → ℕ → ℕ → Type 0
ToldUnlessStray message start end =
    body_scanned message start end ≡ Accepted 0 → (place : ℕ) → start ≤ place → place < end
    → (InStray place (symbols_of (scan (take end message) start)) → ⊥) → Told (category_at message start end place)
