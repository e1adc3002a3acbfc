-- What a cursor tells.
use Rattle.std.specs.Prelude.{◌≡◌, ℕ, Bool, List, ltb}
use Rattle.scanner.specs.Believed.Scanning.{parted}
use Rattle.scanner.specs.Believed.Answers.{found_at, next_of}
use Rattle.scanner.specs.Ties.Steps.{outside_at}
use Rattle.scanner.specs.declared.ByteKind.{ByteKind}
use Rattle.scanner.specs.declared.ByteKind.TheVariants.{White, Control, Return, Plain, Open, Close, Quote, Backslash, Mark, Above, OpenBracket, CloseBracket}
use Rattle.scanner.specs.declared.Class.{Class}
use Rattle.scanner.specs.declared.Class.TheVariants.{Stray}
use Rattle.scanner.specs.declared.Next.{Next}
use Rattle.scanner.specs.declared.Next.TheVariants.{Found, Ended, Fault}
use Rattle.scanner.specs.declared.cursor.Ahead.{Ahead}
use Rattle.scanner.specs.declared.cursor.Ahead.TheVariants.{Symbol, End, Faulty}
use Rattle.scanner.specs.declared.cursor.Cursor.{Cursor}

-- the class of the symbol that a byte of a kind is by itself
abbrev pub IsSingle : ByteKind → Class → Type 0
IsSingle White class = ⊥
IsSingle Control class = ⊥
IsSingle Return class = ⊥
IsSingle Plain class = ⊥
IsSingle Open class = ⊥
IsSingle Close class = class ≡ Stray
IsSingle Quote class = ⊥
IsSingle Backslash class = class ≡ Stray
IsSingle (Mark mark) class = class ≡ mark
IsSingle Above class = ⊥
IsSingle OpenBracket class = ⊥
IsSingle CloseBracket class = class ≡ Stray

abbrev pub next_from : Ahead → ℕ → ℕ → ℕ → Bool → Next
next_from (Symbol class) start end size apart = found_at class start end size apart
next_from End start end size apart = Ended
next_from (Faulty number) start end size apart = Fault number start

-- the symbol ahead of a cursor stands apart where it starts after the position from which it was looked for
abbrev pub apart_in : Cursor → Bool
apart_in cursor = ltb cursor.from cursor.start

-- what a cursor tells of the symbol ahead
unfoldable pub next_in : Cursor → Next
next_in cursor = next_from cursor.ahead cursor.start cursor.end cursor.length (apart_in cursor)

-- what comes next at or after a position of a text, if it is looked for from another
abbrev pub comes_at : List ℕ → List ℕ → ℕ → ℕ → Next
comes_at classes text from at = next_of (parted from (outside_at classes text at))

-- a cursor that is to look from a position on
abbrev pub cursor_at : ℕ → Cursor
cursor_at at = record { ahead = End; start = at; end = at; length = 0; from = at }

-- a cursor ahead of which no symbol stands: the places of one are 0
abbrev pub without_symbol : Ahead → ℕ → ℕ → Cursor
without_symbol ahead start from = record { ahead = ahead; start = start; end = 0; length = 0; from = from }

-- a cursor that has moved on to what comes next, looked for from a position
abbrev pub moved : Next → ℕ → Cursor
moved (Found symbol) from = record { ahead = Symbol symbol.class; start = symbol.start; end = symbol.end; length = symbol.length; from = from }
moved Ended from = without_symbol End 0 from
moved (Fault number p) from = without_symbol (Faulty number) p from
