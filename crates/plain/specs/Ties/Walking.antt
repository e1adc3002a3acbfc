-- The plain text by one walk over symbols, of any symbols. Nothing here needs to be believed: it is proved to be the plain text.
use Rattle.std.specs.Prelude.{ℕ, Bool, false, List, [], ◌∷◌, ◌++◌}
use Rattle.octets.specs.Believed.Choice.{pick}
use Rattle.octets.specs.Believed.Text.{bytes}
use Rattle.scanner.specs.Believed.Symbols.{Symbol}
use Rattle.scanner.specs.Believed.Scanning.{symbols_of, scan_by}
use Rattle.scanner.specs.declared.Class.{Class}
use Rattle.scanner.specs.declared.Class.TheVariants.{Atom, Quoted, At, LessThan, GreaterThan, Comma, Semicolon, Colon, Stray, Dot, Literal}
use Rattle.grammar.specs.Believed.Rfc733.{same_class}
use Rattle.plain.specs.Believed.PlainText.{quoted_text}
use Rattle.plain.specs.declared.places.Place.{Place}
use Rattle.plain.specs.declared.places.Place.TheVariants.{Start, Bare, BareComma, Named, Typing, Word, Node, Closed, Parted}
use Rattle.plain.specs.declared.places.Gap.{Gap}
use Rattle.plain.specs.declared.places.Gap.TheVariants.{Nothing, Space, CommaSpace}

abbrev pub gap_text : Gap → List ℕ → List ℕ
gap_text Nothing rest = rest
gap_text Space rest = bytes " " ++ rest
gap_text CommaSpace rest = bytes ", " ++ rest

-- what stands before a word or "<"; `colon`: the word is an atom and ":" comes next
abbrev pub gap_before : Place → Bool → Gap
gap_before Start colon = Nothing
gap_before Bare colon = pick colon Nothing Space
gap_before BareComma colon = pick colon CommaSpace Space
gap_before Named colon = Space
gap_before Typing colon = Nothing
gap_before Word colon = Space
gap_before Node colon = Space
gap_before Closed colon = Nothing
gap_before Parted colon = CommaSpace

-- what stands before ":"
abbrev pub gap_before_colon : Place → Gap
gap_before_colon Start = Nothing
gap_before_colon Bare = Space
gap_before_colon BareComma = Space
gap_before_colon Named = Space
gap_before_colon Typing = Nothing
gap_before_colon Word = Nothing
gap_before_colon Node = Nothing
gap_before_colon Closed = Nothing
gap_before_colon Parted = CommaSpace

abbrev pub after_atom : Place → Bool → Place
after_atom Start colon = Word
after_atom Bare colon = pick colon Typing Word
after_atom BareComma colon = Word
after_atom Named colon = Word
after_atom Typing colon = Word
after_atom Word colon = Word
after_atom Node colon = Word
after_atom Closed colon = Word
after_atom Parted colon = Word

abbrev pub after_colon : Place → Place
after_colon Start = Bare
after_colon Bare = Bare
after_colon BareComma = Bare
after_colon Named = Bare
after_colon Typing = Named
after_colon Word = Named
after_colon Node = Bare
after_colon Closed = Bare
after_colon Parted = Bare

abbrev pub after_comma : Place → Place
after_comma Start = Start
after_comma Bare = BareComma
after_comma BareComma = BareComma
after_comma Named = Named
after_comma Typing = Parted
after_comma Word = Parted
after_comma Node = Parted
after_comma Closed = Parted
after_comma Parted = Parted

-- a symbol with what stands before it; RFC 733 has no dot and no domain literal
abbrev pub symbol_text : Class → List ℕ → Place → Bool → List ℕ → List ℕ
symbol_text Atom meaning place colon rest = gap_text (gap_before place colon) (meaning ++ rest)
symbol_text Quoted meaning place colon rest = gap_text (gap_before place false) (quoted_text meaning rest)
symbol_text At meaning place colon rest = bytes " at" ++ rest
symbol_text LessThan meaning place colon rest = gap_text (gap_before place false) (bytes "<" ++ rest)
symbol_text GreaterThan meaning place colon rest = bytes ">" ++ rest
symbol_text Comma meaning place colon rest = rest
symbol_text Semicolon meaning place colon rest = bytes ";" ++ rest
symbol_text Colon meaning place colon rest = gap_text (gap_before_colon place) (bytes ":" ++ rest)
symbol_text Stray meaning place colon rest = rest
symbol_text Dot meaning place colon rest = rest
symbol_text Literal meaning place colon rest = rest

-- the place after a symbol
abbrev pub after : Class → Place → Bool → Place
after Atom place colon = after_atom place colon
after Quoted place colon = Word
after At place colon = Node
after LessThan place colon = Start
after GreaterThan place colon = Closed
after Comma place colon = after_comma place
after Semicolon place colon = Closed
after Colon place colon = after_colon place
after Stray place colon = place
after Dot place colon = place
after Literal place colon = place

-- ":" comes next
abbrev pub colon_next : List (Symbol Class) → Bool
colon_next [] = false
colon_next (x ∷ xs) = same_class Colon x.class

-- the text of symbols from a place on
abbrev pub walk_text : Place → List (Symbol Class) → List ℕ
walk_text place [] = []
walk_text place (x ∷ xs) =
    symbol_text x.class x.lexeme.meaning place (colon_next xs) (walk_text (after x.class place (colon_next xs)) xs)

-- what the walk writes of a text from a position on, by a table of classes
abbrev pub text_from : List ℕ → List ℕ → Place → ℕ → List ℕ
text_from classes text place at = walk_text place (symbols_of (scan_by classes text at))

-- .. from the start of a body on
abbrev pub written_text : List ℕ → List ℕ → ℕ → List ℕ
written_text classes text start = text_from classes text Start start
