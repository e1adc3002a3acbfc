-- Scanning goes left to right over the characters, gives symbols, and stops at its first fault.
use Rattle.std.specs.Prelude.{ℕ, zero, suc, ◌+◌, Bool, false, List, [], ◌∷◌, ◌++◌, ltb}
use Rattle.octets.specs.Believed.Choice.{pick}
use Rattle.octets.specs.Believed.Classes.{class_table}
use Rattle.octets.specs.Believed.Letters.{same_letters}
use Rattle.octets.specs.Believed.Octets.{return_byte, line_feed_byte}
use Rattle.octets.specs.Believed.Numbers.{byte_above_127, quoted_not_closed, comment_not_closed, stray_control, literal_not_closed}
use Rattle.octets.specs.Believed.Text.{bytes}
use Rattle.scanner.specs.Believed.Symbols.{Symbol}
use Rattle.scanner.specs.Believed.Kinds.{character_kind}
use Rattle.scanner.specs.Believed.Characters.{Character, character, characters_at}
use Rattle.scanner.specs.declared.Class.{Class}
use Rattle.scanner.specs.declared.Class.TheVariants.{Atom, Quoted, At, Stray, Literal}
use Rattle.scanner.specs.declared.ByteKind.{ByteKind}
use Rattle.scanner.specs.declared.ByteKind.TheVariants.{White, Control, Return, Plain, Open, Close, Quote, Backslash, Mark, Above, OpenBracket, CloseBracket}

-- symbols in order, and then the end or the first fault with its number and position
pub data Scanned : Type 0 where
  ended : Scanned
  next : Symbol Class → Scanned → Scanned
  fault_at : ℕ → ℕ → Scanned

-- where scanning stands
pub data State : Type 0 where
  -- outside of words and comments
  outside : State
  -- in an atom, from its start to the position after its last byte so far, with its bytes so far
  in_atom : ℕ → ℕ → List ℕ → State
  -- in a quoted-string, from its opening quote, with its data so far; there after a backslash that takes the next byte
  in_quoted taking_in_quoted : ℕ → List ℕ → State
  -- in a domain literal, from its "["; there after a backslash that takes the next byte
  in_literal taking_in_literal : ℕ → State
  -- in a comment: how many comments lie around this one, and the outermost "("; there after a backslash that takes the next byte
  in_comment taking_in_comment : ℕ → ℕ → State

-- what a character does: it ends symbols and leads to a state, or to a fault
pub data Move : Type 0 where
  go : List (Symbol Class) → State → Move
  halt : List (Symbol Class) → ℕ → ℕ → Move

-- a symbol of a class, with its place and meaning; whether it stands apart is told by where the one before it ends (`parted`)
abbrev pub symbol : Class → ℕ → ℕ → List ℕ → Symbol Class
symbol class start end meaning = record { class = class; lexeme = record { start = start; end = end; meaning = meaning; apart = false } }

-- the class of an atom: "at", in any case of letters, is no word
abbrev pub atom_class : List ℕ → Class
atom_class meaning = pick (same_letters meaning (bytes "at")) At Atom

-- the symbol of an atom
abbrev pub atom : ℕ → ℕ → List ℕ → Symbol Class
atom start end meaning = symbol (atom_class meaning) start end meaning

-- the symbol of one byte
abbrev pub single : Class → ℕ → ℕ → Symbol Class
single class b p = symbol class p (p + 1) (b ∷ [])

-- a byte b of a kind, at a position p, outside of words and comments
abbrev pub move_outside : ByteKind → ℕ → ℕ → Move
move_outside White b p = go [] outside
move_outside Control b p = halt [] stray_control p
move_outside Return b p = halt [] stray_control p
move_outside Plain b p = go [] (in_atom p (p + 1) (b ∷ []))
move_outside Open b p = go [] (in_comment 0 p)
move_outside Close b p = go (single Stray b p ∷ []) outside
move_outside Quote b p = go [] (in_quoted p [])
move_outside Backslash b p = go (single Stray b p ∷ []) outside
move_outside (Mark class) b p = go (single class b p ∷ []) outside
move_outside Above b p = halt [] byte_above_127 p
move_outside OpenBracket b p = go [] (in_literal p)
move_outside CloseBracket b p = go (single Stray b p ∷ []) outside

-- a symbol ends before what else a character does
abbrev pub ending_with : Symbol Class → Move → Move
ending_with x (go symbols state) = go (x ∷ symbols) state
ending_with x (halt symbols number p) = halt (x ∷ symbols) number p

-- in an atom: a longest run, so any byte that is not plain ends it and then does what it does outside
abbrev pub move_in_atom : ByteKind → ℕ → ℕ → List ℕ → ℕ → ℕ → Move
move_in_atom White start end t b p = ending_with (atom start end t) (move_outside White b p)
move_in_atom Control start end t b p = ending_with (atom start end t) (move_outside Control b p)
move_in_atom Return start end t b p = ending_with (atom start end t) (move_outside Return b p)
move_in_atom Plain start end t b p = go [] (in_atom start (p + 1) (t ++ (b ∷ [])))
move_in_atom Open start end t b p = ending_with (atom start end t) (move_outside Open b p)
move_in_atom Close start end t b p = ending_with (atom start end t) (move_outside Close b p)
move_in_atom Quote start end t b p = ending_with (atom start end t) (move_outside Quote b p)
move_in_atom Backslash start end t b p = ending_with (atom start end t) (move_outside Backslash b p)
move_in_atom (Mark class) start end t b p = ending_with (atom start end t) (move_outside (Mark class) b p)
move_in_atom Above start end t b p = ending_with (atom start end t) (move_outside Above b p)
move_in_atom OpenBracket start end t b p = ending_with (atom start end t) (move_outside OpenBracket b p)
move_in_atom CloseBracket start end t b p = ending_with (atom start end t) (move_outside CloseBracket b p)

-- in a quoted-string: control bytes other than CR are data
abbrev pub move_in_quoted : ByteKind → ℕ → List ℕ → ℕ → ℕ → Move
move_in_quoted White start t b p = go [] (in_quoted start (t ++ (b ∷ [])))
move_in_quoted Control start t b p = go [] (in_quoted start (t ++ (b ∷ [])))
move_in_quoted Return start t b p = halt [] stray_control p
move_in_quoted Plain start t b p = go [] (in_quoted start (t ++ (b ∷ [])))
move_in_quoted Open start t b p = go [] (in_quoted start (t ++ (b ∷ [])))
move_in_quoted Close start t b p = go [] (in_quoted start (t ++ (b ∷ [])))
move_in_quoted Quote start t b p = go (symbol Quoted start (p + 1) t ∷ []) outside
move_in_quoted Backslash start t b p = go [] (taking_in_quoted start t)
move_in_quoted (Mark class) start t b p = go [] (in_quoted start (t ++ (b ∷ [])))
move_in_quoted Above start t b p = halt [] byte_above_127 p
move_in_quoted OpenBracket start t b p = go [] (in_quoted start (t ++ (b ∷ [])))
move_in_quoted CloseBracket start t b p = go [] (in_quoted start (t ++ (b ∷ [])))

-- in a domain literal: as in a quoted-string, but "]" closes it, and another "[" is a fault. It is no word and has no meaning
abbrev pub move_in_literal : ByteKind → ℕ → ℕ → Move
move_in_literal White start p = go [] (in_literal start)
move_in_literal Control start p = go [] (in_literal start)
move_in_literal Return start p = halt [] stray_control p
move_in_literal Plain start p = go [] (in_literal start)
move_in_literal Open start p = go [] (in_literal start)
move_in_literal Close start p = go [] (in_literal start)
move_in_literal Quote start p = go [] (in_literal start)
move_in_literal Backslash start p = go [] (taking_in_literal start)
move_in_literal (Mark class) start p = go [] (in_literal start)
move_in_literal Above start p = halt [] byte_above_127 p
move_in_literal OpenBracket start p = halt [] literal_not_closed start
move_in_literal CloseBracket start p = go (symbol Literal start (p + 1) [] ∷ []) outside

-- after the ")" of a comment that lies in `depth` others
abbrev pub closed : ℕ → ℕ → State
closed zero start = outside
closed (suc depth) start = in_comment depth start

-- in a comment: a quote is data
abbrev pub move_in_comment : ByteKind → ℕ → ℕ → ℕ → Move
move_in_comment White depth start p = go [] (in_comment depth start)
move_in_comment Control depth start p = go [] (in_comment depth start)
move_in_comment Return depth start p = halt [] stray_control p
move_in_comment Plain depth start p = go [] (in_comment depth start)
move_in_comment Open depth start p = go [] (in_comment (suc depth) start)
move_in_comment Close depth start p = go [] (closed depth start)
move_in_comment Quote depth start p = go [] (in_comment depth start)
move_in_comment Backslash depth start p = go [] (taking_in_comment depth start)
move_in_comment (Mark class) depth start p = go [] (in_comment depth start)
move_in_comment Above depth start p = halt [] byte_above_127 p
move_in_comment OpenBracket depth start p = go [] (in_comment depth start)
move_in_comment CloseBracket depth start p = go [] (in_comment depth start)

-- what a backslash takes: any byte up to 127, as data
abbrev pub take : ByteKind → State → ℕ → Move
take White state p = go [] state
take Control state p = go [] state
take Return state p = go [] state
take Plain state p = go [] state
take Open state p = go [] state
take Close state p = go [] state
take Quote state p = go [] state
take Backslash state p = go [] state
take (Mark class) state p = go [] state
take Above state p = halt [] byte_above_127 p
take OpenBracket state p = go [] state
take CloseBracket state p = go [] state

-- what comes of a backslash in a quoted-string, by the byte b after it: it takes b; or, where the CRLF of a fold stands between, it takes that, and b, white space, is data as ever
unfoldable pub taken_data : ℕ → Bool → List ℕ
taken_data b folded = pick folded (return_byte ∷ line_feed_byte ∷ b ∷ []) (b ∷ [])

-- a byte b of a kind, at a position p, in any state; folded, the CRLF of a fold stands right before it
abbrev pub move : State → ByteKind → ℕ → ℕ → Bool → Move
move outside kind b p folded = move_outside kind b p
move (in_atom start end t) kind b p folded = move_in_atom kind start end t b p
move (in_quoted start t) kind b p folded = move_in_quoted kind start t b p
move (taking_in_quoted start t) kind b p folded = take kind (in_quoted start (t ++ taken_data b folded)) p
move (in_literal start) kind b p folded = move_in_literal kind start p
move (taking_in_literal start) kind b p folded = take kind (in_literal start) p
move (in_comment depth start) kind b p folded = move_in_comment kind depth start p
move (taking_in_comment depth start) kind b p folded = take kind (in_comment depth start) p

-- the body ends: 5 and 6 arise only here
abbrev pub at_end : State → Scanned
at_end outside = ended
at_end (in_atom start end t) = next (atom start end t) ended
at_end (in_quoted start t) = fault_at quoted_not_closed start
at_end (taking_in_quoted start t) = fault_at quoted_not_closed start
at_end (in_literal start) = fault_at literal_not_closed start
at_end (taking_in_literal start) = fault_at literal_not_closed start
at_end (in_comment depth start) = fault_at comment_not_closed start
at_end (taking_in_comment depth start) = fault_at comment_not_closed start

-- symbols before what else is scanned
abbrev pub followed_by : List (Symbol Class) → Scanned → Scanned
followed_by [] rest = rest
followed_by (x ∷ symbols) rest = next x (followed_by symbols rest)

-- a move, and what is scanned from the state that it leads to
abbrev pub then : Move → (State → Scanned) → Scanned
then (go symbols state) rest = followed_by symbols (rest state)
then (halt symbols number p) rest = followed_by symbols (fault_at number p)

-- what characters scan to in a state, by a table of classes
unfoldable pub scan_from : List ℕ → List Character → State → Scanned
scan_from classes [] state = at_end state
scan_from classes (character b p folded ∷ rest) state =
    then (move state (character_kind classes b folded) b p folded) (λ state'. scan_from classes rest state')

-- a symbol, told whether it stands apart from a position: whether it starts after it
abbrev pub apart_from : ℕ → Symbol Class → Symbol Class
apart_from from x =
    record { class = x.class; lexeme = record { start = x.lexeme.start; end = x.lexeme.end; meaning = x.lexeme.meaning; apart = ltb from x.lexeme.start } }

-- each symbol stands apart from the end of the one before it, the first from where scanning began; only white space and comments can lie between
unfoldable pub parted : ℕ → Scanned → Scanned
parted from ended = ended
parted from (next x rest) = next (apart_from from x) (parted x.lexeme.end rest)
parted from (fault_at number p) = fault_at number p

-- what a text scans to from a position on, by a table of classes
abbrev pub scan_by : List ℕ → List ℕ → ℕ → Scanned
scan_by classes text at = parted at (scan_from classes (characters_at text at) outside)

-- what a text scans to from a position on
abbrev pub scan : List ℕ → ℕ → Scanned
scan text at = scan_by class_table text at

-- the symbols before the end or the fault
unfoldable pub symbols_of : Scanned → List (Symbol Class)
symbols_of ended = []
symbols_of (next x rest) = x ∷ symbols_of rest
symbols_of (fault_at number p) = []
