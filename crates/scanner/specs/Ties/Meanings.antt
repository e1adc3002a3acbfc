-- The meaning of a symbol by its place in a text. Nothing here needs to be believed: that it is the meaning which scanning gives is a law.
use Rattle.std.specs.Prelude.{Bool, List, [], ◌∷◌, ◌++◌, ℕ, ◌+◌, Option, None, Some}
use Rattle.octets.specs.Believed.Choice.{pick}
use Rattle.octets.specs.Believed.Text.{part}
use Rattle.scanner.specs.Believed.Kinds.{character_kind}
use Rattle.scanner.specs.Believed.Characters.{Character, character, characters_at}
use Rattle.scanner.specs.Believed.Scanning.{taken_data}
use Rattle.scanner.specs.declared.Class.{Class}
use Rattle.scanner.specs.declared.Class.TheVariants.{Atom, Quoted, At, LessThan, GreaterThan, Comma, Semicolon, Colon, Stray, Dot, Literal}
use Rattle.scanner.specs.declared.Datum.{Datum}
use Rattle.scanner.specs.declared.Datum.TheVariants.{Byte, LineEnd}
use Rattle.scanner.specs.declared.ByteKind.{ByteKind}
use Rattle.scanner.specs.declared.ByteKind.TheVariants.{White, Control, Return, Plain, Open, Close, Quote, Backslash, Mark, Above, OpenBracket, CloseBracket}

-- where a walk through a quoted-string stands: inside it, after a backslash, or after its closing quote
pub data Walk : Type 0 where
  inside taking over : Walk

-- the data of a character
abbrev pub data_of : Walk → ByteKind → ℕ → Bool → List ℕ
data_of taking kind b folded = taken_data b folded
data_of over kind b folded = []
data_of inside White b folded = b ∷ []
data_of inside Control b folded = b ∷ []
data_of inside Return b folded = b ∷ []
data_of inside Plain b folded = b ∷ []
data_of inside Open b folded = b ∷ []
data_of inside Close b folded = b ∷ []
data_of inside Quote b folded = []
data_of inside Backslash b folded = []
data_of inside (Mark class) b folded = b ∷ []
data_of inside Above b folded = b ∷ []
data_of inside OpenBracket b folded = b ∷ []
data_of inside CloseBracket b folded = b ∷ []

-- where the walk goes on
abbrev pub walked : Walk → ByteKind → Walk
walked taking kind = inside
walked over kind = over
walked inside White = inside
walked inside Control = inside
walked inside Return = inside
walked inside Plain = inside
walked inside Open = inside
walked inside Close = inside
walked inside Quote = over
walked inside Backslash = taking
walked inside (Mark class) = inside
walked inside Above = inside
walked inside OpenBracket = inside
walked inside CloseBracket = inside

-- the data of a quoted-string from one of its characters on
unfoldable pub data_from : List ℕ → Walk → List Character → List ℕ
data_from classes walk [] = []
data_from classes walk (character b p folded ∷ rest) =
    data_of walk (character_kind classes b folded) b folded ++ data_from classes (walked walk (character_kind classes b folded)) rest

-- the data of a quoted-string from a position inside it on
abbrev pub data_at : List ℕ → List ℕ → ℕ → List ℕ
data_at classes text at = data_from classes inside (characters_at text at)

-- what a backslash takes, by the character after it
abbrev pub taken_datum : List Character → Option Datum
taken_datum [] = None
taken_datum (character b p folded ∷ rest) = Some (pick folded (LineEnd b (p + 1)) (Byte b (p + 1)))

-- the first of the data of a character, which stand up to a position; where there are none, it is a backslash or the closing quote
abbrev pub first_or : List ℕ → ℕ → Walk → List Character → Option Datum
first_or (b ∷ more) end walk rest = Some (Byte b end)
first_or [] end taking rest = taken_datum rest
first_or [] end inside rest = None
first_or [] end over rest = None

-- the next of the data from one of its characters on
unfoldable pub datum_from : List ℕ → List Character → Option Datum
datum_from classes [] = None
datum_from classes (character b p folded ∷ rest) =
    first_or (data_of inside (character_kind classes b folded) b folded) (p + 1) (walked inside (character_kind classes b folded)) rest

-- the next of the data from a position inside it on
abbrev pub datum_at : List ℕ → List ℕ → ℕ → Option Datum
datum_at classes text at = datum_from classes (characters_at text at)

-- the meaning of a symbol that stands from `start` to `end`
abbrev pub meaning_at : List ℕ → List ℕ → Class → ℕ → ℕ → List ℕ
meaning_at classes text Atom start end = part text start end
meaning_at classes text Quoted start end = data_at classes text (start + 1)
meaning_at classes text At start end = part text start end
meaning_at classes text LessThan start end = part text start end
meaning_at classes text GreaterThan start end = part text start end
meaning_at classes text Comma start end = part text start end
meaning_at classes text Semicolon start end = part text start end
meaning_at classes text Colon start end = part text start end
meaning_at classes text Stray start end = part text start end
meaning_at classes text Dot start end = part text start end
meaning_at classes text Literal start end = []
