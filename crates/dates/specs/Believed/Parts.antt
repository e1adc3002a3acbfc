-- The parts of a date: longest runs of digits or of letters, and the marks , : + - inside the symbols of its body.
use Rattle.std.specs.Prelude.{ℕ, Bool, List, [], ◌∷◌, ◌++◌, eqb, get_or}
use Rattle.octets.specs.Believed.Choice.{pick, both, either}
use Rattle.octets.specs.Believed.Classes.{letter, digit}
use Rattle.octets.specs.Believed.Octets.{plus_byte, comma_byte, minus_byte, colon_byte}
use Rattle.scanner.specs.Believed.Scanning.{Scanned, ended, next, fault_at}
use Rattle.scanner.specs.declared.Class.{Class}
use Rattle.scanner.specs.declared.Class.TheVariants.{Atom, Quoted, At, LessThan, GreaterThan, Comma, Semicolon, Colon, Stray, Dot, Literal}

-- a part: its key and its bytes. The key is the class `letter` or `digit` of a run, a mark's own byte, or `other_part`
pub record Part : Type 0 where
  pub key : ℕ
  pub bytes : List ℕ

-- the key of what is no part of a date
abbrev pub other_part : ℕ
other_part = 0

-- the key where there is no part left
abbrev pub no_part : ℕ
no_part = 1

-- one of the marks
unfoldable pub is_mark : ℕ → Bool
is_mark b = either (eqb b comma_byte) (either (eqb b colon_byte) (either (eqb b plus_byte) (eqb b minus_byte)))

-- digits and letters form runs
unfoldable pub is_run : ℕ → Bool
is_run key = either (eqb key digit) (eqb key letter)

-- the key of a byte, by a table of classes
unfoldable pub key_of : List ℕ → ℕ → ℕ
key_of classes b = pick (is_run (get_or classes b 0)) (get_or classes b 0) (pick (is_mark b) b other_part)

-- a byte before parts: it lengthens a run of its key, or is a part by itself
abbrev pub before : ℕ → ℕ → List Part → List Part
before key b [] = record { key = key; bytes = b ∷ [] } ∷ []
before key b (p ∷ rest) =
    pick (both (is_run key) (eqb p.key key)) (record { key = key; bytes = b ∷ p.bytes } ∷ rest)
    (record { key = key; bytes = b ∷ [] } ∷ p ∷ rest)

-- the parts of the bytes of a symbol
unfoldable pub runs : List ℕ → List ℕ → List Part
runs classes [] = []
runs classes (b ∷ rest) = before (key_of classes b) b (runs classes rest)

-- the parts of a symbol: a quoted-string is no part of a date, nor is a domain literal, which RFC 733 has not
abbrev pub parts_of : List ℕ → Class → List ℕ → List Part
parts_of classes Atom meaning = runs classes meaning
parts_of classes Quoted meaning = record { key = other_part; bytes = [] } ∷ []
parts_of classes At meaning = runs classes meaning
parts_of classes LessThan meaning = runs classes meaning
parts_of classes GreaterThan meaning = runs classes meaning
parts_of classes Comma meaning = runs classes meaning
parts_of classes Semicolon meaning = runs classes meaning
parts_of classes Colon meaning = runs classes meaning
parts_of classes Stray meaning = runs classes meaning
parts_of classes Dot meaning = runs classes meaning
parts_of classes Literal meaning = record { key = other_part; bytes = [] } ∷ []

-- the parts of what a body scans to
unfoldable pub parts : List ℕ → Scanned → List Part
parts classes ended = []
parts classes (next x rest) = parts_of classes x.class x.lexeme.meaning ++ parts classes rest
parts classes (fault_at number p) = []
