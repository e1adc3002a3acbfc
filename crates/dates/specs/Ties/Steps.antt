-- What the functions below the entry point answer.
use Rattle.std.specs.Prelude.{◌≡◌, ℕ, suc, ◌+◌, ◌≤◌, Bool, true, false, List, [], ◌∷◌, ◌++◌, eqb, length, Option, Some, None}
use Rattle.std.specs.Borrow.{Bor}
use Rattle.octets.specs.Believed.Choice.{pick}
use Rattle.octets.specs.Believed.Classes.{letter, digit}
use Rattle.octets.specs.Believed.Octets.{plus_byte, comma_byte, minus_byte, colon_byte}
use Rattle.octets.specs.Believed.Text.{part}
use Rattle.scanner.specs.Believed.Scanning.{scan_by}
use Rattle.dates.specs.Believed.Parts.{Part, other_part, no_part, key_of, runs, parts}
use Rattle.dates.specs.Executable.Form.{first_key, first_bytes, after}
use Rattle.dates.specs.declared.parts.Key.{Key}
use Rattle.dates.specs.declared.parts.Key.TheVariants.{Digits, Letters, Comma, Colon, Plus, Minus, Other, End}
use Rattle.dates.specs.declared.parts.Token.{Token}

-- a key's number
abbrev pub key_number : Key → ℕ
key_number Digits = digit
key_number Letters = letter
key_number Comma = comma_byte
key_number Colon = colon_byte
key_number Plus = plus_byte
key_number Minus = minus_byte
key_number Other = other_part
key_number End = no_part

-- a spot in a text: the rest of a symbol, up to its end
pub record Within (text : List ℕ) (at end : ℕ) : Type 0 where
  pub order : at ≤ end
  pub inside : end ≤ length text

-- the parts from there on
unfoldable pub left : List ℕ → List ℕ → ℕ → ℕ → List Part
left classes text at end = runs classes (part text at end) ++ parts classes (scan_by classes text end)

-- how many bytes at the front have a key
unfoldable pub span : List ℕ → ℕ → List ℕ → ℕ
span classes key [] = 0
span classes key (b ∷ rest) = pick (eqb (key_of classes b) key) (suc (span classes key rest)) 0

pub record RunEnds (classes text : List ℕ) (at end key stop : ℕ) : Type 0 where
  pub is : stop ≡ at + span classes key (part text at end)
  pub from : at ≤ stop
  pub within : stop ≤ end

-- a part of no bytes
abbrev pub token_at : Key → ℕ → Token
token_at key at = record { key = key; start = at; stop = at; end = at }

pub record TokenIs (classes text : List ℕ) (l : List Part) (t : Token) : Type 0 where
  pub key_is : first_key l ≡ key_number t.key
  pub bytes_are : first_bytes l ≡ part text t.start t.stop
  pub rest_is : after l ≡ left classes text t.stop t.end
  pub last : key_number t.key ≡ no_part → l ≡ []
  pub order : t.start ≤ t.stop
  pub spot : Within text t.stop t.end

-- the parts from the one ahead on
unfoldable pub held : List ℕ → List ℕ → Token → List Part
held classes text t =
    pick (eqb (key_number t.key) no_part) []
    (record { key = key_number t.key; bytes = part text t.start t.stop } ∷ left classes text t.stop t.end)

-- past a mark, or before what is no mark
pub record PastIs (l : List Part) (mark : ℕ) (next : List Part) (r : Bool) : Type 0 where
  pub is : r ≡ eqb (first_key l) mark
  pub next_is : next ≡ pick r (after l) l

-- the bytes of the first part, if it is of a key
abbrev pub RunIs : List Part → ℕ → Option (Bor (List ℕ)) → Type 0
RunIs l key None = eqb (first_key l) key ≡ false
RunIs l key (Some bytes) = (eqb (first_key l) key ≡ true) × (bytes.now ≡ first_bytes l)

-- what is read, with the parts after it; or nothing
abbrev pub Reads : {A : Type 0} → Option (A × List Part) → Option A → List Part → Type 0
Reads x None next = x ≡ None
Reads x (Some a) next = x ≡ Some (a, next)

-- the same of a reader that reads nothing where it is not right
abbrev pub ReadsOrStays : {A : Type 0} → Option (A × List Part) → List Part → Option A → List Part → Type 0
ReadsOrStays x l None next = (x ≡ None) × (next ≡ l)
ReadsOrStays x l (Some a) next = x ≡ Some (a, next)
