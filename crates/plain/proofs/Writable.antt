-- The meanings that a plain text can hold, and the symbols that it is to have, places aside. Assumes nothing.
use Prim.Native.Nat.{ℕ}
use mathlib.Core.Path.{◌≡◌}
use mathlib.Core.Bool.{false}
use mathlib.Core.List.{List, [], ◌∷◌}
use Rattle.octets.specs.Believed.Choice.{pick}
use Rattle.octets.specs.Believed.Letters.{same_letters}
use Rattle.octets.specs.Believed.Text.{bytes}
use Rattle.grammar.specs.Believed.Rfc733.{kind_number}
use Rattle.grammar.specs.Believed.Rfc733 as rfc733
use Rattle.grammar.specs.Executable.Trees733.{Class, Atom, Quoted, At, LessThan, GreaterThan, Comma, Semicolon, Colon, Sym}
use Rattle.plain.specs.Believed.Meaning.{Word, atom, quoted_string, Words, no_word, and_word, Addresses, no_address, and_address, Address, address}
use Rattle.plain.specs.Believed.PlainText.{first_atom_group}
use Rattle.plain.proofs.ByteKinds.{IsPlain, IsDatum}
use Rattle.plain.proofs.TreeMeanings.{typed_meaning}

-- ---- words

abbrev pub Each : (ℕ → Type 0) → List ℕ → Type 0
Each P [] = Unit {0}
Each P (b ∷ bs) = P b × Each P bs

-- an atom that is not "at"
abbrev pub WritableAtom : List ℕ → Type 0
WritableAtom [] = ⊥
WritableAtom (b ∷ bs) = IsPlain b × Each IsPlain bs × (same_letters (b ∷ bs) (bytes "at") ≡ false)

abbrev pub WritableWord : Word → Type 0
WritableWord (atom letters) = WritableAtom letters
WritableWord (quoted_string content) = Each IsDatum content

abbrev pub WritableWords : Words → Type 0
WritableWords no_word = Unit {0}
WritableWords (and_word before w) = WritableWords before × WritableWord w

-- one or more words
abbrev pub WritablePhrase : Words → Type 0
WritablePhrase no_word = ⊥
WritablePhrase (and_word before w) = WritableWords before × WritableWord w

-- ---- addresses

mutual
  pub data WritableList : Type 0 where
    empty : WritableList
    also : WritableList → WritableAddress → WritableList

  pub data WritableAddress : Type 0 where
    mailbox : (name nodes : Words) → WritablePhrase name → WritablePhrase nodes → WritableAddress
    angle : (name : Words) → WritableWords name → WritableList → WritableAddress
    group : (name : Words) → WritableWords name → WritableList → WritableAddress
    quoted : (content : List ℕ) → Each IsDatum content → WritableAddress
    typed : (letters : List ℕ) → WritableAtom letters → WritableAddress → WritableAddress

-- the meanings that they are
abbrev mutual
  pub list_of : WritableList → Addresses
  list_of empty = no_address
  list_of (also l a) = and_address (list_of l) (address_of a)

  pub address_of : WritableAddress → Address
  address_of (mailbox name nodes w v) = address (kind_number rfc733.mailbox) name nodes no_address
  address_of (angle name w l) = address (kind_number rfc733.angle_list) name no_word (list_of l)
  address_of (group name w l) = address (kind_number rfc733.group) name no_word (list_of l)
  address_of (quoted content w) = address (kind_number rfc733.quoted) (and_word no_word (quoted_string content)) no_word no_address
  address_of (typed letters w a) = typed_meaning letters (address_of a)

-- ---- symbols without places

pub data Mark : Type 0 where
  mark : Class → List ℕ → Mark

abbrev pub marks : List Sym → List Mark
marks [] = []
marks (x ∷ xs) = mark x.class x.lexeme.meaning ∷ marks xs

-- ---- the marks of a meaning, before others

abbrev pub word_marks : Word → List Mark → List Mark
word_marks (atom letters) ms = mark Atom letters ∷ ms
word_marks (quoted_string content) ms = mark Quoted content ∷ ms

abbrev pub phrase_marks : Words → List Mark → List Mark
phrase_marks no_word ms = ms
phrase_marks (and_word before w) ms = phrase_marks before (word_marks w ms)

abbrev pub at_mark : Mark
at_mark = mark At (bytes "at")

abbrev pub nodes_marks : Words → List Mark → List Mark
nodes_marks no_word ms = ms
nodes_marks (and_word before w) ms = nodes_marks before (at_mark ∷ word_marks w ms)

abbrev pub comma_mark : Mark
comma_mark = mark Comma (bytes ",")

abbrev pub comma_marks : Addresses → List Mark → List Mark
comma_marks no_address ms = ms
comma_marks (and_address before last) ms = comma_mark ∷ ms

-- the comma of a nameless group
abbrev pub gap_marks : Words → Addresses → List Mark → List Mark
gap_marks name no_address ms = ms
gap_marks no_word (and_address before last) ms = pick (first_atom_group (and_address before last)) (comma_mark ∷ ms) ms
gap_marks (and_word words w) (and_address before last) ms = ms

abbrev mutual
  pub list_marks : WritableList → List Mark → List Mark
  list_marks empty ms = ms
  list_marks (also l a) ms = list_marks l (comma_marks (list_of l) (address_marks a ms))

  pub address_marks : WritableAddress → List Mark → List Mark
  address_marks (mailbox name nodes w v) ms = phrase_marks name (nodes_marks nodes ms)
  address_marks (angle name w l) ms = phrase_marks name (mark LessThan (bytes "<") ∷ list_marks l (mark GreaterThan (bytes ">") ∷ ms))
  address_marks (group name w l) ms = phrase_marks name (mark Colon (bytes ":") ∷ gap_marks name (list_of l) (list_marks l (mark Semicolon (bytes ";") ∷ ms)))
  address_marks (quoted content w) ms = mark Quoted content ∷ ms
  address_marks (typed letters w a) ms = mark Colon (bytes ":") ∷ mark Atom letters ∷ mark Colon (bytes ":") ∷ address_marks a ms
