-- Document 02, CR 14: "Two accepted bodies have the same plain text exactly if they have the same addresses:
-- kinds, nesting, names and nodes word by word by their meaning, case counting."
use Rattle.std.specs.Prelude.{ℕ, ◌≤◌, ◌≡◌, List, ◌↔◌, length, take}
use Rattle.octets.specs.Believed.Answers.{count_of}
use Rattle.grammar.specs.Believed.Rfc733.{Derivation}
use Rattle.addresses.specs.Believed.Outcome.{Outcome}
use Rattle.plain.specs.Believed.Meaning.{Word, atom, quoted_string, Words, no_word, and_word, Addresses, no_address, and_address, Address, address, meaning}
use Rattle.plain.specs.Believed.PlainText.{plain_text}
use Rattle.plain.specs.Believed.RoundTrip.{AcceptedBody}
use Rattle.plain.specs.Believed.Written.{plain_outcome}

-- ---- the same addresses

-- the same word: both atoms or both quoted-strings, with the same meaning byte for byte, so that case counts
abbrev pub SameWord : Word → Word → Type 0
SameWord (atom one) (atom other) = one ≡ other
SameWord (atom one) (quoted_string other) = ⊥
SameWord (quoted_string one) (atom other) = ⊥
SameWord (quoted_string one) (quoted_string other) = one ≡ other

-- word by word
abbrev pub SameWords : Words → Words → Type 0
SameWords no_word no_word = Unit {0}
SameWords no_word (and_word others other) = ⊥
SameWords (and_word ones one) no_word = ⊥
SameWords (and_word ones one) (and_word others other) = SameWords ones others × SameWord one other

abbrev mutual
  -- one address after the other
  pub SameList : Addresses → Addresses → Type 0
  SameList no_address no_address = Unit {0}
  SameList no_address (and_address others other) = ⊥
  SameList (and_address ones one) no_address = ⊥
  SameList (and_address ones one) (and_address others other) = SameList ones others × SameAddress one other

  -- kinds, names, nodes, and what lies in them
  pub SameAddress : Address → Address → Type 0
  SameAddress (address kind name nodes members) (address kind' name' nodes' members') =
      (kind ≡ kind') × SameWords name name' × SameWords nodes nodes' × SameList members members'

-- ---- equal cards mean equal addresses

-- of two accepted bodies, of any two messages
abbrev pub EqualTextsMeanEqualAddresses : Type 0
EqualTextsMeanEqualAddresses =
    (message other : List ℕ) (start end start' end' : ℕ) (k j : Derivation) → AcceptedBody message start end k → AcceptedBody other start' end' j
    → (plain_text k ≡ plain_text j) ↔ SameList (meaning k) (meaning j)

-- a card: what the writer leaves in a lent text, up to its count
abbrev pub card : Outcome → List ℕ
card outcome = take (count_of outcome.answer) outcome.table

-- the same of what the writer leaves in two lent texts with room enough
abbrev pub EqualCardsMeanEqualAddresses : Type 0
EqualCardsMeanEqualAddresses =
    (message other : List ℕ) (start end start' end' : ℕ) (k j : Derivation) → AcceptedBody message start end k → AcceptedBody other start' end' j
    → (lent lent' : List ℕ) → length (plain_text k) ≤ length lent → length (plain_text j) ≤ length lent'
    → (card (plain_outcome message start end lent) ≡ card (plain_outcome other start' end' lent')) ↔ SameList (meaning k) (meaning j)
