-- Condition 2: what an address list means, its addresses, nesting, words and nodes. Places, commas and comments are gone.
use Rattle.std.specs.Prelude.{ℕ, ◌≡◌, List, [], ◌∷◌, eqb}
use Rattle.std.proofs.Math.Option.{none, some}
use Rattle.octets.specs.Believed.Choice.{pick}
use Rattle.scanner.specs.Believed.Symbols.{Symbol}
use Rattle.scanner.specs.declared.Class.{Class}
use Rattle.scanner.specs.declared.Class.TheVariants.{Atom, Quoted}
use Rattle.grammar.specs.Believed.Grammar.{Makes, nil, leaf, branch}
use Rattle.grammar.specs.Believed.Records.{meaning_of, part_of, name_of}
use Rattle.grammar.specs.Believed.Rfc733.{same_class, Derivation, kind_number, mailbox}

-- a word by its meaning: an atom and a quoted-string are never the same word
pub data Word : Type 0 where
  atom quoted_string : List ℕ → Word

-- words in order: none, or words and one more
pub data Words : Type 0 where
  no_word : Words
  and_word : Words → Word → Words

mutual
  -- addresses in order: none, or addresses and one more
  pub data Addresses : Type 0 where
    no_address : Addresses
    and_address : Addresses → Address → Addresses

  -- an address: its kind, the words of its name, its nodes, and the addresses that lie directly in it
  pub data Address : Type 0 where
    address : ℕ → Words → Words → Addresses → Address

-- ---- words

-- words, and then a symbol if it is one
abbrev pub and_symbol : Words → Class → List ℕ → Words
and_symbol before class meaning = pick (same_class Atom class) (and_word before (atom meaning)) (pick (same_class Quoted class) (and_word before (quoted_string meaning)) before)

-- words, and then those among symbols
abbrev pub words_after : Words → List (Symbol Class) → Words
words_after before [] = before
words_after before (x ∷ xs) = words_after (and_symbol before x.class x.lexeme.meaning) xs

-- the words among symbols
abbrev pub words_of : List (Symbol Class) → Words
words_of xs = words_after no_word xs

-- ---- addresses

-- the nodes of a mailbox are the words of its second part; no other kind has nodes
abbrev pub nodes_of : ℕ → Derivation → Words
nodes_of kind parts = pick (eqb kind (kind_number mailbox)) (words_of (part_of 1 parts)) no_word

-- the meaning of an address with these parts and these addresses in it; its kind and its name are those of its record
abbrev pub address_of : Makes → Derivation → Addresses → Address
address_of makes parts members =
    let name = name_of makes.name parts in
    let kind = makes.kind (meaning_of name) in
    address kind (words_of name) (nodes_of kind parts) members

-- addresses, and then those of a forest; what is part of an address lies in it
abbrev pub addresses_after : Addresses → Derivation → Addresses
addresses_after before nil = before
addresses_after before (leaf x forest) = addresses_after before forest
addresses_after before (branch rule parts forest) =
    addresses_after
    (elim rule.makes [
      | none ↦ addresses_after before parts
      | some makes ↦ and_address before (address_of makes parts (addresses_after no_address parts))
    ])
    forest

-- the meaning of a derivation
abbrev pub meaning : Derivation → Addresses
meaning derivation = addresses_after no_address derivation

-- two derivations have the same addresses, nesting, words and nodes
abbrev pub SameAddresses : Derivation → Derivation → Type 0
SameAddresses one other = meaning one ≡ meaning other
