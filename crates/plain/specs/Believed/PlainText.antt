-- Document 01, "Plain writing": the plain text of an address list, from its meaning. Each function puts its text before the bytes `rest`.
use Rattle.std.specs.Prelude.{ℕ, Bool, true, false, List, [], ◌∷◌, ◌++◌, eqb}
use Rattle.octets.specs.Believed.Choice.{pick, both, either}
use Rattle.octets.specs.Believed.Octets.{line_feed_byte, return_byte, quote_byte, backslash_byte}
use Rattle.octets.specs.Believed.Text.{bytes}
use Rattle.grammar.specs.Believed.Rfc733.{Derivation, kind_number, mailbox, angle_list, group, quoted}
use Rattle.plain.specs.Believed.Meaning.{Word, atom, quoted_string, Words, no_word, and_word, Addresses, no_address, and_address, Address, address, meaning}

-- ---- words

-- a backslash stands before quote, backslash, CR and LF only
abbrev pub needs_backslash : ℕ → Bool
needs_backslash b = either (eqb b quote_byte) (either (eqb b backslash_byte) (either (eqb b return_byte) (eqb b line_feed_byte)))

-- a backslash, if it is needed
abbrev pub backslash_text : Bool → List ℕ → List ℕ
backslash_text true rest = backslash_byte ∷ rest
backslash_text false rest = rest

-- the data of a quoted-string
abbrev pub data_text : List ℕ → List ℕ → List ℕ
data_text [] rest = rest
data_text (b ∷ content) rest = backslash_text (needs_backslash b) (b ∷ data_text content rest)

-- a quoted-string stays quoted
abbrev pub quoted_text : List ℕ → List ℕ → List ℕ
quoted_text content rest = bytes "\"" ++ data_text content (bytes "\"" ++ rest)

-- an atom is kept as read
abbrev pub word_text : Word → List ℕ → List ℕ
word_text (atom letters) rest = letters ++ rest
word_text (quoted_string content) rest = quoted_text content rest

-- one SPACE after words, if there are any
abbrev pub space_behind : Words → List ℕ → List ℕ
space_behind no_word rest = rest
space_behind (and_word before word) rest = bytes " " ++ rest

-- words are parted by one SPACE
abbrev pub phrase_text : Words → List ℕ → List ℕ
phrase_text no_word rest = rest
phrase_text (and_word before word) rest = phrase_text before (space_behind before (word_text word rest))

-- ` at node at node`
abbrev pub nodes_text : Words → List ℕ → List ℕ
nodes_text no_word rest = rest
nodes_text (and_word before node) rest = nodes_text before (bytes " at " ++ word_text node rest)

-- ---- nameless groups

-- a single atom
abbrev pub single_atom : Words → Bool
single_atom no_word = false
single_atom (and_word no_word (atom letters)) = true
single_atom (and_word no_word (quoted_string content)) = false
single_atom (and_word (and_word before word) other) = false

-- a group named by a single atom
abbrev pub atom_group : Address → Bool
atom_group (address kind name nodes members) = both (eqb kind (kind_number group)) (single_atom name)

-- the first address is one
abbrev pub first_atom_group : Addresses → Bool
first_atom_group no_address = false
first_atom_group (and_address no_address first) = atom_group first
first_atom_group (and_address (and_address before other) last) = first_atom_group (and_address before other)

-- after the ":" of a group with this name and these members: nothing if it is empty;
-- a comma and SPACE if it is nameless and its first member is a group named by a single atom; else SPACE
abbrev pub group_gap : Words → Addresses → List ℕ → List ℕ
group_gap name no_address rest = rest
group_gap no_word (and_address before last) rest = pick (first_atom_group (and_address before last)) (bytes ", ") (bytes " ") ++ rest
group_gap (and_word words word) (and_address before last) rest = bytes " " ++ rest

-- ---- addresses

-- comma and SPACE after addresses, if there are any
abbrev pub comma_behind : Addresses → List ℕ → List ℕ
comma_behind no_address rest = rest
comma_behind (and_address before last) rest = bytes ", " ++ rest

-- what stands of an address before its members: `phrase at node at node`, `phrase <`, `phrase:`, a quoted-string, `:Atom: `
abbrev pub opening_text : ℕ → Words → Words → Addresses → List ℕ → List ℕ
opening_text kind name nodes members rest =
    pick (eqb kind (kind_number mailbox)) (phrase_text name (nodes_text nodes rest))
    (pick (eqb kind (kind_number angle_list)) (phrase_text name (space_behind name (bytes "<" ++ rest)))
    (pick (eqb kind (kind_number group)) (phrase_text name (bytes ":" ++ group_gap name members rest))
    (pick (eqb kind (kind_number quoted)) (phrase_text name rest)
    (bytes ":" ++ phrase_text name (bytes ": " ++ rest)))))

-- what stands after them: `>`, `;` or nothing
abbrev pub closing_text : ℕ → List ℕ → List ℕ
closing_text kind rest =
    pick (eqb kind (kind_number angle_list)) (bytes ">") (pick (eqb kind (kind_number group)) (bytes ";") []) ++ rest

abbrev mutual
  -- addresses are parted by comma and SPACE
  pub addresses_text : Addresses → List ℕ → List ℕ
  addresses_text no_address rest = rest
  addresses_text (and_address before last) rest = addresses_text before (comma_behind before (address_text last rest))

  pub address_text : Address → List ℕ → List ℕ
  address_text (address kind name nodes members) rest = opening_text kind name nodes members (addresses_text members (closing_text kind rest))

-- the plain text of a derivation
abbrev pub plain_text : Derivation → List ℕ
plain_text derivation = addresses_text (meaning derivation) []
