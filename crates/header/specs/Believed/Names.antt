-- Document 01, "Fields": the known field names; document 02, CR 5: how many of them a look-up compares.
use Rattle.std.specs.Prelude.{ℕ, Bool, true, false, List, [], ◌∷◌, eqb, length, take}
use Rattle.octets.specs.Believed.Choice.{pick, both, either}
use Rattle.octets.specs.Believed.Letters.{same_letters}
use Rattle.octets.specs.Believed.Text.{bytes}
use Rattle.header.specs.declared.names.Known.{Known}
use Rattle.header.specs.declared.names.Known.TheVariants.{Date, From, ReplyTo, To, Cc, Bcc, Other}

-- a known name and its text
pub record KnownName : Type 0 where
  pub known : Known
  pub text : List ℕ

-- the known names in their order
unfoldable pub known_names : List KnownName
known_names =
    record { known = Date; text = bytes "Date" }
    ∷ record { known = From; text = bytes "From" }
    ∷ record { known = ReplyTo; text = bytes "Reply-To" }
    ∷ record { known = To; text = bytes "To" }
    ∷ record { known = Cc; text = bytes "cc" }
    ∷ record { known = Bcc; text = bytes "Bcc" }
    ∷ []

-- the first of them that agrees, case ignored; else another name
unfoldable pub known_in : List KnownName → List ℕ → Known
known_in [] name = Other
known_in (k ∷ rest) name = pick (same_letters name k.text) k.known (known_in rest name)

-- which known name a name is
abbrev pub known_of : List ℕ → Known
known_of name = known_in known_names name

-- the last five hold address lists
abbrev pub holds_addresses : Known → Bool
holds_addresses Date = false
holds_addresses From = true
holds_addresses ReplyTo = true
holds_addresses To = true
holds_addresses Cc = true
holds_addresses Bcc = true
holds_addresses Other = false

-- the number by which C tells a known name: its place in their order, from 1; 0 for any other name
abbrev pub known_number : Known → ℕ
known_number Date = 1
known_number From = 2
known_number ReplyTo = 3
known_number To = 4
known_number Cc = 5
known_number Bcc = 6
known_number Other = 0

-- Document 02, CR 5: a name has the length of a text and, case ignored, its first letter
unfoldable pub same_length_and_first : List ℕ → List ℕ → Bool
same_length_and_first name text = both (eqb (length name) (length text)) (same_letters (take 1 name) (take 1 text))

-- one of these known names has a name's length and first letter
unfoldable pub one_has : List KnownName → List ℕ → Bool
one_has [] name = false
one_has (k ∷ rest) name = either (same_length_and_first name k.text) (one_has rest name)

-- how many known names are compared with a name letter by letter: one if one has its length and first letter, else none
abbrev pub compared_of : List ℕ → ℕ
compared_of name = pick (one_has known_names name) 1 0
