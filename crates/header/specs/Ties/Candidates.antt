-- The known name that a name's length and first letter leave.
use Rattle.std.specs.Prelude.{ℕ, List, [], ◌∷◌, map, Option, Some, None}
use Rattle.octets.specs.Believed.Choice.{pick}
use Rattle.octets.specs.Believed.Letters.{lower}
use Rattle.header.specs.Believed.Names.{KnownName, same_length_and_first}
use Rattle.header.specs.declared.names.Known.{Known}

-- the first of these names with a name's length and first letter
unfoldable pub candidate : List KnownName → List ℕ → Option KnownName
candidate [] name = None
candidate (k ∷ rest) name = pick (same_length_and_first name k.text) (Some k) (candidate rest name)

-- a known name, and its text in small letters
abbrev pub in_small : KnownName → Known × List ℕ
in_small k = (k.known, map lower k.text)
