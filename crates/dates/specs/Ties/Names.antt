-- What is found among names.
use Rattle.std.specs.Prelude.{ℕ, List, ℤ, pos, ltb, length, get_or, Option, Some, None}
use Rattle.octets.specs.Believed.Choice.{pick}
use Rattle.dates.specs.Believed.Names.{place}

-- the place of a name among these, if it is one of them
abbrev pub place_in : List (List ℕ) → List ℕ → Option ℕ
place_in names name = pick (ltb (place names name) (length names)) (Some (place names name)) None

-- the zone of a name, if it is one of these
abbrev pub minutes_in : List (List ℕ) → List ℤ → List ℕ → Option ℤ
minutes_in names minutes name = pick (ltb (place names name) (length names)) (Some (get_or minutes (place names name) (pos 0))) None
