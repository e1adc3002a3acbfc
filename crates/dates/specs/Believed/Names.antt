-- The names of days, months and zones.
use Rattle.std.specs.Prelude.{ℕ, suc, ◌+◌, ◌*◌, Bool, List, [], ◌∷◌, map, ℤ, pos, neg_ℤ, take}
use Prim.Native.String.{String}
use Rattle.octets.specs.Believed.Choice.{pick, either}
use Rattle.octets.specs.Believed.Letters.{same_letters}
use Rattle.octets.specs.Believed.Text.{bytes}

abbrev pub day_names : List (List ℕ)
day_names = map bytes ("Monday" ∷ "Tuesday" ∷ "Wednesday" ∷ "Thursday" ∷ "Friday" ∷ "Saturday" ∷ "Sunday" ∷ [])

abbrev pub month_names : List (List ℕ)
month_names =
    map bytes
    ("January" ∷ "February" ∷ "March" ∷ "April" ∷ "May" ∷ "June" ∷ "July" ∷ "August" ∷ "September" ∷ "October" ∷ "November" ∷ "December" ∷ [])

-- a name is the full one or its first three letters, in any case of letters
unfoldable pub called : List ℕ → List ℕ → Bool
called full name = either (same_letters name full) (same_letters name (take 3 full))

-- the place of the first that is called by a name, counted from 0; past the last, if none is
unfoldable pub place : List (List ℕ) → List ℕ → ℕ
place [] name = 0
place (full ∷ names) name = pick (called full name) 0 (suc (place names name))

-- local time ahead of GMT, in minutes
abbrev pub ahead : ℕ → ℕ → ℤ
ahead hours minutes = pos (hours * 60 + minutes)

-- local time behind GMT
abbrev pub behind : ℕ → ℕ → ℤ
behind hours minutes = neg_ℤ (ahead hours minutes)

-- a zone's name, and local time minus GMT in minutes
pub record Zone : Type 0 where
  pub name : String
  pub minutes : ℤ

abbrev pub zone : String → ℤ → Zone
zone name minutes = record { name = name; minutes = minutes }

-- the fixed zone table; J is no zone
abbrev pub zones : List Zone
zones =
    zone "GMT" (ahead 0 0) ∷ zone "NST" (behind 3 30)
    ∷ zone "AST" (behind 4 0) ∷ zone "EST" (behind 5 0) ∷ zone "CST" (behind 6 0) ∷ zone "MST" (behind 7 0)
    ∷ zone "PST" (behind 8 0) ∷ zone "YST" (behind 9 0) ∷ zone "HST" (behind 10 0) ∷ zone "BST" (behind 11 0)
    ∷ zone "ADT" (behind 3 0) ∷ zone "EDT" (behind 4 0) ∷ zone "CDT" (behind 5 0) ∷ zone "MDT" (behind 6 0)
    ∷ zone "PDT" (behind 7 0) ∷ zone "YDT" (behind 8 0) ∷ zone "HDT" (behind 9 0) ∷ zone "BDT" (behind 10 0)
    ∷ zone "Z" (ahead 0 0)
    ∷ zone "A" (behind 1 0) ∷ zone "B" (behind 2 0) ∷ zone "C" (behind 3 0) ∷ zone "D" (behind 4 0) ∷ zone "E" (behind 5 0)
    ∷ zone "F" (behind 6 0) ∷ zone "G" (behind 7 0) ∷ zone "H" (behind 8 0) ∷ zone "I" (behind 9 0)
    ∷ zone "K" (behind 10 0) ∷ zone "L" (behind 11 0) ∷ zone "M" (behind 12 0)
    ∷ zone "N" (ahead 1 0) ∷ zone "O" (ahead 2 0) ∷ zone "P" (ahead 3 0) ∷ zone "Q" (ahead 4 0) ∷ zone "R" (ahead 5 0) ∷ zone "S" (ahead 6 0)
    ∷ zone "T" (ahead 7 0) ∷ zone "U" (ahead 8 0) ∷ zone "V" (ahead 9 0) ∷ zone "W" (ahead 10 0) ∷ zone "X" (ahead 11 0) ∷ zone "Y" (ahead 12 0) ∷ []

abbrev pub zone_names : List (List ℕ)
zone_names = map (λ z. bytes z.name) zones

abbrev pub zone_minutes : List ℤ
zone_minutes = map (λ z. z.minutes) zones
