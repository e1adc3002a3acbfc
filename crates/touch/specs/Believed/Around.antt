-- Document 02, CR 3: the records around a byte, "found by climbing parent by parent to the outermost".
use Rattle.std.specs.Prelude.{ℕ, suc, Bool, List, [], ◌∷◌, leb, ltb, get_or}
use Rattle.octets.specs.Believed.Choice.{pick, both}
use Rattle.records.specs.Believed.AddressRecords.{AddressRecord, no_record}

-- ---- the records that cover a byte

-- the start of a record is at or before a place, and its end is after it
abbrev pub covers : ℕ → AddressRecord → Bool
covers place r = both (leb r.start place) (ltb place r.end)

-- the numbers of those that cover a place, in falling order, before those of `sofar`; the first record has the number `next`
abbrev pub around_from : ℕ → ℕ → List AddressRecord → List ℕ → List ℕ
around_from place next [] sofar = sofar
around_from place next (r ∷ rs) sofar = around_from place (suc next) rs (pick (covers place r) (next ∷ sofar) sofar)

-- .. of all: the last record that covers the place comes first, the outermost last
abbrev pub around : ℕ → List AddressRecord → List ℕ
around place rs = around_from place 0 rs []

-- ---- climbing

-- the first of these numbers plus 1, as a parent is written; 0 where there is none
abbrev pub first_plus : List ℕ → ℕ
first_plus [] = 0
first_plus (n ∷ ns) = suc n

-- climbing parent by parent: these are the numbers from a parent (its number plus 1, or 0) to the outermost
pub data Climbs (records : List AddressRecord) : ℕ → List ℕ → Type 0 where
  over : Climbs records 0 []
  up : {n : ℕ} {ns : List ℕ} → Climbs records (get_or records n no_record).parent ns → Climbs records (suc n) (n ∷ ns)

-- the records that cover a place are those that climbing finds from the last of them
abbrev pub AroundClimbs : List AddressRecord → Type 0
AroundClimbs rs = (place : ℕ) → Climbs rs (first_plus (around place rs)) (around place rs)
