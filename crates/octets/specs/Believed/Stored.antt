-- Numbers stored in bytes, high byte first.
use Rattle.std.specs.Prelude.{ℕ, zero, suc, ◌+◌, ◌*◌, ◌/◌, ◌%◌, List, [], ◌∷◌, ◌++◌, length, get_or}

-- the lowest `width` bytes of a number, high byte first
abbrev pub bytes_of : ℕ → ℕ → List ℕ
bytes_of zero x = []
bytes_of (suc width) x = bytes_of width (x / 256) ++ (x % 256 ∷ [])

-- the bytes of a table from a place on, `width` of them; past its end stand zeros
abbrev pub bytes_at : ℕ → List ℕ → ℕ → List ℕ
bytes_at zero table at = []
bytes_at (suc width) table at = get_or table at 0 ∷ bytes_at width table (at + 1)

-- the number whose bytes, high byte first, are those of `high` and then these
abbrev pub number_from : ℕ → List ℕ → ℕ
number_from high [] = high
number_from high (b ∷ bytes) = number_from (high * 256 + b) bytes

-- the number in `width` bytes of a table from a place on
abbrev pub number_at : ℕ → List ℕ → ℕ → ℕ
number_at width table at = number_from 0 (bytes_at width table at)

-- room in a table: the whole number of records of a size that fit
abbrev pub room_for : ℕ → List ℕ → ℕ
room_for size table = length table / size
