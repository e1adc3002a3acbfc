-- Numbers and lines as the program prints them. Each function puts its text before the bytes `rest`.
use Rattle.std.specs.Prelude.{ℕ, zero, suc, ◌+◌, ◌/◌, ◌%◌, List, [], ◌∷◌, ◌++◌, ltb, ℤ, pos, negsuc}
use Rattle.octets.specs.Believed.Choice.{pick}
use Rattle.octets.specs.Believed.Octets.{line_feed_byte, space_byte, minus_byte, zero_byte}
use Rattle.octets.specs.Believed.Text.{bytes}
use Rattle.records.specs.Believed.AddressRecords.{AddressRecord}
use Rattle.records.specs.Believed.FieldRecords.{Field}

-- the decimal digits of a number that has at most `most` of them
unfoldable pub digits_of : ℕ → ℕ → List ℕ → List ℕ
digits_of zero n rest = rest
digits_of (suc most) n rest = pick (ltb n 10) ((zero_byte + n) ∷ rest) (digits_of most (n / 10) ((zero_byte + n % 10) ∷ rest))

-- the most digits that a number of 64 bits has
abbrev pub most_digits : ℕ
most_digits = 20

-- a number
abbrev pub decimal : ℕ → List ℕ → List ℕ
decimal n rest = digits_of most_digits n rest

-- a number with "-" before it where it is below 0
unfoldable pub signed : ℤ → List ℕ → List ℕ
signed (pos n) rest = decimal n rest
signed (negsuc n) rest = minus_byte ∷ decimal (n + 1) rest

-- each number after one SPACE
unfoldable pub spaced : List ℕ → List ℕ → List ℕ
spaced [] rest = rest
spaced (n ∷ numbers) rest = space_byte ∷ decimal n (spaced numbers rest)

-- a line: a word, numbers, and LF
abbrev pub line : List ℕ → List ℕ → List ℕ → List ℕ
line word numbers rest = word ++ spaced numbers (line_feed_byte ∷ rest)

-- `field`: name start, name end, body start, body end
abbrev pub field_line : Field → List ℕ → List ℕ
field_line f rest = line (bytes "field") (f.name_start ∷ f.name_end ∷ f.body_start ∷ f.body_end ∷ []) rest

-- `address`: kind, depth, parent, start, end, name start, name end
abbrev pub address_line : AddressRecord → List ℕ → List ℕ
address_line r rest =
    line (bytes "address") (r.kind ∷ r.depth ∷ r.parent ∷ r.start ∷ r.end ∷ r.name_start ∷ r.name_end ∷ []) rest

-- `date`: seconds
abbrev pub date_line : ℤ → List ℕ → List ℕ
date_line seconds rest = bytes "date " ++ signed seconds (line_feed_byte ∷ rest)

-- `refused`: number and position
abbrev pub refused_line : ℕ → ℕ → List ℕ → List ℕ
refused_line number position rest = line (bytes "refused") (number ∷ position ∷ []) rest
