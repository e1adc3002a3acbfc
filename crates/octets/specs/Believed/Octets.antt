-- Single bytes by name.
use Rattle.std.specs.Prelude.{ℕ}

abbrev pub line_feed_byte : ℕ
line_feed_byte = 10

abbrev pub return_byte : ℕ
return_byte = 13

abbrev pub space_byte : ℕ
space_byte = 32

abbrev pub quote_byte : ℕ
quote_byte = 34

abbrev pub open_byte : ℕ
open_byte = 40

abbrev pub plus_byte : ℕ
plus_byte = 43

abbrev pub comma_byte : ℕ
comma_byte = 44

abbrev pub minus_byte : ℕ
minus_byte = 45

-- the first of the ten digits
abbrev pub zero_byte : ℕ
zero_byte = 48

abbrev pub colon_byte : ℕ
colon_byte = 58

abbrev pub backslash_byte : ℕ
backslash_byte = 92
