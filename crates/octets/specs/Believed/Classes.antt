-- Document 01, "Symbols": the class of each of the 256 byte values, as a class number.
use Rattle.std.specs.Prelude.{ℕ, zero, suc, ◌+◌, Bool, List, [], ◌∷◌, eqb, leb, ltb, length}
use Rattle.octets.specs.Believed.Choice.{pick, both, either}
use Rattle.octets.specs.Believed.Tests.{every}

-- the class numbers, in an order in which few comparisons tell what matters: first the bytes at which a fault, a comment, a quoted-string or a domain literal may begin, ..
abbrev pub control : ℕ
control = 0

abbrev pub open_parenthesis : ℕ
open_parenthesis = 1

abbrev pub quote : ℕ
quote = 2

abbrev pub open_bracket : ℕ
open_bracket = 3

abbrev pub above127 : ℕ
above127 = 4

-- .. then SPACE and HTAB, ..
abbrev pub white : ℕ
white = 5

-- .. then the specials that are symbols by themselves, . and ] in RFC 822 alone: ) ] < > @ , ; : . \, ..
abbrev pub close_parenthesis : ℕ
close_parenthesis = 6

abbrev pub close_bracket : ℕ
close_bracket = 7

abbrev pub less_than : ℕ
less_than = 8

abbrev pub greater_than : ℕ
greater_than = 9

abbrev pub at_sign : ℕ
at_sign = 10

abbrev pub comma : ℕ
comma = 11

abbrev pub semicolon : ℕ
semicolon = 12

abbrev pub colon : ℕ
colon = 13

abbrev pub dot : ℕ
dot = 14

abbrev pub backslash : ℕ
backslash = 15

-- .. then what atoms are made of
abbrev pub letter : ℕ
letter = 16

abbrev pub digit : ℕ
digit = 17

abbrev pub other : ℕ
other = 18

-- the byte lies in a range, both ends in it
abbrev pub within : ℕ → ℕ → ℕ → Bool
within low high b = both (leb low b) (leb b high)

-- SPACE and HTAB
abbrev pub is_white : ℕ → Bool
is_white b = either (eqb b 32) (eqb b 9)

-- A to Z and a to z
abbrev pub is_letter : ℕ → Bool
is_letter b = either (within 65 90 b) (within 97 122 b)

-- 0 to 9
abbrev pub is_digit : ℕ → Bool
is_digit b = within 48 57 b

-- ( ) < > @ , ; : \ " and, where it is none of these, `other`
abbrev pub special_or : ℕ → ℕ
special_or b =
    pick (eqb b 40) open_parenthesis (pick (eqb b 41) close_parenthesis
    (pick (eqb b 60) less_than (pick (eqb b 62) greater_than
    (pick (eqb b 64) at_sign (pick (eqb b 44) comma
    (pick (eqb b 59) semicolon (pick (eqb b 58) colon
    (pick (eqb b 92) backslash (pick (eqb b 34) quote other)))))))))

-- the class of a byte, by byte range
unfoldable pub class_of : ℕ → ℕ
class_of b =
    pick (ltb 127 b) above127
    (pick (is_white b) white
    (pick (either (ltb b 32) (eqb b 127)) control
    (pick (is_letter b) letter
    (pick (is_digit b) digit (special_or b)))))

-- an entry is the class of the byte at whose place it stands
abbrev pub is_class_of : ℕ → ℕ → Bool
is_class_of b class = eqb class (class_of b)

-- the rule by byte range, tested over the whole of a table of 256 class numbers
abbrev pub by_range : List ℕ → Bool
by_range table = both (eqb (length table) 256) (every is_class_of 0 table)

-- the classes of `count` bytes from `b` on, by a rule
abbrev pub classes_from : (ℕ → ℕ) → ℕ → ℕ → List ℕ
classes_from rule zero b = []
classes_from rule (suc count) b = rule b ∷ classes_from rule count (b + 1)

-- the class of each of the 256 byte values, in one table
unfoldable pub class_table : List ℕ
class_table = classes_from class_of 256 0

-- ---- RFC 822

-- the dot and the square brackets are specials, too
unfoldable pub class_of822 : ℕ → ℕ
class_of822 b = pick (eqb b 46) dot (pick (eqb b 91) open_bracket (pick (eqb b 93) close_bracket (class_of b)))

-- the class of each of the 256 byte values, in one table
unfoldable pub class_table822 : List ℕ
class_table822 = classes_from class_of822 256 0
