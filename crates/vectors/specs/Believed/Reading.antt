-- How a line of vectors is read: what stands before and after a mark, numbers, and the bytes that a text stands for.
use Rattle.std.specs.Prelude.{ℕ, zero, suc, ◌+◌, ◌*◌, ◌-◌, ◌%◌, Bool, true, not, List, [], ◌∷◌, eqb, ltb, length}
use Rattle.octets.specs.Believed.Choice.{pick}
use Rattle.octets.specs.Believed.Classes.{is_digit}
use Rattle.octets.specs.Believed.Octets.{line_feed_byte, return_byte, zero_byte}

-- ---- marks and numbers

-- what stands before the first such mark
unfoldable pub before : ℕ → List ℕ → List ℕ
before mark [] = []
before mark (b ∷ text) = pick (eqb b mark) [] (b ∷ before mark text)

-- what stands after it; nothing without one
unfoldable pub behind : ℕ → List ℕ → List ℕ
behind mark [] = []
behind mark (b ∷ text) = pick (eqb b mark) text (behind mark text)

-- there is one
abbrev pub has : ℕ → List ℕ → Bool
has mark text = ltb (length (before mark text)) (length text)

-- the number whose digits stand at the front of a text, after those of `n`; of more than nineteen, the last ones
unfoldable pub digits_from : ℕ → List ℕ → ℕ
digits_from n [] = n
digits_from n (b ∷ text) = pick (is_digit b) (digits_from (n % 1000000000000000000 * 10 + (b - zero_byte)) text) n

-- the number after a mark
abbrev pub asked : ℕ → ℕ → List ℕ → ℕ
asked mark otherwise head = pick (has mark head) (digits_from 0 (behind mark head)) otherwise

-- "<": the start of the body
abbrev pub start_of : List ℕ → ℕ
start_of head = asked 60 0 head

-- ">": its end, otherwise that of the message
abbrev pub end_of : List ℕ → List ℕ → ℕ
end_of head message = asked 62 (length message) head

-- "=": the edition
abbrev pub edition_of : List ℕ → ℕ
edition_of head = asked 61 733 head

-- "@": the place
abbrev pub place_of : List ℕ → ℕ
place_of head = asked 64 0 head

-- "/": the room
abbrev pub room_of : ℕ → List ℕ → ℕ
room_of otherwise head = asked 47 otherwise head

-- ---- the bytes that a text stands for

-- "~" is CR, "^" is LF, "$" is 0, and any other byte is itself
unfoldable pub meant : ℕ → ℕ
meant b = pick (eqb b 126) return_byte (pick (eqb b 94) line_feed_byte (pick (eqb b 36) 0 b))

-- each byte of a text as it stands, or what it stands for
unfoldable pub copied : Bool → List ℕ → List ℕ → List ℕ
copied coded [] rest = rest
copied coded (b ∷ text) rest = pick coded (meant b) b ∷ copied coded text rest

-- what a text stands for, so many times
unfoldable pub times : ℕ → List ℕ → List ℕ → List ℕ
times zero text rest = rest
times (suc many) text rest = copied true text (times many text rest)

-- in braces: a text after "*", as many times as the number says, or the byte of the number
unfoldable pub braced : List ℕ → List ℕ → List ℕ
braced inner rest = pick (has 42 inner) (times (digits_from 0 inner) (behind 42 inner) rest) (digits_from 0 inner % 256 ∷ rest)

-- what a byte before a text stands for: inside of braces nothing, and at the opening brace all that they hold
unfoldable pub piece : Bool → ℕ → List ℕ → List ℕ → List ℕ
piece inside b text rest = pick inside rest (pick (eqb b 123) (braced (before 125 text) rest) (meant b ∷ rest))

-- what follows a byte is inside of braces
abbrev pub stays : Bool → ℕ → Bool
stays inside b = pick inside (not (eqb b 125)) (eqb b 123)

-- the bytes that a text stands for
unfoldable pub decoded : Bool → List ℕ → List ℕ
decoded inside [] = []
decoded inside (b ∷ text) = piece inside b text (decoded (stays inside b) text)
