-- Texts and parts of texts.
use Rattle.std.specs.Prelude.{ℕ, zero, suc, ◌+◌, ◌-◌, Bool, List, [], ◌∷◌, eqb, take, drop, get_or}
use Prim.Native.Char.{code}
use Prim.Native.String.{String, len, char_at}
use Rattle.octets.specs.Believed.Choice.{both}
use Rattle.octets.specs.Believed.Octets.{line_feed_byte, return_byte}

-- the bytes of `count` characters of a quoted ASCII text from i on
abbrev pub bytes_from : ℕ → String → ℕ → List ℕ
bytes_from zero text i = []
bytes_from (suc count) text i = code (char_at text i) ∷ bytes_from count text (i + 1)

-- the bytes of a quoted ASCII text
abbrev pub bytes : String → List ℕ
bytes text = bytes_from (len text) text 0

-- the part of a text from a position up to, and not with, another
abbrev pub part : List ℕ → ℕ → ℕ → List ℕ
part text start end = take (end - start) (drop start text)

-- CR and LF stand at a position of a text (past the end stands 0)
abbrev pub crlf_at : List ℕ → ℕ → Bool
crlf_at text i = both (eqb (get_or text i 0) return_byte) (eqb (get_or text (i + 1) 0) line_feed_byte)
