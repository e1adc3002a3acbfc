-- A text put into a lent part byte by byte, as far as there is room.
use Rattle.std.specs.Prelude.{ℕ, ◌+◌, List, [], ◌∷◌, ltb, length, set}
use Rattle.octets.specs.Believed.Choice.{pick}

-- a lent part, and how many of its bytes are put
pub record Text : Type 0 where
  pub bytes : List ℕ
  pub used : ℕ

abbrev pub text : List ℕ → ℕ → Text
text bytes used = record { bytes = bytes; used = used }

-- the place after a byte; at the end of the part it stays
abbrev pub next : List ℕ → ℕ → ℕ
next lent n = pick (ltb n (length lent)) (n + 1) n

-- the bytes of a text, one after the other from a place on
unfoldable pub putting : List ℕ → ℕ → List ℕ → Text
putting lent n [] = text lent n
putting lent n (b ∷ more) = putting (set lent n b) (next lent n) more
