-- The characters of a body: its bytes with their positions, without the CRLF of each fold.
use Rattle.std.specs.Prelude.{ℕ, ◌+◌, Bool, true, false, List, [], ◌∷◌, get_or, drop}
use Rattle.octets.specs.Believed.Choice.{both}
use Rattle.octets.specs.Believed.Classes.{is_white}
use Rattle.octets.specs.Believed.Text.{crlf_at}

-- a byte, its position, and whether the CRLF of a fold stands right before it
pub data Character : Type 0 where
  character : ℕ → ℕ → Bool → Character

-- a fold stands at a position: CRLF followed by SPACE or HTAB (past the end stands 0)
abbrev pub fold_at : List ℕ → ℕ → Bool
fold_at text i = both (crlf_at text i) (is_white (get_or text (i + 2) 0))

-- what the next byte is to a fold: nothing, its LF, or its white space
pub data InFold : Type 0 where
  none line_feed white : InFold

-- the characters of the bytes that stand from position p on
unfoldable pub characters_from : InFold → List ℕ → ℕ → List Character
characters_from fold [] p = []
characters_from line_feed (b ∷ rest) p = characters_from white rest (p + 1)
characters_from white (b ∷ rest) p = character b p true ∷ characters_from none rest (p + 1)
characters_from none (b ∷ rest) p =
    elim (fold_at (b ∷ rest) 0) [ true ↦ characters_from line_feed rest (p + 1) | false ↦ character b p false ∷ characters_from none rest (p + 1) ]

-- the characters of a text from a position on
abbrev pub characters_at : List ℕ → ℕ → List Character
characters_at text at = characters_from none (drop at text) at
