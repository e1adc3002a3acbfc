-- A text written into a lent part from a place on.
use Rattle.std.specs.Prelude.{◌≡◌, List, ℕ, ◌+◌, ◌-◌, leb, length, drop}
use Rattle.std.proofs.lemmas.List.Edits.{sets}
use Rattle.octets.specs.Believed.Choice.{pick}

-- the most that a count holds
abbrev pub count_limit : ℕ
count_limit = 18446744073709551615

-- `f` puts its text before the rest: it is stored in a lent part from the place n on, and n' is the next place.
-- Where the part has no room nothing is stored, and it is counted all the same
pub record WroteBy (store : List ℕ → ℕ → List ℕ → List ℕ) (f : List ℕ → List ℕ) (before : List ℕ) (n : ℕ) (after : List ℕ) (n' : ℕ) : Type 0 where
  pub same : (rest : List ℕ) → store before n (f rest) ≡ store after n' rest
  pub count : (rest : List ℕ) → n + length (f rest) ≡ n' + length rest

-- .. at the place itself
abbrev pub Wrote : (List ℕ → List ℕ) → List ℕ → ℕ → List ℕ → ℕ → Type 0
Wrote f before n after n' = WroteBy sets f before n after n'

-- .. where the lent part is a window on the text, from this position of the text on
unfoldable pub in_window : ℕ → List ℕ → ℕ → List ℕ → List ℕ
in_window from lent n text = pick (leb from n) (sets lent (n - from) text) (sets lent 0 (drop (from - n) text))
