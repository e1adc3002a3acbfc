-- A text put before what follows.
use Rattle.std.specs.Prelude.{◌≡◌, List, ℕ}
use Rattle.vectors.specs.Believed.Putting.{putting}

-- a count of records that is put is less than this
abbrev pub shown_limit : ℕ
shown_limit = 65536

-- `f` puts its text before the rest: then the rest is put from the place `next` on
pub record Puts (f : List ℕ → List ℕ) (before : List ℕ) (n : ℕ) (after : List ℕ) (next : ℕ) : Type 0 where
  pub same : (rest : List ℕ) → putting before n (f rest) ≡ putting after next rest
