-- A test over the whole of a table.
use Rattle.std.specs.Prelude.{ℕ, suc, Bool, true, List, [], ◌∷◌}
use Rattle.octets.specs.Believed.Choice.{both}

module _ {A : Type 0} (test : ℕ → A → Bool) where
  -- the test holds of each entry and its place, places counted from i
  abbrev pub every : ℕ → List A → Bool
  every i [] = true
  every i (x ∷ xs) = both (test i x) (every (suc i) xs)
