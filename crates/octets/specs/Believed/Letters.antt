-- Letter case, and equality of two texts with case ignored and without.
use Rattle.std.specs.Prelude.{ℕ, ◌+◌, Bool, true, false, List, [], ◌∷◌, eqb}
use Rattle.octets.specs.Believed.Choice.{pick, both}
use Rattle.octets.specs.Believed.Classes.{within}

-- the small letter of a capital one; any other byte is itself
unfoldable pub lower : ℕ → ℕ
lower b = pick (within 65 90 b) (b + 32) b

-- two texts have the same bytes, each byte read through `f`
unfoldable pub same : (ℕ → ℕ) → List ℕ → List ℕ → Bool
same f [] [] = true
same f [] (b ∷ y) = false
same f (a ∷ x) [] = false
same f (a ∷ x) (b ∷ y) = both (eqb (f a) (f b)) (same f x y)

-- the same bytes
abbrev pub same_bytes : List ℕ → List ℕ → Bool
same_bytes x y = same (λ b. b) x y

-- the same bytes, case ignored
abbrev pub same_letters : List ℕ → List ℕ → Bool
same_letters x y = same lower x y
