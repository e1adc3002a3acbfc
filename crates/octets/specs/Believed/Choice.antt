-- The one of two, by a test.
use Rattle.std.specs.Prelude.{Bool, true, false}

-- `a` if the test holds, else `b`
abbrev pub pick {ℓ} : {A : Type ℓ} → Bool → A → A → A
pick true a b = a
pick false a b = b

-- both tests hold
abbrev pub both : Bool → Bool → Bool
both a b = pick a b false

-- one of the tests holds
abbrev pub either : Bool → Bool → Bool
either a b = pick a true b
