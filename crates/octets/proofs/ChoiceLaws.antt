-- Laws of tests. Assumes nothing.
use mathlib.Core.Path.{◌≡◌, refl}
use mathlib.Core.Logic.{◌⊎◌, inl, inr}
use mathlib.Core.Bool.{Bool, true, false}
use Prim.Native.Nat.{ℕ}
use native.Mathlib.Omega.{arith}
use mir.Val.{bool_byte}
use Rattle.octets.specs.Believed.Choice.{pick, both, either}

pub both_true : (t : Bool) → both t true ≡ t
both_true true = refl
both_true false = refl

pub both_false : (t : Bool) → both t false ≡ false
both_false true = refl
both_false false = refl

pub either_true : (t : Bool) → either t true ≡ true
either_true true = refl
either_true false = refl

-- where both hold, each does
pub both_parts : (a b : Bool) → both a b ≡ true → (a ≡ true) × (b ≡ true)
both_parts true b e = (refl, e)
both_parts false b e = absurd (let z : ◌≡◌ {A = ℕ} 0 1 = cc in omega arith)

-- where not one of two holds, neither does
pub neither_parts : (a b : Bool) → either a b ≡ false → (a ≡ false) × (b ≡ false)
neither_parts true b e = absurd (let z : ◌≡◌ {A = ℕ} 0 1 = cc in omega arith)
neither_parts false b e = (refl, e)

-- where one of two holds, it is one of them
pub either_parts : (a b : Bool) → either a b ≡ true → (a ≡ true) ⊎ (b ≡ true)
either_parts true b e = inl refl
either_parts false b e = inr e

-- the number of a truth value, as a cast gives it
pub cast_bool : (b : Bool) → bool_byte b ≡ pick b 1 0
cast_bool true = refl
cast_bool false = refl
