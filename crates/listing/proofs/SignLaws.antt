-- Numbers below 0 and others, as 64 bits hold them. Assumes nothing.
use mathlib.Core.Path.{◌≡◌, refl, ap}
use mathlib.Core.Bool.{true, false}
use native.Mathlib.Omega.{arith}
use Prim.Native.Nat.{ℕ, suc, ◌<◌}
use borrow.Author.Tests.{ltb-true, le-ltb}
use lib.IntN.{ℤ, pos, negsuc, ◌-ℤ◌}
use lib.Signed.{lt_z}
use mir.Syntax.{w64}
use mir.Val.{SFits}

-- a number below 0, and one less than its size
pub record Below (n : ℤ) : Type 0 where
  pub size : ℕ
  pub shape : n ≡ negsuc size
  pub is : negsuc 0 -ℤ n ≡ pos size
  pub small : size < 9223372036854775808

pub below : (n : ℤ) → SFits w64 n → lt_z n (pos 0) ≡ true → Below n
below (pos a) f e = absurd (omega (arith, ltb-true a 0 e))
below (negsuc a) f e =
    record { size = a; shape = refl; is = rw (le-ltb (suc a) 1 (omega arith)) (ap pos (omega arith)); small = f.sfits }

-- a number that is not
pub record AtLeast (n : ℤ) : Type 0 where
  pub size : ℕ
  pub shape : n ≡ pos size
  pub small : size < 9223372036854775808

pub at_least : (n : ℤ) → SFits w64 n → lt_z n (pos 0) ≡ false → AtLeast n
at_least (pos a) f e = record { size = a; shape = refl; small = f.sfits }
at_least (negsuc a) f e = absurd (let z : ◌≡◌ {A = ℕ} 0 1 = cc in omega arith)
