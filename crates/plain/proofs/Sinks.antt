-- Texts put into a sink, one after another. Assumes nothing.
use mathlib.Core.Path.{◌≡◌, refl, ◌∙◌}
use mathlib.Core.List.{List}
use Prim.Native.Nat.{ℕ, ◌+◌, ◌≤◌}
use native.Mathlib.Omega.{arith}
use Rattle.octets.proofs.Writes.{Left, wrote_both, left_all, left_after, left_none}
use Rattle.plain.specs.Ties.Sinks.{Puts}
use Rattle.plain.specs.declared.Sink.{Sink}

pub puts_both : {f g : List ℕ → List ℕ} {most more : ℕ} {s t u : Sink} → Puts f most s t → Puts g more t u → Puts (λ rest. f (g rest)) (most + more) s u
puts_both x y = record { same_part = y.same_part ∙ x.same_part; wrote = wrote_both x.wrote y.wrote; few = omega arith }

-- ---- what is left to put: `g` now, of `f` at the start

pub record StillPuts (f g : List ℕ → List ℕ) (most : ℕ) (old new : Sink) : Type 0 where
  pub same_part : new.out.ghost_name ≡ old.out.ghost_name
  pub left : Left old.out.now old.n f new.out.now new.n g
  pub few : new.n ≤ old.n + most

pub still_all : (f : List ℕ → List ℕ) (s : Sink) → StillPuts f f 0 s s
still_all f s = record { same_part = refl; left = left_all _ _ _; few = omega arith }

-- `h` is put of it, and `k` is left
pub still_after : {f g h k : List ℕ → List ℕ} {most more : ℕ} {s t u : Sink} → StillPuts f g most s t → ((rest : List ℕ) → g rest ≡ h (k rest)) → Puts h more t u → StillPuts f k (most + more) s u
still_after x e y = record { same_part = y.same_part ∙ x.same_part; left = left_after x.left e y.wrote; few = omega arith }

pub still_few : {f g : List ℕ → List ℕ} {most more : ℕ} {s t : Sink} → StillPuts f g most s t → most ≤ more → StillPuts f g more s t
still_few x h = record { same_part = x.same_part; left = x.left; few = omega (arith, x.few) }

-- nothing is left
pub still_none : {f g : List ℕ → List ℕ} {most more : ℕ} {s t : Sink} → StillPuts f g most s t → ((rest : List ℕ) → g rest ≡ rest) → most ≤ more → Puts f more s t
still_none x e h = record { same_part = x.same_part; wrote = left_none x.left e; few = omega (arith, x.few) }

pub puts_few : {f : List ℕ → List ℕ} {most more : ℕ} {s t : Sink} → Puts f most s t → most ≤ more → Puts f more s t
puts_few x h = record { same_part = x.same_part; wrote = x.wrote; few = omega (arith, x.few) }
