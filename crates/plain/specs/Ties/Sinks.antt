-- A text put into a sink.
use Rattle.std.specs.Prelude.{◌≡◌, List, ℕ, ◌+◌, ◌≤◌}
use Rattle.octets.specs.Ties.Writing.{Wrote}
use Rattle.plain.specs.declared.Sink.{Sink}

-- `f` puts its text before the rest: it is written in the same lent part, at most so many bytes of it
pub record Puts (f : List ℕ → List ℕ) (most : ℕ) (old new : Sink) : Type 0 where
  pub same_part : new.out.ghost_name ≡ old.out.ghost_name
  pub wrote : Wrote f old.out.now old.n new.out.now new.n
  pub few : new.n ≤ old.n + most
