-- The executable layer: for each edition a verdict that can be computed, and the proposition that it is the only right one.
-- Nothing below needs to be believed: what is promised by it is promised by `Decides`, over the grammar alone.
use Rattle.std.specs.Prelude.{ℕ, ◌≤◌, ◌≡◌, List}
use Rattle.scanner.specs.Believed.Symbols.{Symbol}
use Rattle.grammar.specs.Believed.Grammar.{Grammar, Forest, Derived, levels}
use Rattle.grammar.specs.Believed.Language.{Verdict, Right}
use Rattle.grammar.specs.Believed.Rfc733 as of733
use Rattle.grammar.specs.Believed.Rfc822 as of822
use Rattle.grammar.specs.Executable.Machine733.{answer}
use Rattle.grammar.specs.Executable.Machine822.{read}
pub mod Machines
pub mod Pieces
pub mod Trees733
pub mod Machine733
pub mod Trees822
pub mod Machine822

-- a verdict that is computed, with at most `limit` levels, for every limit of at least `least`
pub record Decides {C N : Type 0} (G : Grammar C N) (A : N) (least : ℕ) (verdict : ℕ → List (Symbol C) → Verdict C (Forest C N)) : Type 0 where
  -- it is right for every sequence of symbols
  pub right : (limit : ℕ) → least ≤ limit → (xs : List (Symbol C)) → Right (Derived G A) levels limit xs (verdict limit xs)
  -- .. and no other is
  pub only : (limit : ℕ) → least ≤ limit → (xs : List (Symbol C)) (v : Verdict C (Forest C N)) → Right (Derived G A) levels limit xs v → v ≡ verdict limit xs
  -- .. since there is exactly one derivation
  pub one : (k k' : Forest C N) (xs : List (Symbol C)) → Derived G A k xs → Derived G A k' xs → k ≡ k'

-- of RFC 733, for every limit
abbrev pub Decides733 : Type 0
Decides733 = Decides of733.rfc733 of733.list 0 answer

-- of RFC 822, for every limit of at least its 2 levels
abbrev pub Decides822 : Type 0
Decides822 = Decides of822.rfc822 of822.list 2 read
