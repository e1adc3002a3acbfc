-- Lists of symbols that a relation pairs one by one, for any relation of symbols of one class. Assumes nothing.
use mathlib.Core.Path.{◌≡◌}
use mathlib.Core.List.{List, [], ◌∷◌}
use Rattle.grammar.specs.Executable.Trees733.{Sym}

pub data Pairwise (R : Sym → Sym → Type 0) : List Sym → List Sym → Type 0 where
  no_symbol : Pairwise R [] []
  one_symbol : {x y : Sym} {xs ys : List Sym} → R x y → Pairwise R xs ys → Pairwise R (x ∷ xs) (y ∷ ys)

-- what is asked of the relation: it keeps the class, it can be turned round, and each symbol has it to itself
pub record KeepsClass (R : Sym → Sym → Type 0) : Type 0 where
  pub class : {x y : Sym} → R x y → y.class ≡ x.class
  pub turned : {x y : Sym} → R x y → R y x
  pub itself : (x : Sym) → R x x

pub turned : {R : Sym → Sym → Type 0} → KeepsClass R → {xs ys : List Sym} → Pairwise R xs ys → Pairwise R ys xs
turned k no_symbol = no_symbol
turned k (one_symbol x a) = one_symbol (k.turned x) (turned k a)

pub to_themselves : {R : Sym → Sym → Type 0} → KeepsClass R → (xs : List Sym) → Pairwise R xs xs
to_themselves k [] = no_symbol
to_themselves k (x ∷ xs) = one_symbol (k.itself x) (to_themselves k xs)
