-- The executable layer: a derivation tree, over any grammar. Nothing here needs to be believed: what the verdict is `Decides` says, over the grammar alone.
use Rattle.grammar.specs.Believed.Grammar.{Rule, Forest, branch}

-- a derivation tree: a rule, and the forest of its parts
pub record Piece (C N : Type 0) : Type 0 where
  pub rule : Rule C N
  pub parts : Forest C N

abbrev pub piece : {C N : Type 0} → Rule C N → Forest C N → Piece C N
piece r p = record { rule = r; parts = p }

-- .. before a forest
abbrev pub put : {C N : Type 0} → Piece C N → Forest C N → Forest C N
put p k = branch p.rule p.parts k
