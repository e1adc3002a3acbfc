-- What a symbol is.
use Rattle.std.specs.Prelude.{ℕ, Bool, List}

-- where a symbol stands, from its first byte to the position after its last; its meaning; and whether it stands apart: white space or a comment stands right before it
pub record Lexeme : Type 0 where
  pub start : ℕ
  pub end : ℕ
  pub meaning : List ℕ
  pub apart : Bool

-- a symbol of one of the classes `C`
pub record Symbol (C : Type 0) : Type 0 where
  pub class : C
  pub lexeme : Lexeme
