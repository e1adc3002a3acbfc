-- Document 02, CR 3, over the grammar and apart from any reader: of an answer of the tool, and the lent path afterwards.
use Rattle.std.specs.Prelude.{ℕ, ◌≤◌, ◌≡◌, Bool, List, ◌++◌, length, take}
use Rattle.octets.specs.Believed.Numbers.{message_limit, level_limit}
use Rattle.octets.specs.declared.answers.Answer.TheVariants.{Accepted}
use Rattle.scanner.specs.Believed.Symbols.{Symbol}
use Rattle.scanner.specs.Believed.Scanning.{scan}
use Rattle.scanner.specs.Believed.Answers.{fault_of}
use Rattle.scanner.specs.declared.Class.{Class}
use Rattle.grammar.specs.Believed.Language.{Refusal, refused, number, start_of}
use Rattle.grammar.specs.Believed.Rfc733.{Derivation, RightVerdict}
use Rattle.addresses.specs.Believed.Editions.{body_symbols}
use Rattle.addresses.specs.Believed.Condition3.{IsList}
use Rattle.expected.specs.Believed.Things.{Thing, Exactly, sum_of}
use Rattle.touch.specs.Believed.Answers.{Touched, told, of_list}

-- refused with 8, 9 or 10 at the very place that condition 3 gives, after the symbols `before`; and things are named, each of them
-- exactly if some list of at most 64 levels goes on, or ends, with it there
pub record NamedThere (symbols : List (Symbol Class)) (end : ℕ) (r : Touched) : Type 0 where
  pub why : Refusal
  pub before : List (Symbol Class)
  pub rest : List (Symbol Class)
  pub right : RightVerdict symbols (refused why rest)
  pub splits : symbols ≡ before ++ rest
  pub named : Thing → Bool
  pub tells : told r ≡ record { number = number why; position = start_of end rest; count = 0; category = 0; names = sum_of named }
  pub exactly : Exactly level_limit before named

-- what is said of the symbols of a body
pub record Settled (message : List ℕ) (start end place : ℕ) (path : List ℕ) (symbols : List (Symbol Class)) (r : Touched) (after : List ℕ) : Type 0 where
  -- a list: the byte, its records and its path, from its one derivation
  pub list : (k : Derivation) → IsList symbols k → (told r ≡ told (of_list message start end place path k).answer) × (after ≡ (of_list message start end place path k).path)
  -- no list: what could have stood at the refused place
  pub no_list : ((k : Derivation) → IsList symbols k → ⊥) → NamedThere symbols end r × (after ≡ path)

-- of a body that scans without fault, with its positions in order, in a message within the limit
abbrev pub ByGrammar : List ℕ → ℕ → ℕ → ℕ → List ℕ → Touched → List ℕ → Type 0
ByGrammar message start end place path r after =
    length message ≤ message_limit → start ≤ end → end ≤ length message → fault_of (scan (take end message) start) ≡ Accepted 0
    → Settled message start end place path (body_symbols message start end) r after
