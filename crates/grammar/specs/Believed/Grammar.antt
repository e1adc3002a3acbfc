-- A grammar as data, over any classes of symbols, and what it derives: nothing here reads anything.
use Rattle.std.specs.Prelude.{ℕ, ◌+◌, max, ◌≡◌, Bool, true, false}
use mathlib.Core.List.{List, [], ◌∷◌, Memᴰ}
use Rattle.std.proofs.Math.Option.{Option, none, some}
use Rattle.octets.specs.Believed.Choice.{pick, both}
use Rattle.scanner.specs.Believed.Symbols.{Symbol}

-- ---- rules

-- an item of a rule: a symbol of a class, or what a nonterminal derives
pub data Item (C N : Type 0) : Type 0 where
  symbol : C → Item C N
  nonterminal : N → Item C N

-- the record that a rule makes: which of its items, counted from 0, is the name, if any is; and its kind, which the name's meaning may tell
pub record Makes : Type 0 where
  pub name : Option ℕ
  pub kind : List ℕ → ℕ

-- a rule: its items in order; whether it opens a level; the classes with which its symbols never begin; the record that it makes
pub record Rule (C N : Type 0) : Type 0 where
  pub items : List (Item C N)
  pub opens : Bool
  pub never : Option (List C)
  pub makes : Option Makes

-- a grammar: the test whether two classes are the same, and the rules of each nonterminal
pub record Grammar (C N : Type 0) : Type 0 where
  pub same : C → C → Bool
  pub rules : N → List (Rule C N)

-- ---- derivations

-- a forest: a sequence of derivation trees, each of them a symbol, or a rule with the forest of its own parts; the last argument is the forest that follows
pub data Forest (C N : Type 0) : Type 0 where
  nil : Forest C N
  leaf : Symbol C → Forest C N → Forest C N
  branch : Rule C N → Forest C N → Forest C N → Forest C N

-- the symbols of a forest, and then others
abbrev pub yield_then : {C N : Type 0} → Forest C N → List (Symbol C) → List (Symbol C)
yield_then nil xs = xs
yield_then (leaf x forest) xs = x ∷ yield_then forest xs
yield_then (branch rule parts forest) xs = yield_then parts (yield_then forest xs)

-- the symbols of a forest
abbrev pub yield : {C N : Type 0} → Forest C N → List (Symbol C)
yield forest = yield_then forest []

-- the levels that a forest has open at once, at most
abbrev pub levels : {C N : Type 0} → Forest C N → ℕ
levels nil = 0
levels (leaf x forest) = levels forest
levels (branch rule parts forest) = max (pick rule.opens 1 0 + levels parts) (levels forest)

-- the symbols begin with symbols of these classes
abbrev pub begins : {C : Type 0} → (C → C → Bool) → List C → List (Symbol C) → Bool
begins same [] xs = true
begins same (c ∷ cs) [] = false
begins same (c ∷ cs) (x ∷ xs) = both (same c x.class) (begins same cs xs)

-- the symbols do not begin as a rule forbids
abbrev pub Allowed : {C : Type 0} → (C → C → Bool) → Option (List C) → List (Symbol C) → Type 0
Allowed same none xs = Unit {0}
Allowed same (some cs) xs = begins same cs xs ≡ false

-- a forest is what these items say: for a class a symbol of that class, for a nonterminal one of its rules with what that rule says
pub data Fits {C N : Type 0} (G : Grammar C N) : List (Item C N) → Forest C N → Type 0 where
  done : Fits G [] nil
  take : {c : C} {x : Symbol C} {items : List (Item C N)} {forest : Forest C N} → x.class ≡ c → Fits G items forest → Fits G (symbol c ∷ items) (leaf x forest)
  apply : {A : N} {rule : Rule C N} {items : List (Item C N)} {parts forest : Forest C N} → Memᴰ rule (G.rules A)
      → Fits G rule.items parts → Allowed G.same rule.never (yield parts) → Fits G items forest → Fits G (nonterminal A ∷ items) (branch rule parts forest)

-- a forest is a derivation of these symbols from a nonterminal
pub record Derived {C N : Type 0} (G : Grammar C N) (A : N) (forest : Forest C N) (xs : List (Symbol C)) : Type 0 where
  pub fits : Fits G (nonterminal A ∷ []) forest
  pub yields : yield forest ≡ xs
