-- What condition 3 says, over any relation `Derives t xs`, "t is a derivation of the symbols xs", and the levels of a derivation.
-- A list is any finite sequence of symbols that has a derivation.
use Rattle.std.specs.Prelude.{ℕ, ◌≤◌, ◌<◌, ◌≡◌, List, [], ◌∷◌, ◌++◌}
use Rattle.octets.specs.Believed.Numbers.{no_list_goes_on, ends_too_soon, too_many_levels}
use Rattle.octets.specs.Believed.Numbers as numbers
use Rattle.scanner.specs.Believed.Symbols.{Symbol}

-- why a body is refused
pub data Refusal : Type 0 where
  unfit unfinished too_deep : Refusal

-- 8, 9 or 10
abbrev pub number : Refusal → ℕ
number unfit = no_list_goes_on
number unfinished = ends_too_soon
number too_deep = too_many_levels

-- what a reader finds: the derivation; or the refusal and the symbols from its place on, none of them where the body ends too soon
pub data Verdict (C T : Type 0) : Type 0 where
  accepted : T → Verdict C T
  refused : Refusal → List (Symbol C) → Verdict C T

-- the number of a verdict
abbrev pub verdict_number : {C T : Type 0} → Verdict C T → ℕ
verdict_number (accepted t) = numbers.accepted
verdict_number (refused why rest) = number why

-- the position of the first of these symbols; where there is none, this position
abbrev pub start_of : {C : Type 0} → ℕ → List (Symbol C) → ℕ
start_of position [] = position
start_of position (x ∷ xs) = x.lexeme.start

-- the position of a verdict on a body with this end
abbrev pub verdict_position : {C T : Type 0} → ℕ → Verdict C T → ℕ
verdict_position body_end (accepted t) = 0
verdict_position body_end (refused why rest) = start_of body_end rest

-- numbers of levels
abbrev pub AtMost : ℕ → ℕ → Type 0
AtMost limit n = n ≤ limit

abbrev pub MoreThan : ℕ → ℕ → Type 0
MoreThan limit n = limit < n

-- the symbols up to and including this one
abbrev pub up_to : {C : Type 0} → List (Symbol C) → Symbol C → List (Symbol C)
up_to before x = before ++ (x ∷ [])

module _ {C T : Type 0} (Derives : T → List (Symbol C) → Type 0) (levels : T → ℕ) where
  -- some list, of any length and with such a number of levels, starts with these symbols
  pub record GoesOn (Levels : ℕ → Type 0) (xs : List (Symbol C)) : Type 0 where
    pub more : List (Symbol C)
    pub derivation : T
    pub derived : Derives derivation (xs ++ more)
    pub counted : Levels (levels derivation)

  -- `rest` begins with the first symbol of `xs` at which no list of at most `limit` levels goes on
  pub record FirstRefused (limit : ℕ) (xs rest : List (Symbol C)) : Type 0 where
    pub before : List (Symbol C)
    pub x : Symbol C
    pub after : List (Symbol C)
    pub place : rest ≡ x ∷ after
    pub splits : xs ≡ before ++ rest
    pub earlier : (p : List (Symbol C)) (y : Symbol C) (q : List (Symbol C)) → before ≡ p ++ (y ∷ q) → GoesOn (AtMost limit) (up_to p y)
    pub here : GoesOn (AtMost limit) (up_to before x) → ⊥

  -- some list of more levels goes on at the first refused symbol
  abbrev pub DeeperGoesOn : {limit : ℕ} {xs rest : List (Symbol C)} → FirstRefused limit xs rest → Type 0
  DeeperGoesOn {limit} f = GoesOn (MoreThan limit) (up_to f.before f.x)

  -- a verdict on the symbols of a body is right: a derivation of at most `limit` levels;
  -- or at the first refused symbol 10 if a list of more levels goes on there, else 8;
  -- or, where there is no refused symbol and no such derivation, 9
  abbrev pub Right : ℕ → List (Symbol C) → Verdict C T → Type 0
  Right limit xs (accepted t) = Derives t xs × AtMost limit (levels t)
  Right limit xs (refused too_deep rest) = (f : FirstRefused limit xs rest) × DeeperGoesOn f
  Right limit xs (refused unfit rest) = (f : FirstRefused limit xs rest) × (DeeperGoesOn f → ⊥)
  Right limit xs (refused unfinished rest) =
      (rest ≡ []) × ((place : List (Symbol C)) → FirstRefused limit xs place → ⊥) × ((t : T) → Derives t xs → AtMost limit (levels t) → ⊥)
