-- What a machine accepts has a derivation, if each state stands for the symbols that were read, each step keeps that, and what is given at the end is derived. Assumes nothing.
use Prim.Native.Nat.{ℕ}
use mathlib.Core.Path.{◌≡◌, refl}
use mathlib.Core.List.{List, [], ◌∷◌}
use mathlib.Core.Option.{Option, none, some}
use Rattle.scanner.specs.Believed.Symbols.{Symbol}
use Rattle.grammar.specs.Believed.Language.{Verdict, accepted, refused}
use Rattle.grammar.specs.Executable.Machines.{Step, go, stop, Result, ended, stopped, after, run_by, at_end, verdict_by}

-- a step that goes on leads to such a state
abbrev pub Going : {S : Type 0} → (S → Type 0) → Step S → Type 0
Going P (go s) = P s
Going P (stop why) = Unit {0}

-- what is given, if anything is, is such
abbrev pub Given : {T : Type 0} → (T → Type 0) → Option T → Type 0
Given P none = Unit {0}
Given P (some t) = P t

-- `then s xs` are the symbols that a state stands for, and then others; `good n s` is what else is known of it
module _ {C S : Type 0} (good : ℕ → S → Type 0) (then : S → List (Symbol C) → List (Symbol C)) where
  -- a state that stands for these symbols and then others, and is good
  abbrev pub Stands : ℕ → List (Symbol C) → List (Symbol C) → S → Type 0
  Stands n xs ys s = good n s × (then s xs ≡ ys)

  module _ (step : ℕ → S → Symbol C → Step S) (keeps : (n : ℕ) (s : S) (x : Symbol C) (xs : List (Symbol C)) → good n s → Going (Stands n xs (then s (x ∷ xs))) (step n s x)) where
    abbrev Ends : ℕ → List (Symbol C) → Result C S → Type 0
    Ends n ys (ended s) = Stands n [] ys s
    Ends n ys (stopped why xs) = Unit {0}

    step_ends : (n : ℕ) (s : S) (x : Symbol C) (xs : List (Symbol C)) (st : Step S) → Going (Stands n xs (then s (x ∷ xs))) st
        → ((s' : S) → good n s' → Ends n (then s' xs) (run_by step n s' xs)) → Ends n (then s (x ∷ xs)) (after st (λ s'. run_by step n s' xs) (x ∷ xs))
    step_ends n s x xs (go s') g f = rw g.1 at (f s' g.0)
    step_ends n s x xs (stop why) g f = tt

    run_ends : (n : ℕ) (s : S) (xs : List (Symbol C)) → good n s → Ends n (then s xs) (run_by step n s xs)
    run_ends n s [] g = (g, refl)
    run_ends n s (x ∷ xs) g = step_ends n s x xs (step n s x) (keeps n s x xs g) (λ s' g'. run_ends n s' xs g')

    module _ {T : Type 0} (Accept : ℕ → List (Symbol C) → T → Type 0) (finish : S → Option T) (gives : (n : ℕ) (s : S) → good n s → Given (Accept n (then s [])) (finish s)) where
      abbrev Accepts : ℕ → List (Symbol C) → Verdict C T → Type 0
      Accepts n xs (accepted t) = Accept n xs t
      Accepts n xs (refused why rest) = Unit {0}

      at_end_lem : (n : ℕ) (xs : List (Symbol C)) (o : Option T) → Given (Accept n xs) o → Accepts n xs (at_end o)
      at_end_lem n xs none g = tt
      at_end_lem n xs (some t) g = g

      accepts : (n : ℕ) (xs : List (Symbol C)) (r : Result C S) → Ends n xs r → Accepts n xs (verdict_by finish r)
      accepts n xs (ended s) e = at_end_lem n xs (finish s) (rw e.1 at (gives n s e.0))
      accepts n xs (stopped why rest) e = tt

      -- from a state that stands for nothing
      pub sound : (n : ℕ) (start : S) (xs : List (Symbol C)) (t : T) → good n start → then start xs ≡ xs → verdict_by finish (run_by step n start xs) ≡ accepted t → Accept n xs t
      sound n start xs t g q e = rw e at (accepts n xs (run_by step n start xs) (rw q at (run_ends n start xs g)))
