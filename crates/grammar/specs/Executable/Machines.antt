-- The executable layer: a machine that takes one symbol at a step, and what it finds. Nothing here needs to be believed: what the verdict is `Decides` says, over the grammar alone.
use Rattle.std.specs.Prelude.{ℕ, Bool, List, [], ◌∷◌}
use Rattle.std.proofs.Math.Option.{Option, none, some}
use Rattle.octets.specs.Believed.Choice.{pick}
use Rattle.scanner.specs.Believed.Symbols.{Lexeme, Symbol}
use Rattle.grammar.specs.Believed.Language.{Refusal, unfit, unfinished, Verdict, accepted, refused}

-- a step goes on to a state, or stops
pub data Step (S : Type 0) : Type 0 where
  go : S → Step S
  stop : Refusal → Step S

-- a run comes to a state at the end, or stops before these symbols
pub data Result (C S : Type 0) : Type 0 where
  ended : S → Result C S
  stopped : Refusal → List (Symbol C) → Result C S

abbrev pub after : {C S : Type 0} → Step S → (S → Result C S) → List (Symbol C) → Result C S
after (go s) run xs = run s
after (stop why) run xs = stopped why xs

-- `step` takes the number of levels, a state and a symbol
abbrev pub run_by : {C S : Type 0} → (ℕ → S → Symbol C → Step S) → ℕ → S → List (Symbol C) → Result C S
run_by step n s [] = ended s
run_by step n s (x ∷ xs) = after (step n s x) (λ s'. run_by step n s' xs) (x ∷ xs)

abbrev pub at_end : {C T : Type 0} → Option T → Verdict C T
at_end none = refused unfinished []
at_end (some t) = accepted t

-- `finish` gives the derivation, if a state is the end of one
abbrev pub verdict_by : {C S T : Type 0} → (S → Option T) → Result C S → Verdict C T
verdict_by finish (ended s) = at_end (finish s)
verdict_by finish (stopped why xs) = refused why xs

-- a verdict in terms of other derivations
abbrev pub verdict_as : {C T U : Type 0} → (T → U) → Verdict C T → Verdict C U
verdict_as f (accepted t) = accepted (f t)
verdict_as f (refused why rest) = refused why rest

-- the state in which a run stops, or ends
abbrev pub stands_after : {S : Type 0} → Step S → (S → S) → S → S
stands_after (go s) more here = more s
stands_after (stop why) more here = here

abbrev pub stands_by : {C S : Type 0} → (ℕ → S → Symbol C → Step S) → ℕ → S → List (Symbol C) → S
stands_by step n s [] = s
stands_by step n s (x ∷ xs) = stands_after (step n s x) (λ s'. stands_by step n s' xs) s

-- ---- given by the arrows of each state: a class, and the state that a symbol of it leads to

pub record Arrow (C S : Type 0) : Type 0 where
  pub class : C
  pub to : Lexeme → S

abbrev pub on : {C S : Type 0} → C → (Lexeme → S) → Arrow C S
on c f = record { class = c; to = f }

-- where the first arrow of the symbol's class leads
abbrev pub look : {C S : Type 0} → (C → C → Bool) → List (Arrow C S) → Symbol C → Option S
look same [] x = none
look same (a ∷ arrows) x = pick (same a.class x.class) (some (a.to x.lexeme)) (look same arrows x)

abbrev pub taken : {S : Type 0} → Option S → Step S
taken none = stop unfit
taken (some s) = go s

abbrev pub step_by : {C S : Type 0} → (C → C → Bool) → (S → List (Arrow C S)) → ℕ → S → Symbol C → Step S
step_by same arrows n s x = taken (look same (arrows s) x)
