-- A machine that is given by the arrows of each state: a class, and the state that a symbol of it leads to. It asks for no level. Assumes nothing.
use Prim.Native.Nat.{ℕ, ◌≤◌}
use native.Mathlib.Omega.{arith}
use mathlib.Core.Path.{◌≡◌, refl, ap, ◌∙◌}
use mathlib.Core.Bool.{Bool, true, false}
use mathlib.Core.List.{List, [], ◌∷◌}
use mathlib.Core.Option.{Option, none, some}
use Rattle.octets.specs.Believed.Choice.{pick}
use Rattle.scanner.specs.Believed.Symbols.{Lexeme, Symbol}
use Rattle.grammar.specs.Believed.Language.{AtMost, MoreThan, GoesOn, unfit, unfinished, too_deep, Verdict, accepted, refused, Right}
use Rattle.grammar.specs.Executable.Machines.{run_by, verdict_by, Arrow, look, taken, step_by}
use Rattle.grammar.proofs.Any.Sound.{Going, Given, Stands, sound}
use Rattle.grammar.proofs.Any.Alike.{first_alike}
use Rattle.grammar.proofs.Any.Machine.{Steady, Machine}
use Rattle.grammar.proofs.Any.Pieces.{mark}

taken_steady : {S : Type 0} (n : ℕ) (o : Option S) → Steady n (λ m. taken o) (taken o)
taken_steady n none = λ m. refl
taken_steady n (some s) = λ m h. refl

-- `then s xs` are the symbols that a state stands for, and then others: arrows keep them
abbrev pub Keeps : {C S : Type 0} → (S → List (Symbol C) → List (Symbol C)) → S → List (Arrow C S) → Type 0
Keeps then s [] = Unit {0}
Keeps {C} then s (a ∷ others) = ((t : Lexeme) (xs : List (Symbol C)) → then (a.to t) xs ≡ then s (mark a.class t ∷ xs)) × Keeps then s others

module _ {C S : Type 0} (same : C → C → Bool) (same-only : (c d : C) → same c d ≡ true → c ≡ d) (arrows : S → List (Arrow C S)) (then : S → List (Symbol C) → List (Symbol C)) where
  -- the arrow that is taken keeps them
  look_keeps : (n : ℕ) (s : S) (others : List (Arrow C S)) → Keeps then s others → (x : Symbol C) (xs : List (Symbol C)) → Going (Stands (λ n s. Unit {0}) then n xs (then s (x ∷ xs))) (taken (look same others x))
  look_keeps n s [] k x xs = tt
  look_keeps n s (a ∷ others) k x xs = by (same a.class x.class) refl (look_keeps n s others k.1 x xs)
    where
      by : (b : Bool) → same a.class x.class ≡ b → Going (Stands (λ n s. Unit {0}) then n xs (then s (x ∷ xs))) (taken (look same others x))
          → Going (Stands (λ n s. Unit {0}) then n xs (then s (x ∷ xs))) (taken (pick b (some (a.to x.lexeme)) (look same others x)))
      by true e l = (tt, k.0 x.lexeme xs ∙ ap (λ c. then s (mark c x.lexeme ∷ xs)) (same-only a.class x.class e))
      by false e l = l

  module _ {T : Type 0} (Derives : T → List (Symbol C) → Type 0) (finish : S → Option T) (start : S) where
    -- every arrow keeps them, the start stands for none, and what a state gives at the end is a derivation of them
    pub machine : ((s : S) → Keeps then s (arrows s)) → ((xs : List (Symbol C)) → then start xs ≡ xs) → ((s : S) → Given (λ t. Derives t (then s [])) (finish s))
        → ((n : ℕ) (t : T) (xs : List (Symbol C)) → Derives t xs → verdict_by finish (run_by (step_by same arrows) n start xs) ≡ accepted t)
        → ((n : ℕ) (s : S) → (ws : List (Symbol C)) × (t : T) × (verdict_by finish (run_by (step_by same arrows) n s ws) ≡ accepted t))
        → Machine Derives (λ t. 0) (step_by same arrows) finish start
    machine keeps starts gives complete ending =
        record {
          complete = λ n t xs d h. complete n t xs d;
          sound = λ n t xs e.
              (sound (λ n s. Unit {0}) then (step_by same arrows) (λ n s x xs g. look_keeps n s (arrows s) (keeps s) x xs) (λ n xs t. Derives t xs) finish (λ n s g. gives s) n start xs t tt (starts xs) e, omega arith);
          ending = ending;
          steady = λ n s x. taken_steady n (look same (arrows s) x);
        }

-- ---- where no derivation has more than so many levels, a limit of that many is none

module _ {C T : Type 0} (Derives : T → List (Symbol C) → Type 0) (levels : T → ℕ) (most limit : ℕ) (below : most ≤ limit)
    (bounded : (t : T) (xs : List (Symbol C)) → Derives t xs → levels t ≤ most) where
  goes : (xs : List (Symbol C)) → GoesOn Derives (λ t. 0) (AtMost limit) xs → GoesOn Derives levels (AtMost limit) xs
  goes xs g =
      let h = bounded g.derivation _ g.derived in
      record { more = g.more; derivation = g.derivation; derived = g.derived; counted = omega arith }

  back : (xs : List (Symbol C)) → GoesOn Derives levels (AtMost limit) xs → GoesOn Derives (λ t. 0) (AtMost limit) xs
  back xs g = record { more = g.more; derivation = g.derivation; derived = g.derived; counted = omega arith }

  never_deeper : {xs : List (Symbol C)} → GoesOn Derives levels (MoreThan limit) xs → ⊥
  never_deeper g =
      let h = bounded g.derivation _ g.derived in
      let c = g.counted in
      omega arith

  pub right_bounded : (xs : List (Symbol C)) (v : Verdict C T) → Right Derives (λ t. 0) limit xs v → Right Derives levels limit xs v
  right_bounded xs (accepted t) r = (r.0, let h = bounded t xs r.0 in omega arith)
  right_bounded xs (refused unfinished rest) r = (r.0, λ place f. r.1 place (first_alike Derives levels Derives (λ t. 0) limit back goes f), λ t d h. r.2 t d (omega arith))
  right_bounded xs (refused unfit rest) r = (first_alike Derives (λ t. 0) Derives levels limit goes back r.0, λ g. never_deeper g)
  right_bounded xs (refused too_deep rest) r = absurd (let c = r.1.counted in omega arith)

  -- 10 never occurs
  pub never_too_deep : (xs rest : List (Symbol C)) → Right Derives levels limit xs (refused too_deep rest) → ⊥
  never_too_deep xs rest r = never_deeper r.1
