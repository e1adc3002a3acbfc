-- Whether an atom and ":" follow a ":". Assumes nothing.
use mathlib.Core.Path.{◌≡◌, ap, ◌∙◌}
use mathlib.Core.Bool.{Bool, false}
use mathlib.Core.List.{List, [], ◌∷◌}
use Prim.Native.Nat.{ℕ}
use native.Mathlib.Omega.{arith}
use Rattle.scanner.specs.Believed.Answers.{found_at}
use Rattle.grammar.specs.Believed.Rfc733.{same_class}
use Rattle.grammar.specs.Executable.Trees733.{Class, Atom, Colon}
use Rattle.grammar.proofs.Rfc733.Trees.{atom_colon}
use Rattle.addresses.specs.Ties.Steps.{symbols_from, lexeme_at, symbol_at, TypedFollows}
use Rattle.addresses.proofs.NextLaws.{NextIs}

module _ (classes text : List ℕ) where
  pub nothing : (at : ℕ) → symbols_from classes text at ≡ [] → atom_colon (symbols_from classes text at) ≡ false
  nothing at e = ap atom_colon e

  pub no_atom : {at a b size : ℕ} {apart : Bool} {class : Class} → NextIs classes text at (found_at class a b size apart) → same_class Atom class ≡ false → atom_colon (symbols_from classes text at) ≡ false
  no_atom x f = ap atom_colon x.same ∙ rw f

  pub nothing_behind : {at a b size : ℕ} {apart : Bool} → NextIs classes text at (found_at Atom a b size apart) → symbols_from classes text b ≡ [] → atom_colon (symbols_from classes text at) ≡ false
  nothing_behind x e = ap atom_colon x.same ∙ rw e

  pub no_colon : {at a b size i j length' : ℕ} {apart apart' : Bool} {class : Class} → NextIs classes text at (found_at Atom a b size apart) → NextIs classes text b (found_at class i j length' apart') → same_class Colon class ≡ false → atom_colon (symbols_from classes text at) ≡ false
  no_colon x y f = ap atom_colon x.same ∙ rw (y.same, f)

  pub typed_follows : {at a b size i j length' : ℕ} {apart apart' : Bool} → NextIs classes text at (found_at Atom a b size apart) → NextIs classes text b (found_at Colon i j length' apart') → TypedFollows classes text at a b j
  typed_follows {a = a} {b = b} {i = i} {j = j} {apart = apart} {apart' = apart'} x y =
      record {
        colon = lexeme_at classes text Colon i j apart';
        atom_apart = apart;
        yields = x.same ∙ ap (λ ys. symbol_at classes text Atom a b apart ∷ ys) y.same;
        from = x.ok.0;
        atom_starts = x.ok.1.starts;
        end_before = omega (arith, y.ok.0, y.ok.1.starts);
        within = y.ok.1.within;
      }
