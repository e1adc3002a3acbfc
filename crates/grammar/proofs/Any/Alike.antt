-- Two relations of derivation with the same lists: what is right of the one is right of the other. Assumes nothing.
use Prim.Native.Nat.{ℕ, ◌≤◌}
use native.Mathlib.Omega.{arith}
use mathlib.Core.Path.{◌≡◌, sym, ap, ◌∙◌}
use mathlib.Core.List.{List}
use Rattle.scanner.specs.Believed.Symbols.{Symbol}
use Rattle.grammar.specs.Believed.Language.{AtMost, GoesOn, FirstRefused, unfit, unfinished, too_deep, Verdict, accepted, refused, Right}
use Rattle.grammar.specs.Executable.Machines.{verdict_as}

module _ {C T U : Type 0} (D : T → List (Symbol C) → Type 0) (n : T → ℕ) (E : U → List (Symbol C) → Type 0) (m : U → ℕ) where
  -- what goes on alike is first refused alike
  abbrev pub first_alike : (limit : ℕ) → ((xs : List (Symbol C)) → GoesOn D n (AtMost limit) xs → GoesOn E m (AtMost limit) xs)
      → ((xs : List (Symbol C)) → GoesOn E m (AtMost limit) xs → GoesOn D n (AtMost limit) xs) → {xs rest : List (Symbol C)} → FirstRefused D n limit xs rest → FirstRefused E m limit xs rest
  first_alike limit to back f =
      record {
        before = f.before;
        x = f.x;
        after = f.after;
        place = f.place;
        splits = f.splits;
        earlier = λ p y q e. to _ (f.earlier p y q e);
        here = λ g. f.here (back _ g);
      }

module _ {C T U : Type 0} (D : T → List (Symbol C) → Type 0) (n : T → ℕ) (E : U → List (Symbol C) → Type 0) (m : U → ℕ) where
  -- each derivation of the one is one of the other, of the same levels, and each of the other is such
  pub record Alike (to : T → U) : Type 0 where
    pub derived : {t : T} {xs : List (Symbol C)} → D t xs → E (to t) xs
    pub tree : {u : U} {xs : List (Symbol C)} → E u xs → (t : T) × (u ≡ to t) × D t xs
    pub levels : (t : T) → m (to t) ≡ n t

  module _ (to : T → U) (a : Alike to) where
    pub goes_to : (Levels : ℕ → Type 0) (xs : List (Symbol C)) → GoesOn D n Levels xs → GoesOn E m Levels xs
    goes_to Levels xs g = record { more = g.more; derivation = to g.derivation; derived = a.derived g.derived; counted = rw (a.levels g.derivation) g.counted }

    pub goes_back : (Levels : ℕ → Type 0) (xs : List (Symbol C)) → GoesOn E m Levels xs → GoesOn D n Levels xs
    goes_back Levels xs g =
        let (t, e, d) = a.tree g.derived in
        record { more = g.more; derivation = t; derived = d; counted = rw (a.levels t) at (rw e at g.counted) }

    none_alike : {limit : ℕ} {xs : List (Symbol C)} → ((t : T) → D t xs → n t ≤ limit → ⊥) → (u : U) → E u xs → m u ≤ limit → ⊥
    none_alike {limit} f u d v =
        let (t, e, d') = a.tree d in
        let w : m (to t) ≤ limit = rw e at v in
        f t d' (omega (arith, a.levels t))

    pub right_alike : (limit : ℕ) (xs : List (Symbol C)) (v : Verdict C T) → Right D n limit xs v → Right E m limit xs (verdict_as to v)
    right_alike limit xs (accepted t) r = (a.derived r.0, omega (arith, a.levels t, r.1))
    right_alike limit xs (refused unfinished rest) r = (r.0, λ place f. r.1 place (first_alike E m D n limit (goes_back (AtMost limit)) (goes_to (AtMost limit)) f), none_alike r.2)
    right_alike limit xs (refused unfit rest) r = (first_alike D n E m limit (goes_to (AtMost limit)) (goes_back (AtMost limit)) r.0, λ g. r.1 (goes_back _ _ g))
    right_alike limit xs (refused too_deep rest) r = (first_alike D n E m limit (goes_to (AtMost limit)) (goes_back (AtMost limit)) r.0, goes_to _ _ r.1)

    -- exactly one derivation
    pub one_alike : ((t t' : T) (xs : List (Symbol C)) → D t xs → D t' xs → t ≡ t') → (u u' : U) (xs : List (Symbol C)) → E u xs → E u' xs → u ≡ u'
    one_alike one u u' xs d d' =
        let (t, e, f) = a.tree d in
        let (t', e', f') = a.tree d' in
        e ∙ ap to (one t t' xs f f') ∙ sym e'
