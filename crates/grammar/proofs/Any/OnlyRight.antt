-- A right verdict is the only right one, over any relation with one derivation for each list of symbols. Assumes nothing.
use Prim.Native.Nat.{ℕ, ◌≤◌}
use native.Mathlib.Omega.{arith}
use native.Mathlib.Decide.{dec_le}
use mathlib.Core.Path.{◌≡◌, refl, sym, ap, ◌∙◌}
use mathlib.Core.List.{List, [], ◌∷◌, ◌++◌, append_assoc, append-nil, head-eq_of_cons-eq, tail-eq_of_cons-eq}
use Rattle.scanner.specs.Believed.Symbols.{Symbol}
use Rattle.grammar.specs.Believed.Language.{AtMost, MoreThan, up_to, GoesOn, FirstRefused, unfit, unfinished, too_deep, Verdict, accepted, refused, Right}

-- two splits of one list: the same, or the first or the second is the shorter
data Splits {C : Type 0} (p : List (Symbol C)) (x : Symbol C) (y : List (Symbol C)) (p' : List (Symbol C)) (x' : Symbol C) (y' : List (Symbol C)) : Type 0 where
  same : p ≡ p' → x ≡ x' → y ≡ y' → Splits p x y p' x' y'
  shorter : (q : List (Symbol C)) → p' ≡ p ++ (x ∷ q) → Splits p x y p' x' y'
  longer : (q : List (Symbol C)) → p ≡ p' ++ (x' ∷ q) → Splits p x y p' x' y'

module _ {C : Type 0} where
  splits_cons : (a b : Symbol C) (p : List (Symbol C)) (x : Symbol C) (y p' : List (Symbol C)) (x' : Symbol C) (y' : List (Symbol C))
      → a ≡ b → Splits p x y p' x' y' → Splits (a ∷ p) x y (b ∷ p') x' y'
  splits_cons a b p x y p' x' y' e (same f g h) = same (cc) g h
  splits_cons a b p x y p' x' y' e (shorter q h) = shorter q (cc)
  splits_cons a b p x y p' x' y' e (longer q h) = longer q (cc)

  splits : (p : List (Symbol C)) (x : Symbol C) (y p' : List (Symbol C)) (x' : Symbol C) (y' : List (Symbol C))
      → p ++ (x ∷ y) ≡ p' ++ (x' ∷ y') → Splits p x y p' x' y'
  splits [] x y [] x' y' e = same refl (cc) (cc)
  splits [] x y (b ∷ p') x' y' e = shorter p' (ap (λ c. c ∷ p') (sym (head-eq_of_cons-eq e)))
  splits (a ∷ p) x y [] x' y' e = longer p (ap (λ c. c ∷ p) (head-eq_of_cons-eq e))
  splits (a ∷ p) x y (b ∷ p') x' y' e = splits_cons a b p x y p' x' y' (head-eq_of_cons-eq e) (splits p x y p' x' y' (tail-eq_of_cons-eq e))

module _ {C T : Type 0} (Derives : T → List (Symbol C) → Type 0) (levels : T → ℕ) where
  -- what goes on goes on at each of its symbols
  pub goes_on_at : (Levels : ℕ → Type 0) (p : List (Symbol C)) (x : Symbol C) (q xs : List (Symbol C)) → xs ≡ p ++ (x ∷ q)
      → GoesOn Derives levels Levels xs → GoesOn Derives levels Levels (up_to p x)
  goes_on_at Levels p x q xs e g =
      let f : xs ≡ up_to p x ++ q = e ∙ sym (append_assoc p (x ∷ []) q) in
      let d : Derives g.derivation ((up_to p x ++ q) ++ g.more) = rw f at g.derived in
      record { more = q ++ g.more; derivation = g.derivation; derived = rw (append_assoc (up_to p x) q g.more) at d; counted = g.counted }

  -- a list goes on as itself
  pub goes_on_whole : (Levels : ℕ → Type 0) (t : T) (xs : List (Symbol C)) → Derives t xs → Levels (levels t) → GoesOn Derives levels Levels xs
  goes_on_whole Levels t xs d l = record { more = []; derivation = t; derived = rw append-nil d; counted = l }

  module _ (limit : ℕ) where
    -- where there is a first refused symbol, the whole does not go on
    pub refused_whole : {xs rest : List (Symbol C)} → FirstRefused Derives levels limit xs rest → GoesOn Derives levels (AtMost limit) xs → ⊥
    refused_whole {xs} f g = f.here (goes_on_at (AtMost limit) f.before f.x f.after xs (cc) g)

    -- there is only one first refused symbol
    pub same_first : {xs rest rest' : List (Symbol C)} (f : FirstRefused Derives levels limit xs rest) (g : FirstRefused Derives levels limit xs rest')
        → (rest ≡ rest') × (up_to f.before f.x ≡ up_to g.before g.x)
    same_first {xs} {rest} {rest'} f g = by (splits f.before f.x f.after g.before g.x g.after (cc))
      where
        by : Splits f.before f.x f.after g.before g.x g.after → (rest ≡ rest') × (up_to f.before f.x ≡ up_to g.before g.x)
        by (same p x y) = (cc, cc)
        by (shorter q h) = absurd (f.here (g.earlier f.before f.x q h))
        by (longer q h) = absurd (g.here (f.earlier g.before g.x q h))

    -- what 8 refuses has no derivation, whatever its levels
    pub unfit_none : {xs rest : List (Symbol C)} → Right Derives levels limit xs (refused unfit rest) → (t : T) → Derives t xs → ⊥
    unfit_none {xs} r t d = by (dec_le (levels t) limit)
      where
        by : Dec (levels t ≤ limit) → ⊥
        by (yes h) = refused_whole r.0 (goes_on_whole (AtMost limit) t xs d h)
        by (no h) =
            let e : xs ≡ r.0.before ++ (r.0.x ∷ r.0.after) = r.0.splits ∙ ap (λ l. r.0.before ++ l) r.0.place in
            r.1 (goes_on_at (MoreThan limit) r.0.before r.0.x r.0.after xs e (goes_on_whole (MoreThan limit) t xs d (omega arith)))

    module _ (one : (t u : T) (xs : List (Symbol C)) → Derives t xs → Derives u xs → t ≡ u) (xs : List (Symbol C)) where
      -- two right verdicts are the same
      pub only_right : (v w : Verdict C T) → Right Derives levels limit xs v → Right Derives levels limit xs w → v ≡ w
      only_right (accepted t) (accepted u) a b = ap accepted (one t u xs a.0 b.0)
      only_right (accepted t) (refused unfit r) a b = absurd (refused_whole b.0 (goes_on_whole (AtMost limit) t xs a.0 a.1))
      only_right (accepted t) (refused unfinished r) a b = absurd (b.2 t a.0 a.1)
      only_right (accepted t) (refused too_deep r) a b = absurd (refused_whole b.0 (goes_on_whole (AtMost limit) t xs a.0 a.1))
      only_right (refused unfit r) (accepted u) a b = absurd (refused_whole a.0 (goes_on_whole (AtMost limit) u xs b.0 b.1))
      only_right (refused unfit r) (refused unfit s) a b = ap (refused unfit) (same_first a.0 b.0).0
      only_right (refused unfit r) (refused unfinished s) a b = absurd (b.1 r a.0)
      only_right (refused unfit r) (refused too_deep s) a b = absurd (a.1 (rw (← (same_first a.0 b.0).1) at b.1))
      only_right (refused unfinished r) (accepted u) a b = absurd (a.2 u b.0 b.1)
      only_right (refused unfinished r) (refused unfit s) a b = absurd (a.1 s b.0)
      only_right (refused unfinished r) (refused unfinished s) a b = ap (refused unfinished) (a.0 ∙ sym b.0)
      only_right (refused unfinished r) (refused too_deep s) a b = absurd (a.1 s b.0)
      only_right (refused too_deep r) (accepted u) a b = absurd (refused_whole a.0 (goes_on_whole (AtMost limit) u xs b.0 b.1))
      only_right (refused too_deep r) (refused unfit s) a b = absurd (b.1 (rw (← (same_first b.0 a.0).1) at a.1))
      only_right (refused too_deep r) (refused unfinished s) a b = absurd (b.1 r a.0)
      only_right (refused too_deep r) (refused too_deep s) a b = ap (refused too_deep) (same_first a.0 b.0).0
