-- The pairs of length and first letter of the known names differ: so at most one has a name's, and only that one can agree. Assumes nothing.
use mathlib.Core.Path.{◌≡◌, refl, sym, ap, ap₂, ◌∙◌}
use mathlib.Core.Bool.{Bool, true, false, not, true≢false}
use mathlib.Core.List.{List, [], ◌∷◌, map}
use Prim.Native.Nat.{ℕ, suc, ◌+◌}
use native.Mathlib.Omega.{arith}
use borrow.Author.Tests.{eq-eqb, eqb-true, not-true}
use lib.Dec.{eqb}
use lib.ListN.{length, length-map, take, drop}
use Rattle.octets.specs.Believed.Choice.{pick, both, either}
use Rattle.octets.specs.Believed.Letters.{lower, same, same_bytes, same_letters}
use Rattle.octets.proofs.ChoiceLaws.{both_parts, neither_parts}
use Rattle.octets.proofs.LetterLaws.{same_true, same_by_map}
use Rattle.header.specs.Believed.Names.{KnownName, known_names, known_in, same_length_and_first, one_has, compared_of}
use Rattle.header.specs.declared.names.Known.TheVariants.{Other}

-- a name that agrees with a text has its length and first letter
pub agreeing : (name text : List ℕ) → same_letters name text ≡ true → same_length_and_first name text ≡ true
unfolding same_length_and_first same
agreeing [] [] e = refl
agreeing [] (b ∷ text) e = absurd (let z : ◌≡◌ {A = ℕ} 0 1 = cc in omega arith)
agreeing (a ∷ name) [] e = absurd (let z : ◌≡◌ {A = ℕ} 0 1 = cc in omega arith)
agreeing (a ∷ name) (b ∷ text) e =
    let (h, t) = both_parts (eqb (lower a) (lower b)) (same lower name text) e in
    let n = sym (length-map name lower) ∙ ap (λ l. length l) (same_true lower name text t) ∙ length-map text lower in
    rw (eq-eqb (suc (length name)) (suc (length text)) (ap suc n), h)

-- so where it has not, it does not agree
pub differing : (name text : List ℕ) → same_length_and_first name text ≡ false → same_letters name text ≡ false
differing name text e = of (same_letters name text) refl
  where
    of : (t : Bool) → same_letters name text ≡ t → t ≡ false
    of true h = absurd (true≢false (sym (agreeing name text h) ∙ e))
    of false h = refl

-- a name with a text's length and first letter agrees with it if it does past that letter
pub past_first : (name text : List ℕ) → same_length_and_first name text ≡ true → (length name ≡ length text) × (same_letters name text ≡ same_letters (drop 1 name) (drop 1 text))
unfolding same_length_and_first same
past_first name text e =
    let (h, t) = both_parts (eqb (length name) (length text)) (same_letters (take 1 name) (take 1 text)) e in
    let n = eqb-true (length name) (length text) h in (n, go name text n t)
  where
    go : (x y : List ℕ) → length x ≡ length y → same_letters (take 1 x) (take 1 y) ≡ true → same_letters x y ≡ same_letters (drop 1 x) (drop 1 y)
    go [] [] n t = refl
    go [] (b ∷ y) n t = absurd (omega (arith, n))
    go (a ∷ x) [] n t = absurd (omega (arith, n))
    go (a ∷ x) (b ∷ y) n t = rw (both_parts (eqb (lower a) (lower b)) true t).0

-- a name and a text that have one length and first letter share them with the same other texts
pub sharing : (name text other : List ℕ) → same_length_and_first name text ≡ true → same_length_and_first name other ≡ same_length_and_first text other
unfolding same_length_and_first
sharing name text other e =
    let (h, t) = both_parts (eqb (length name) (length text)) (same_letters (take 1 name) (take 1 text)) e in
    let n = eqb-true (length name) (length text) h in
    let f = same_true lower (take 1 name) (take 1 text) t in
    ap₂ (λ l s. both (eqb l (length other)) s) n
    (same_by_map lower (take 1 name) (take 1 other)
    ∙ ap (λ l. same_bytes l (map lower (take 1 other))) f
    ∙ sym (same_by_map lower (take 1 text) (take 1 other)))

-- and with the same known names
pub one_shared : (names : List KnownName) (name text : List ℕ) → same_length_and_first name text ≡ true → one_has names name ≡ one_has names text
unfolding one_has
one_shared [] name text e = refl
one_shared (k ∷ rest) name text e = ap₂ either (sharing name text k.text e) (one_shared rest name text e)

-- where none has a name's length and first letter, none agrees
pub none_agrees : (names : List KnownName) (name : List ℕ) → one_has names name ≡ false → known_in names name ≡ Other
unfolding one_has known_in
none_agrees [] name e = refl
none_agrees (k ∷ rest) name e =
    let (h, t) = neither_parts (same_length_and_first name k.text) (one_has rest name) e in rw (differing name k.text h) (none_agrees rest name t)

-- each of these names has another pair of length and first letter
unfoldable pub pairs_differ : List KnownName → Bool
pairs_differ [] = true
pairs_differ (k ∷ rest) = both (not (one_has rest k.text)) (pairs_differ rest)

-- the six pairs differ
pub known_differ : pairs_differ known_names ≡ true
unfolding known_names pairs_differ one_has same_length_and_first same lower
known_differ = refl

-- how many of these names have a name's length and first letter
unfoldable pub many_have : List KnownName → List ℕ → ℕ
many_have [] name = 0
many_have (k ∷ rest) name = pick (same_length_and_first name k.text) 1 0 + many_have rest name

-- that is one if one has, else none
pub one_or_none : (names : List KnownName) (name : List ℕ) → pairs_differ names ≡ true → many_have names name ≡ pick (one_has names name) 1 0
unfolding pairs_differ one_has many_have
one_or_none [] name p = refl
one_or_none (k ∷ rest) name p =
    let (d, q) = both_parts (not (one_has rest k.text)) (pairs_differ rest) p in
    by (same_length_and_first name k.text) refl (not-true _ d) (one_or_none rest name q)
  where
    by : (t : Bool) → same_length_and_first name k.text ≡ t → one_has rest k.text ≡ false → many_have rest name ≡ pick (one_has rest name) 1 0
        → pick t 1 0 + many_have rest name ≡ pick (either t (one_has rest name)) 1 0
    by true e d r = let n : many_have rest name ≡ 0 = r ∙ rw (one_shared rest name k.text e ∙ d) in omega (arith, n)
    by false e d r = omega (arith, r)

-- so is the count of the known names
pub known_counted : (name : List ℕ) → many_have known_names name ≡ compared_of name
known_counted name = one_or_none known_names name known_differ
