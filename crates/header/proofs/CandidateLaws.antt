-- The known name that a name's length and first letter leave. Assumes nothing.
use mathlib.Core.Path.{◌≡◌, refl, sym, ap, ap₂, ◌∙◌}
use mathlib.Core.Bool.{Bool, true, false, not, true≢false}
use mathlib.Core.Logic.{◌↔◌}
use mathlib.Core.List.{List, [], ◌∷◌, map}
use Prim.Native.Nat.{ℕ, zero, suc, ◌<◌}
use native.Mathlib.Omega.{arith}
use borrow.Author.Tests.{ne_eqb, not-true}
use lib.Dec.{eqb}
use lib.ListN.{length, length-map, drop, get_or}
use Rattle.std.specs.Prelude.{Option, Some, None, IsTrue}
use Rattle.std.specs.Bool.{MatchBool}
use Rattle.std.specs.List.{zip, AllWithin, HoldsAt}
use Rattle.std.specs.Option.{option_map}
use Rattle.std.proofs.lemmas.Option.{none-some, same_Some}
use Rattle.octets.proofs.LetterLaws.{same_self, same_true, same_by_map}
use Rattle.octets.specs.Believed.Choice.{pick, both}
use Rattle.octets.specs.Believed.Letters.{lower, same, same_letters}
use Rattle.octets.proofs.ChoiceLaws.{both_true, both_parts}
use Rattle.header.specs.Believed.Names.{KnownName, known_names, known_in, same_length_and_first, one_has, known_of, compared_of}
use Rattle.header.specs.Ties.Candidates.{candidate, in_small}
use Rattle.header.specs.declared.names.Known.{Known}
use Rattle.header.specs.declared.names.Known.TheVariants.{Other}
use Rattle.header.proofs.NameLaws.{past_first, differing, one_shared, none_agrees, pairs_differ, known_differ}

-- what a candidate says of a name among these
abbrev pub Leaves : List KnownName → List ℕ → Option KnownName → Type 0
Leaves names name None = (known_in names name ≡ Other) × (one_has names name ≡ false)
Leaves names name (Some k) = (known_in names name ≡ pick (same_letters name k.text) k.known Other) × (one_has names name ≡ true) × (same_length_and_first name k.text ≡ true)

-- none has a name's length and first letter, or one alone, and the name is that one or none
pub leaves : (names : List KnownName) (name : List ℕ) → pairs_differ names ≡ true → Leaves names name (candidate names name)
unfolding pairs_differ candidate one_has known_in
leaves [] name p = (refl, refl)
leaves (k ∷ rest) name p =
    let (d, q) = both_parts (not (one_has rest k.text)) (pairs_differ rest) p in
    by (same_length_and_first name k.text) refl (not-true _ d) (candidate rest name) (leaves rest name q)
  where
    by : (t : Bool) → same_length_and_first name k.text ≡ t → one_has rest k.text ≡ false → (o : Option KnownName) → Leaves rest name o
        → Leaves (k ∷ rest) name (pick t (Some k) o)
    by true e d o l =
        let n = none_agrees rest name (one_shared rest name k.text e ∙ d) in
        (rw n, rw e, e)
    by false e d None l = (rw (differing name k.text e) l.0, rw e l.1)
    by false e d (Some j) l = (rw (differing name k.text e) l.0, rw e l.1, l.2)

-- so it is with the known names
pub known_leaves : (name : List ℕ) → Leaves known_names name (candidate known_names name)
known_leaves name = leaves known_names name known_differ

-- the first of these names with this length and this first letter, made small
unfoldable pub candidate_by : List KnownName → ℕ → ℕ → Option KnownName
candidate_by [] size letter = None
candidate_by (k ∷ rest) size letter = pick (both (eqb size (length k.text)) (eqb letter (lower (get_or k.text 0 0)))) (Some k) (candidate_by rest size letter)

-- a name that has a letter leaves the one with its length and that letter
pub by_letter : (names : List KnownName) (name : List ℕ) {many first : ℕ} → 0 < many → length name ≡ many → first ≡ lower (get_or name 0 0) → candidate names name ≡ candidate_by names many first
unfolding same_length_and_first same candidate candidate_by
by_letter names [] h n e = absurd (omega (arith, h, n))
by_letter names (a ∷ x) h n e = of names ∙ ap₂ (λ s l. candidate_by names s l) n (sym e)
  where
    one : (text : List ℕ) → same_length_and_first (a ∷ x) text ≡ both (eqb (length (a ∷ x)) (length text)) (eqb (lower a) (lower (get_or text 0 0)))
    one [] = rw (ne_eqb (suc (length x)) 0 (λ e. omega (arith, e)))
    one (b ∷ text) = ap (λ t. both (eqb (length (a ∷ x)) (length (b ∷ text))) t) (both_true (eqb (lower a) (lower b)))

    of : (names : List KnownName) → candidate names (a ∷ x) ≡ candidate_by names (length (a ∷ x)) (lower a)
    of [] = refl
    of (k ∷ rest) = ap₂ (λ t o. pick t (Some k) o) (one k.text) (of rest)

-- ---- the letters past the first

-- a letter and a small one agree
abbrev pub Agree : ℕ × ℕ → Type 0
Agree p = lower p.0 ≡ p.1

abbrev pub Differ : ℕ × ℕ → Type 0
Differ p = lower p.0 ≡ p.1 → ⊥

all_agree : (x y : List ℕ) → length x ≡ length y → AllWithin Agree (zip x y) 0 (length (zip x y)) → map lower x ≡ y
all_agree [] [] e w = refl
all_agree [] (b ∷ y) e w = absurd (omega (arith, e))
all_agree (a ∷ x) [] e w = absurd (omega (arith, e))
all_agree (a ∷ x) (b ∷ y) e w =
    ap₂ (λ c z. c ∷ z) (w 0 (0, 0) (omega arith) (omega arith)) (all_agree x y (omega (arith, e)) (λ k d l h. w (suc k) d (omega arith) (omega arith)))

one_differs : (x y : List ℕ) → (k : ℕ) → k < length (zip x y) → HoldsAt Differ (zip x y) k → map lower x ≡ y → ⊥
one_differs [] y k h n e = absurd (omega arith)
one_differs (a ∷ x) [] k h n e = absurd (omega arith)
one_differs (a ∷ x) (b ∷ y) zero h n e = n (0, 0) (let q : lower a ≡ b = cc in q)
one_differs (a ∷ x) (b ∷ y) (suc k) h n e = one_differs x y k (omega arith) n (let q : map lower x ≡ y = cc in q)

-- whether all but the first agree
pub agreed : (r : Bool) (x y : List ℕ) → length x ≡ length y
    → MatchBool r (AllWithin Agree (drop 1 (zip x y)) 0 (length (drop 1 (zip x y)))) ((k : ℕ) × (k < length (drop 1 (zip x y))) × HoldsAt Differ (drop 1 (zip x y)) k)
    → IsTrue r ↔ (map lower (drop 1 x) ≡ drop 1 y)
agreed true [] [] e m = (λ t. refl, λ t. refl)
agreed false [] [] e m = absurd (omega (arith, m.1))
agreed r [] (b ∷ y) e m = absurd (omega (arith, e))
agreed r (a ∷ x) [] e m = absurd (omega (arith, e))
agreed true (a ∷ x) (b ∷ y) e m = (λ t. all_agree x y (omega (arith, e)) m, λ t. refl)
agreed false (a ∷ x) (b ∷ y) e m = (λ t. absurd (true≢false (sym t)), λ q. absurd (one_differs x y m.0 m.1 m.2 q))

small_past : (t : List ℕ) → map lower (drop 1 t) ≡ drop 1 (map lower t)
small_past [] = refl
small_past (b ∷ t) = refl

-- ---- what a candidate settles

-- a name is this known name or none, by its letters past the first
pub record Settles (name : List ℕ) (known : Known) (text : List ℕ) : Type 0 where
  pub sized : length name ≡ length text
  pub found : (r : Bool) → IsTrue r ↔ (map lower (drop 1 name) ≡ drop 1 text) → known_of name ≡ pick r known Other
  pub counted : compared_of name ≡ 1

module _ (name : List ℕ) (k : KnownName) (h : same_length_and_first name k.text ≡ true) where
  agrees_by : (r : Bool) → IsTrue r ↔ (map lower (drop 1 name) ≡ drop 1 (map lower k.text)) → same_letters name k.text ≡ r
  agrees_by true i =
      (past_first name k.text h).1 ∙ same_by_map lower (drop 1 name) (drop 1 k.text)
      ∙ rw (i.0 refl, small_past k.text) (same_self (λ b. b) (drop 1 (map lower k.text)))
  agrees_by false i = of (same_letters (drop 1 name) (drop 1 k.text)) refl
    where
      of : (t : Bool) → same_letters (drop 1 name) (drop 1 k.text) ≡ t → same_letters name k.text ≡ false
      of false e = (past_first name k.text h).1 ∙ e
      of true e = absurd (true≢false (sym (i.1 (same_true lower (drop 1 name) (drop 1 k.text) e ∙ small_past k.text))))

module _ (name : List ℕ) where
  none_by : (o : Option KnownName) → Leaves known_names name o → None ≡ option_map in_small o → (known_of name ≡ Other) × (compared_of name ≡ 0)
  none_by None l e = (l.0, rw l.1)
  none_by (Some k) l e = absurd (none-some _ e)

  settles_by : {known : Known} {text : List ℕ} (o : Option KnownName) → Leaves known_names name o → Some (known, text) ≡ option_map in_small o → Settles name known text
  settles_by None l e = absurd (none-some _ (sym e))
  settles_by {known} {text} (Some k) l e =
      let z = same_Some (known, text) (in_small k) e in
      let p : known ≡ k.known = ap (λ u. u.0) z in
      let q : text ≡ map lower k.text = ap (λ u. u.1) z in
      rw (p, q)
      (record {
        sized = (past_first name k.text l.2).0 ∙ sym (length-map k.text lower);
        found = λ r i. l.0 ∙ ap (λ t. pick t k.known Other) (agrees_by name k l.2 r i);
        counted = rw l.1;
      })

  pub none_left : None ≡ option_map in_small (candidate known_names name) → (known_of name ≡ Other) × (compared_of name ≡ 0)
  none_left e = none_by (candidate known_names name) (known_leaves name) e

  pub settles : {known : Known} {text : List ℕ} → Some (known, text) ≡ option_map in_small (candidate known_names name) → Settles name known text
  settles e = settles_by (candidate known_names name) (known_leaves name) e
