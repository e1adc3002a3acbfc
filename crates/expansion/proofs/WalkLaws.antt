-- The walk through stored lists writes the plain text of the expansion, with its openings, or stops where it stops. Assumes nothing.
use Prim.Native.Nat.{ℕ, zero, suc, ◌+◌, ◌≤◌}
use native.Mathlib.Omega.{arith}
use mathlib.Core.Path.{◌≡◌, refl, sym, ap, ◌∙◌}
use mathlib.Core.Bool.{Bool, true, false}
use mathlib.Core.List.{List, []}
use lib.Dec.{ltb, leb}
use lib.ListN.{length}
use lib.Seq.{take-length}
use Rattle.octets.specs.Believed.Choice.{pick}
use Rattle.octets.specs.Believed.Numbers.{level_limit, opening_limit, too_many_levels, too_many_openings}
use Rattle.scanner.specs.Believed.Scanning.{scan, symbols_of}
use Rattle.grammar.specs.Believed.Grammar.{levels}
use Rattle.grammar.specs.Believed.Rfc733.{Derivation, DerivedList}
use Rattle.grammar.specs.Executable.Trees733.{Sym, as_forest}
use Rattle.grammar.proofs.Rfc733.Derivations.{forest_levels, tree_derived}
use Rattle.addresses.specs.Believed.Editions.{body_symbols}
use Rattle.addresses.specs.Believed.Outcome.{body_read}
use Rattle.addresses.proofs.Judgements.{refused_at, judged, listed_read}
use Rattle.addresses.proofs.Judgements as judgements
use Rattle.plain.specs.Believed.Meaning.{Addresses, no_address}
use Rattle.plain.specs.Believed.PlainText.{addresses_text}
use Rattle.plain.specs.declared.places.Place.{Place}
use Rattle.plain.proofs.Walks.{Begin, plainly, spot, comma_spot, front_plain}
use Rattle.expansion.specs.Believed.Store.{list_in}
use Rattle.expansion.specs.Believed.Expansion.{Expansion, stopped, Opening, expand_forest, opened_within, expansion}
use Rattle.expansion.specs.Ties.Walk.{Trail, halted, wrote, before, writing, walk, walk_within, walked}
use Rattle.expansion.proofs.TreeExpansion.{list_expansion, forest_expansion}
use Rattle.expansion.proofs.WalkThrough.{onward, listed, clear_comma, onward_same, unmoved, through_list}

-- what holds of both for a refusal and for every list holds for the body
pair_read : {A B : Type 0} (P : A → B → Type 0) (refuse : ℕ → ℕ → A) (derive : Derivation → A) (refuse' : ℕ → ℕ → B) (derive' : Derivation → B) (message : List ℕ) (start end : ℕ)
    → ((n p : ℕ) → P (refuse n p) (refuse' n p)) → ((k : Derivation) → DerivedList k (body_symbols message start end) → levels k ≤ level_limit → P (derive k) (derive' k))
    → P (body_read refuse derive message start end) (body_read refuse' derive' message start end)
pair_read {A} {B} P refuse derive refuse' derive' message start end r d =
    elim (judged message start end) [
      | refused_at n p f ↦ rw (f A refuse derive, f B refuse' derive') (r n p)
      | judgements.listed k b ↦ rw (listed_read b refuse derive, listed_read b refuse' derive') (d k b.list.derived b.list.within)
    ]

-- ---- openings

module _ (store : List ℕ) where
  -- the walk's openings do what the definition's do
  abbrev Agree : ℕ → Type 0
  Agree deep =
      (i p d : ℕ) (b : Begin) (m : Addresses) (u : ℕ) (k : Place → ℕ → Trail)
      → before (listed b m) (walk_within store deep i p d (spot b m true) u k) ≡ onward (opened_within store deep i p d m u) (λ m' v. before (listed b m') (k (spot b m' true) v))

  -- a list from any place in any list on
  from_list : (deep : ℕ) → Agree deep → (place_of : ℕ → ℕ) (base : ℕ) (l : Derivation) (xs : List Sym) → DerivedList l xs → levels l ≤ level_limit → (b : Begin) (m : Addresses) (u : ℕ) (k : Place → ℕ → Trail)
      → before (listed b m) (walk store (λ i' p' b' l' u' n'. walk_within store deep i' p' b' l' u' n') place_of base writing (spot b m true) [] xs u k)
      ≡ onward (expand_forest store (λ i' p' d' m' u'. opened_within store deep i' p' d' m' u') place_of false base l m u) (λ m' v. before (listed b m') (k (spot b m' true) v))
  from_list deep agree place_of base l xs derived n b m u k =
      let (t, e, d') = tree_derived derived in
      let o : Opening = λ i' p' d' m' u'. opened_within store deep i' p' d' m' u' in
      let n' : levels (as_forest t) ≤ level_limit = rw e at n in
      ap (λ ys. before (listed b m) (walk store (λ i' p' b' l' u' n'. walk_within store deep i' p' b' l' u' n') place_of base writing (spot b m true) [] ys u k)) (sym d'.yields)
      ∙ through_list store (λ i' p' b' l' u' n'. walk_within store deep i' p' b' l' u' n') place_of base o agree t b m true base [] [] u k d'.lawful tt refl (omega arith) (omega (arith, n', forest_levels t)) (clear_comma b m _)
      ∙ onward_same (list_expansion store o place_of base t m u) (λ m' v. ap (λ z. before (listed b m') (k z v)) (comma_spot b m' true))
      ∙ ap (λ f. onward f (λ m' v. before (listed b m') (k (spot b m' true) v))) (sym (ap (λ r. expand_forest store o place_of false base r m u) e ∙ forest_expansion store o place_of t base m u))

  within_list : (deep : ℕ) → Agree deep → (i p d : ℕ) (b : Begin) (m : Addresses) (u : ℕ) (k : Place → ℕ → Trail) (l : Derivation) → DerivedList l (symbols_of (scan (list_in store i) 0)) → levels l ≤ level_limit → (z : Bool)
      → before (listed b m) (pick z (halted too_many_levels p u) (walk store (λ i' p' b' l' u' n'. walk_within store deep i' p' b' l' u' n') (λ start. p) d writing (spot b m true) [] (symbols_of (scan (list_in store i) 0)) (suc u) k))
      ≡ onward (pick z (stopped too_many_levels p u) (expand_forest store (λ i' p' d' m' u'. opened_within store deep i' p' d' m' u') (λ start. p) false d l m (suc u))) (λ m' v. before (listed b m') (k (spot b m' true) v))
  within_list deep agree i p d b m u k l derived n true = refl
  within_list deep agree i p d b m u k l derived n false = from_list deep agree (λ start. p) d l (symbols_of (scan (list_in store i) 0)) derived n b m (suc u) k

  budget : (z : Bool) (p u : ℕ) (f : List ℕ → List ℕ) (t : Trail) (e : Expansion) (g : Addresses → ℕ → Trail) → before f t ≡ onward e g → before f (pick z (halted too_many_openings p u) t) ≡ onward (pick z (stopped too_many_openings p u) e) g
  budget true p u f t e g h = refl
  budget false p u f t e g h = h

  pub agree_within : (deep : ℕ) → Agree deep
  agree_within zero i p d b m u k = refl
  agree_within (suc deep) i p d b m u k =
      budget (leb opening_limit u) p u (listed b m) _ _ (λ m' v. before (listed b m') (k (spot b m' true) v))
      (pair_read (λ (t : Trail) (e : Expansion). before (listed b m) t ≡ onward e (λ m' v. before (listed b m') (k (spot b m' true) v)))
      (λ n q. halted n i u)
      (λ l. pick (ltb level_limit (d + levels l)) (halted too_many_levels p u) (walk store (λ i' p' b' l' u' n'. walk_within store deep i' p' b' l' u' n') (λ start. p) d writing (spot b m true) [] (symbols_of (scan (list_in store i) 0)) (suc u) k))
      (λ n q. stopped n i u)
      (λ l. pick (ltb level_limit (d + levels l)) (stopped too_many_levels p u) (expand_forest store (λ i' p' d' m' u'. opened_within store deep i' p' d' m' u') (λ start. p) false d l m (suc u)))
      (list_in store i) 0 (length (list_in store i))
      (λ n q. refl)
      (λ l h n. within_list deep (agree_within deep) i p d b m u k l (rw take-length at h) n (ltb level_limit (d + levels l))))

  -- the walk over the symbols of a derived list writes the plain text of its expansion
  pub walked_expansion : {l : Derivation} {xs : List Sym} → DerivedList l xs → levels l ≤ level_limit → walked store xs ≡ onward (expansion store l) (λ m v. wrote (addresses_text m []) v)
  walked_expansion {l} {xs} derived n =
      sym (unmoved (walked store xs)) ∙ from_list opening_limit (agree_within opening_limit) (λ start. start) 0 l xs derived n plainly no_address 0 (λ place u. wrote [] u)
      ∙ onward_same (expansion store l) (λ m v. ap (λ t. wrote t v) (front_plain m (addresses_text m [])))
