-- Symbols sought one after the other, as the code goes. Assumes nothing.
use Prim.Native.Nat.{ℕ, ◌≤◌}
use native.Mathlib.Omega.{arith}
use mathlib.Core.Path.{◌≡◌, refl, sym, ap, ◌∙◌}
use mathlib.Core.Bool.{Bool, true, false, not}
use mathlib.Core.List.{List, [], ◌∷◌}
use Rattle.std.specs.Prelude.{Option, None, Some}
use types.Run.{OneOf}
use Rattle.octets.specs.Believed.Choice.{pick, both}
use Rattle.scanner.specs.Believed.Scanning.{Scanned, ended, next, fault_at, symbols_of, scan_by, symbol, apart_from}
use Rattle.scanner.specs.Believed.Answers.{next_of}
use Rattle.scanner.specs.declared.Class.{Class}
use Rattle.scanner.specs.declared.Class.TheVariants.{At, LessThan, GreaterThan, Comma}
use Rattle.scanner.specs.declared.Next.{Next}
use Rattle.scanner.specs.declared.Next.TheVariants.{Found}
use Rattle.scanner.specs.declared.Symbol.{Symbol}
use Rattle.scanner.specs.Ties.Meanings.{meaning_at}
use Rattle.scanner.proofs.Unfolding.{SymbolAt}
use Rattle.grammar.specs.Believed.Rfc733.{same_class}
use Rattle.grammar.proofs.Rfc733.Readers.{ends_address}
use Rattle.addresses.specs.Ties.Steps.{symbols_from, is_word}
use Rattle.addresses.proofs.ClassCases.{tag, by_class, by_class_not}
use Rattle.expansion.specs.Believed.Store.{or_else}
use Rattle.expansion.specs.Ties.Walk.{Sym, inner_after, single, neither, angled, held_from, held_by, only_from, only, word_seen, is_words, named_by, first_of, sought_by, sought}
use Rattle.expansion.specs.Ties.Walk as seek
use Rattle.expansion.specs.Ties.Steps.{as_held, skip_to, named_if}
use Rattle.expansion.specs.declared.text.Seen.{Seen}
use Rattle.expansion.specs.declared.text.Seen.TheVariants.{Nothing, Words, Nodes}
use Rattle.expansion.specs.contracts.text.Seen as seen-declared
use denote.Enum.Bare.{sameb}
use Rattle.expansion.specs.declared.text.Held.{Held}
use Rattle.expansion.specs.declared.text.Held.TheVariants.{Single, Angled}
use Rattle.expansion.proofs.StoreLaws.{InStore, lowest_in, else_in, pick_in}

-- no symbol comes
abbrev pub NotFound : Next → Type 0
NotFound coming = (x : Symbol) → coming ≡ Found x → ⊥

none_of : (s : Scanned) → NotFound (next_of s) → symbols_of s ≡ []
unfolding symbols_of
none_of ended h = refl
none_of (next x rest) h = absurd (h _ refl)
none_of (fault_at number p) h = refl

-- what is read of an address, by the code's tests
nothing_is : (seen : Seen) → sameb seen-declared.the_type seen Nothing ≡ true → seen ≡ Nothing
nothing_is Nothing e = refl
nothing_is Words e = cc
nothing_is Nodes e = cc

pub nothing_seen : (seen : Seen) → sameb seen-declared.the_type seen Nothing ≡ true → word_seen seen ≡ Words
nothing_seen seen e = ap word_seen (nothing_is seen e)

pub something_seen : (seen : Seen) → sameb seen-declared.the_type seen Nothing ≡ false → word_seen seen ≡ seen
something_seen Nothing e = cc
something_seen Words e = refl
something_seen Nodes e = refl

pub words_test : (seen : Seen) → sameb seen-declared.the_type seen Words ≡ is_words seen
words_test Nothing = refl
words_test Words = refl
words_test Nodes = refl

module _ (classes text : List ℕ) where
  pub no_symbols : (coming : Next) (at : ℕ) → coming ≡ next_of (scan_by classes text at) → NotFound coming → symbols_from classes text at ≡ []
  no_symbols coming at e h = none_of (scan_by classes text at) (rw e at h)

  pub next_symbol : {at : ℕ} {class : Class} {start end : ℕ} → SymbolAt classes text at class start end
      → symbols_from classes text at ≡ apart_from at (symbol class start end (meaning_at classes text class start end)) ∷ symbols_from classes text end
  unfolding symbols_of
  next_symbol x = rw x.same

  -- ---- what an Include holds

  module _ (at p : ℕ) (i : held_by (symbols_from classes text at) ≡ held_by (symbols_from classes text p)) where
    pub held_none : (coming : Next) → coming ≡ next_of (scan_by classes text p) → NotFound coming → held_by (symbols_from classes text at) ≡ neither
    held_none coming e h = i ∙ ap held_by (no_symbols coming p e h)

    module _ {class : Class} {start end : ℕ} (x : SymbolAt classes text p class start end) where
      pub held_as : (c : Class) → class ≡ c → held_by (symbols_from classes text at) ≡ held_from c (symbols_from classes text end) (held_by (symbols_from classes text end))
      held_as c e = i ∙ ap held_by (next_symbol x) ∙ ap (λ z. held_from z (symbols_from classes text end) (held_by (symbols_from classes text end))) e

      pub held_word : OneOf (0 ∷ 1 ∷ []) (tag class) → held_by (symbols_from classes text at) ≡ held_by (symbols_from classes text end)
      held_word o = held_as class refl ∙ rw (by_class (0 ∷ 1 ∷ []) is_word tt class o)

      pub held_other : OneOf (4 ∷ 5 ∷ 6 ∷ 7 ∷ 8 ∷ 9 ∷ 10 ∷ []) (tag class) → held_by (symbols_from classes text at) ≡ neither
      held_other o =
          held_as class refl
          ∙ rw (
            by_class_not (4 ∷ 5 ∷ 6 ∷ 7 ∷ 8 ∷ 9 ∷ 10 ∷ []) is_word tt class o,
            by_class_not (4 ∷ 5 ∷ 6 ∷ 7 ∷ 8 ∷ 9 ∷ 10 ∷ []) (same_class At) tt class o,
            by_class_not (4 ∷ 5 ∷ 6 ∷ 7 ∷ 8 ∷ 9 ∷ 10 ∷ []) (same_class LessThan) tt class o,
          )

  -- ---- where an Include ends

  pub record Skipping (at p : ℕ) (inner : Bool) : Type 0 where
    pub same : skip_to false (symbols_from classes text at) ≡ skip_to inner (symbols_from classes text p)
    pub from : at ≤ p

  pub skip_first : (at : ℕ) → Skipping at at false
  skip_first at = record { same = refl; from = omega arith }

  pub skip_none : (at p : ℕ) (inner : Bool) → Skipping at p inner → (coming : Next) → coming ≡ next_of (scan_by classes text p) → NotFound coming
      → (symbols_from classes text p ≡ skip_to false (symbols_from classes text at)) × (at ≤ p)
  skip_none at p inner i coming e h = let f = no_symbols coming p e h in (f ∙ sym (i.same ∙ ap (skip_to inner) f), i.from)

  module _ {class : Class} {start end : ℕ} (at p : ℕ) (inner : Bool) (i : Skipping at p inner) (x : SymbolAt classes text p class start end) where
    one : skip_to inner (symbols_from classes text p) ≡ pick (pick inner false (ends_address class)) (symbols_from classes text p) (skip_to (inner_after class inner) (symbols_from classes text end))
    one =
        let n = next_symbol x in
        ap (skip_to inner) n ∙ ap (λ ys. pick (pick inner false (ends_address class)) ys (skip_to (inner_after class inner) (symbols_from classes text end))) (sym n)

    pub skip_stop : ends_address class ≡ true → inner ≡ false → (symbols_from classes text p ≡ skip_to false (symbols_from classes text at)) × (at ≤ p)
    skip_stop e f = (
      sym (i.same ∙ one ∙ ap (λ z. pick z (symbols_from classes text p) (skip_to (inner_after class inner) (symbols_from classes text end))) (ap (λ z. pick z false (ends_address class)) f ∙ e)),
      i.from,
    )

    skip_on : {inner' : Bool} → pick inner false (ends_address class) ≡ false → inner_after class inner ≡ inner' → Skipping at end inner'
    skip_on e f =
        record {
          same = i.same ∙ one ∙ ap (λ z. pick z (symbols_from classes text p) (skip_to (inner_after class inner) (symbols_from classes text end))) e ∙ ap (λ z. skip_to z (symbols_from classes text end)) f;
          from = omega (arith, i.from, x.from, x.starts);
        }

    goes_on : (z e : Bool) → e ≡ false → pick z false e ≡ false
    goes_on true e f = refl
    goes_on false e f = f

    pub skip_less : class ≡ LessThan → Skipping at end true
    skip_less e = skip_on (goes_on inner _ (ap ends_address e)) (ap (λ c. inner_after c inner) e)

    pub skip_greater : class ≡ GreaterThan → inner ≡ true → Skipping at end false
    skip_greater e f = skip_on (ap (λ z. pick z false (ends_address class)) f) (ap (λ c. inner_after c inner) e)

    pub skip_inner : OneOf (5 ∷ 6 ∷ []) (tag class) → inner ≡ true → Skipping at end inner
    skip_inner o f =
        skip_on (ap (λ z. pick z false (ends_address class)) f) (rw (by_class_not (5 ∷ 6 ∷ []) (same_class LessThan) tt class o, by_class_not (5 ∷ 6 ∷ []) (same_class GreaterThan) tt class o))

    pub skip_other : OneOf (0 ∷ 1 ∷ 2 ∷ 7 ∷ 8 ∷ 9 ∷ 10 ∷ []) (tag class) → Skipping at end inner
    skip_other o =
        skip_on (goes_on inner _ (by_class_not (0 ∷ 1 ∷ 2 ∷ 7 ∷ 8 ∷ 9 ∷ 10 ∷ []) ends_address tt class o))
        (rw (by_class_not (0 ∷ 1 ∷ 2 ∷ 7 ∷ 8 ∷ 9 ∷ 10 ∷ []) (same_class LessThan) tt class o, by_class_not (0 ∷ 1 ∷ 2 ∷ 7 ∷ 8 ∷ 9 ∷ 10 ∷ []) (same_class GreaterThan) tt class o))

  -- ---- mailboxes only

  module _ (at p : ℕ) (seen : Seen) (i : only Nothing (symbols_from classes text at) ≡ only seen (symbols_from classes text p)) where
    pub only_none : {coming : Next} → coming ≡ next_of (scan_by classes text p) → NotFound coming → false ≡ only Nothing (symbols_from classes text at)
    only_none e h = sym (i ∙ ap (only seen) (no_symbols _ p e h))

    module _ {class : Class} {start end : ℕ} (x : SymbolAt classes text p class start end) where
      pub only_as : (c : Class) → class ≡ c → only Nothing (symbols_from classes text at) ≡ only_from c seen (λ seen'. only seen' (symbols_from classes text end))
      only_as c e = i ∙ ap (only seen) (next_symbol x) ∙ ap (λ z. only_from z seen (λ seen'. only seen' (symbols_from classes text end))) e

      pub only_word : OneOf (0 ∷ 1 ∷ []) (tag class) → {seen' : Seen} → word_seen seen ≡ seen' → only Nothing (symbols_from classes text at) ≡ only seen' (symbols_from classes text end)
      only_word o e = only_as class refl ∙ rw (by_class (0 ∷ 1 ∷ []) is_word tt class o, e)

      pub only_comma : (z : Bool) → class ≡ Comma → z ≡ is_words seen → only Nothing (symbols_from classes text at) ≡ both (not z) (only Nothing (symbols_from classes text end))
      only_comma z e f = only_as Comma e ∙ ap (λ w. both (not w) (only Nothing (symbols_from classes text end))) (sym f)

      pub only_other : OneOf (3 ∷ 6 ∷ 7 ∷ 8 ∷ 9 ∷ 10 ∷ []) (tag class) → false ≡ only Nothing (symbols_from classes text at)
      only_other o =
          sym
          (only_as class refl
          ∙ rw (
            by_class_not (3 ∷ 6 ∷ 7 ∷ 8 ∷ 9 ∷ 10 ∷ []) is_word tt class o,
            by_class_not (3 ∷ 6 ∷ 7 ∷ 8 ∷ 9 ∷ 10 ∷ []) (same_class At) tt class o,
            by_class_not (3 ∷ 6 ∷ 7 ∷ 8 ∷ 9 ∷ 10 ∷ []) (same_class Comma) tt class o,
            by_class_not (3 ∷ 6 ∷ 7 ∷ 8 ∷ 9 ∷ 10 ∷ []) (same_class GreaterThan) tt class o,
          ))

-- ---- the first that is stored

module _ (classes text store : List ℕ) (at p : ℕ) (starts : Bool) (i : first_of store true (symbols_from classes text at) ≡ first_of store starts (symbols_from classes text p)) where
  pub first_none : (coming : Next) → coming ≡ next_of (scan_by classes text p) → NotFound coming → None ≡ first_of store true (symbols_from classes text at)
  first_none coming e h = sym (i ∙ ap (first_of store starts) (no_symbols classes text coming p e h))

  module _ {class : Class} {start end : ℕ} (x : SymbolAt classes text p class start end) where
    -- what is found, by the class of the symbol
    abbrev from : Class → List Sym → Option ℕ
    from c ys = pick (same_class GreaterThan c) None (pick (same_class Comma c) (first_of store true (symbols_from classes text end)) (or_else (pick starts (named_by store ys) None) (first_of store false (symbols_from classes text end))))

    first_as : (c : Class) → class ≡ c → first_of store true (symbols_from classes text at) ≡ from c (symbols_from classes text p)
    first_as c e = let n = next_symbol classes text x in i ∙ ap (first_of store starts) n ∙ ap (from class) (sym n) ∙ ap (λ z. from z (symbols_from classes text p)) e

    pub first_closed : class ≡ GreaterThan → None ≡ first_of store true (symbols_from classes text at)
    first_closed e = sym (first_as GreaterThan e)

    pub first_parts : class ≡ Comma → first_of store true (symbols_from classes text at) ≡ first_of store true (symbols_from classes text end)
    first_parts e = first_as Comma e

    module _ (o : OneOf (0 ∷ 1 ∷ 2 ∷ 3 ∷ 6 ∷ 7 ∷ 8 ∷ 9 ∷ 10 ∷ []) (tag class)) where
      within : first_of store true (symbols_from classes text at) ≡ or_else (named_if classes text p store starts) (first_of store false (symbols_from classes text end))
      within =
          first_as class refl ∙ rw (by_class_not (0 ∷ 1 ∷ 2 ∷ 3 ∷ 6 ∷ 7 ∷ 8 ∷ 9 ∷ 10 ∷ []) (same_class GreaterThan) tt class o, by_class_not (0 ∷ 1 ∷ 2 ∷ 3 ∷ 6 ∷ 7 ∷ 8 ∷ 9 ∷ 10 ∷ []) (same_class Comma) tt class o)

      pub first_found : {q : Option ℕ} {j : ℕ} → q ≡ named_if classes text p store starts → q ≡ Some j → Some j ≡ first_of store true (symbols_from classes text at)
      first_found g h = sym (within ∙ ap (λ z. or_else z (first_of store false (symbols_from classes text end))) (sym g ∙ h))

      pub first_later : {q : Option ℕ} → q ≡ named_if classes text p store starts → q ≡ None → first_of store true (symbols_from classes text at) ≡ first_of store false (symbols_from classes text end)
      first_later g h = within ∙ ap (λ z. or_else z (first_of store false (symbols_from classes text end))) (sym g ∙ h)

-- ---- what an Include leads to

module _ (classes text store : List ℕ) (at : ℕ) (r : Option Held) (e : held_by (symbols_from classes text at) ≡ as_held classes text r) where
  held_is : (h : Option Held) → r ≡ h → sought store (symbols_from classes text at) ≡ sought_by store (as_held classes text h) (symbols_from classes text at)
  held_is h f = ap (λ z. sought_by store z (symbols_from classes text at)) (e ∙ ap (as_held classes text) f)

  pub sought_none : r ≡ None → None ≡ sought store (symbols_from classes text at)
  sought_none f = sym (held_is None f)

  pub sought_single : {h : Held} {q : Option ℕ} → r ≡ Some h → h ≡ Single → q ≡ named_by store (symbols_from classes text at) → q ≡ sought store (symbols_from classes text at)
  sought_single f s g = g ∙ sym (held_is (Some Single) (f ∙ ap Some s))

  module _ {h : Held} {behind : ℕ} (f : r ≡ Some h) (s : h ≡ Angled behind) {z : Bool} (g : z ≡ only Nothing (symbols_from classes text behind)) where
    angled_is : (b : Bool) → z ≡ b → sought store (symbols_from classes text at) ≡ pick b (first_of store true (symbols_from classes text behind)) None
    angled_is b h = held_is (Some (Angled behind)) (f ∙ ap Some s) ∙ ap (λ y. pick y (first_of store true (symbols_from classes text behind)) None) (sym g ∙ h)

    pub sought_angled : {q : Option ℕ} → z ≡ true → q ≡ first_of store true (symbols_from classes text behind) → q ≡ sought store (symbols_from classes text at)
    sought_angled h k = k ∙ sym (angled_is true h)

    pub sought_other : z ≡ false → None ≡ sought store (symbols_from classes text at)
    sought_other h = sym (angled_is false h)

-- ---- .. is a record of the store

first_in : (store : List ℕ) (starts : Bool) (xs : List Sym) → InStore store (first_of store starts xs)
first_in store starts [] = tt
first_in store starts (x ∷ xs) =
    let here : Option ℕ = pick starts (named_by store (x ∷ xs)) None in
    let rest : Option ℕ = or_else here (first_of store false xs) in
    pick_in store (same_class GreaterThan x.class) None (pick (same_class Comma x.class) (first_of store true xs) rest) tt
    (pick_in store (same_class Comma x.class) (first_of store true xs) rest (first_in store true xs)
    (else_in store here (first_of store false xs) (pick_in store starts (named_by store (x ∷ xs)) None (lowest_in store _) tt) (first_in store false xs)))

sought_by_lem : (store : List ℕ) (h : seek.Held) (xs : List Sym) → InStore store (sought_by store h xs)
sought_by_lem store single xs = lowest_in store _
sought_by_lem store neither xs = tt
sought_by_lem store (angled ys) xs = pick_in store (only Nothing ys) (first_of store true ys) None (first_in store true ys) tt

pub sought_in : (store : List ℕ) (xs : List Sym) → InStore store (sought store xs)
sought_in store xs = sought_by_lem store (held_by xs) xs
