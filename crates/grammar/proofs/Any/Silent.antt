-- Nonterminals whose rules make no record, and those of their parts neither: what is derived from them has no record, over any grammar. Assumes nothing.
use Prim.Native.Nat.{ℕ, ◌+◌}
use native.Mathlib.Omega.{arith}
use mathlib.Core.Path.{◌≡◌, refl, sym, ap, ◌∙◌}
use mathlib.Core.Bool.{Bool, true, false}
use mathlib.Core.List.Memᴰ.{head as here}
use mathlib.Core.List.Memᴰ.{tail as there}
use mathlib.Core.List.{List, [], ◌∷◌, Memᴰ}
use mathlib.Core.Option.{Option, none, some}
use lib.ListN.{length}
use Rattle.octets.specs.Believed.Choice.{pick, both}
use Rattle.octets.proofs.ChoiceLaws.{both_parts}
use Rattle.grammar.specs.Believed.Grammar.{Makes, Item, symbol, nonterminal, Rule, Grammar, Forest, branch, Fits, done, take, apply}
use Rattle.grammar.specs.Believed.Records.{count, records_from}
use Rattle.grammar.specs.Executable.Pieces.{Piece, put}
use Rattle.grammar.proofs.Any.Records.{length_from}
use Rattle.grammar.proofs.Any.Pieces.{From}

abbrev no_makes : Option Makes → Bool
no_makes none = true
no_makes (some m) = false

no_makes_lem : (o : Option Makes) → no_makes o ≡ true → o ≡ none
no_makes_lem none e = refl
no_makes_lem (some m) e = absurd cc

module _ {C N : Type 0} where
  -- a rule that makes no record, with parts that have none, before a forest
  none_branch : (r : Rule C N) (parts k : Forest C N) → r.makes ≡ none → ((d p i : ℕ) → records_from parts d p i ≡ [])
      → (d p i : ℕ) → records_from (branch r parts k) d p i ≡ records_from k d p i
  none_branch r parts k e f d p i =
      let n : i + count parts ≡ i = omega (arith, length_from parts d p i, ap length (f d p i)) in
      rw (e, f d p i, n)

module _ {C N : Type 0} (silent : N → Bool) where
  abbrev hushed : List (Item C N) → Bool
  hushed [] = true
  hushed (symbol c ∷ items) = hushed items
  hushed (nonterminal A ∷ items) = both (silent A) (hushed items)

  abbrev pub silent_rules : List (Rule C N) → Bool
  silent_rules [] = true
  silent_rules (r ∷ rs) = both (both (no_makes r.makes) (hushed r.items)) (silent_rules rs)

  silent_rule : (r : Rule C N) (rs : List (Rule C N)) → Memᴰ r rs → silent_rules rs ≡ true → both (no_makes r.makes) (hushed r.items) ≡ true
  silent_rule r [] m h = elim m [ ]
  silent_rule r (s ∷ rs) (here e) h = rw e (both_parts (both (no_makes s.makes) (hushed s.items)) (silent_rules rs) h).0
  silent_rule r (s ∷ rs) (there m) h = silent_rule r rs m (both_parts (both (no_makes s.makes) (hushed s.items)) (silent_rules rs) h).1

  module _ (G : Grammar C N) (all : (A : N) → pick (silent A) (silent_rules (G.rules A)) true ≡ true) where
    rule_silent : (A : N) (r : Rule C N) → silent A ≡ true → Memᴰ r (G.rules A) → (r.makes ≡ none) × (hushed r.items ≡ true)
    rule_silent A r a m =
        let (x, y) = both_parts (no_makes r.makes) (hushed r.items) (silent_rule r (G.rules A) m (rw a at (all A))) in
        (no_makes_lem r.makes x, y)

    silent_forest : {items : List (Item C N)} {k : Forest C N} → Fits G items k → hushed items ≡ true → (d p i : ℕ) → records_from k d p i ≡ []
    silent_forest done h d p i = refl
    silent_forest (take e f) h d p i = silent_forest f h d p i
    silent_forest (apply {A = A} {rule = r} {items = items} {parts = q} {forest = k} m f o g) h d p i =
        let (a, b) = both_parts (silent A) (hushed items) h in
        let (x, y) = rule_silent A r a m in
        none_branch r q k x (silent_forest f y) d p i ∙ silent_forest g b d p i

    -- a piece of such a nonterminal adds no record ..
    pub silent_records : {A : N} {q : Piece C N} → From G A q → silent A ≡ true → (k : Forest C N) (d p i : ℕ) → records_from (put q k) d p i ≡ records_from k d p i
    silent_records {A} {q} f a k d p i =
        let (x, y) = rule_silent A q.rule a f.member in
        none_branch q.rule q.parts k x (silent_forest f.fits y) d p i

    -- .. nor to the count
    pub silent_count : {A : N} {q : Piece C N} → From G A q → silent A ≡ true → (k : Forest C N) → count (put q k) ≡ count k
    silent_count {A} {q} f a k = sym (length_from (put q k) 0 0 0) ∙ ap length (silent_records f a k 0 0 0) ∙ length_from k 0 0 0
