-- A bound for the levels of every derivation, from the rules alone: a rank for each nonterminal such that every rule keeps it. Assumes nothing.
use Prim.Native.Nat.{ℕ, ◌+◌, ◌≤◌}
use native.Mathlib.Omega.{arith}
use mathlib.Core.Path.{◌≡◌}
use mathlib.Core.Bool.{Bool, true}
use mathlib.Core.List.Memᴰ.{head as here}
use mathlib.Core.List.Memᴰ.{tail as there}
use mathlib.Core.List.{List, [], ◌∷◌, Memᴰ}
use lib.Dec.{leb}
use borrow.Author.Tests.{leb-true}
use Rattle.octets.specs.Believed.Choice.{pick, both}
use Rattle.octets.proofs.ChoiceLaws.{both_parts}
use Rattle.scanner.specs.Believed.Symbols.{Symbol}
use Rattle.grammar.specs.Believed.Grammar.{Item, symbol, nonterminal, Rule, Grammar, Forest, levels, Fits, done, take, apply, Derived}

module _ {C N : Type 0} (rank : N → ℕ) where
  -- with so many levels around them, no part of these items passes the bound
  abbrev pub below : ℕ → ℕ → List (Item C N) → Bool
  below bound around [] = leb around bound
  below bound around (symbol c ∷ items) = below bound around items
  below bound around (nonterminal A ∷ items) = both (leb (around + rank A) bound) (below bound around items)

  -- every rule keeps the rank
  abbrev pub ranked : ℕ → List (Rule C N) → Bool
  ranked bound [] = true
  ranked bound (r ∷ rs) = both (below bound (pick r.opens 1 0) r.items) (ranked bound rs)

  ranked_rule : (bound : ℕ) (r : Rule C N) (rs : List (Rule C N)) → Memᴰ r rs → ranked bound rs ≡ true → below bound (pick r.opens 1 0) r.items ≡ true
  ranked_rule bound r [] m h = elim m [ ]
  ranked_rule bound r (r' ∷ rs) (here e) h = rw e (both_parts (below bound (pick r'.opens 1 0) r'.items) (ranked bound rs) h).0
  ranked_rule bound r (r' ∷ rs) (there m) h = ranked_rule bound r rs m (both_parts (below bound (pick r'.opens 1 0) r'.items) (ranked bound rs) h).1

  module _ (G : Grammar C N) (all : (A : N) → ranked (rank A) (G.rules A) ≡ true) where
    levels_below : {items : List (Item C N)} {k : Forest C N} → Fits G items k → (bound around : ℕ) → below bound around items ≡ true → around + levels k ≤ bound
    levels_below done bound around h = let l = leb-true around bound h in omega arith
    levels_below (take e d) bound around h = levels_below d bound around h
    levels_below (apply {A = A} {rule = r} {items = items} {parts = p} {forest = k} m d o d') bound around h =
        let (a, b) = both_parts (leb (around + rank A) bound) (below bound around items) h in
        let l = leb-true (around + rank A) bound a in
        let i = levels_below d (rank A) (pick r.opens 1 0) (ranked_rule (rank A) r (G.rules A) m (all A)) in
        let j = levels_below d' bound around b in
        omega arith

    part_below : {A : N} {k : Forest C N} → Fits G (nonterminal A ∷ []) k → levels k ≤ rank A
    part_below {A} (apply {rule = r} m e o done) =
        let i = levels_below e (rank A) (pick r.opens 1 0) (ranked_rule (rank A) r (G.rules A) m (all A)) in
        omega arith

    -- what is derived has at most as many levels as its rank
    pub bounded : {A : N} {k : Forest C N} {xs : List (Symbol C)} → Derived G A k xs → levels k ≤ rank A
    bounded d = part_below d.fits
