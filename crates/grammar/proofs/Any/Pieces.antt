-- Trees for the derivations of any grammar: a tree is a rule and the forest of its parts; if every rule is covered by trees, every derivation is a tree. Assumes nothing.
use Prim.Native.Nat.{ℕ, zero, suc, ◌+◌, ◌<◌}
use native.Mathlib.Omega.{arith}
use mathlib.Core.Path.{◌≡◌, refl, ap, ap₂, ◌∙◌}
use mathlib.Core.List.Memᴰ.{head as here}
use mathlib.Core.List.Memᴰ.{tail as there}
use mathlib.Core.List.{List, [], ◌∷◌, Memᴰ}
use lib.ListN.{length, get_or}
use Rattle.octets.specs.Believed.Choice.{pick}
use Rattle.scanner.specs.Believed.Symbols.{Lexeme, Symbol}
use Rattle.grammar.specs.Believed.Grammar.{Item, symbol, nonterminal, Rule, Grammar, Forest, nil, leaf, yield_then, yield, levels, Allowed, Fits, done, take, apply, Derived}
use Rattle.grammar.specs.Executable.Pieces.{Piece, piece, put}

-- the symbol of a class with a lexeme
abbrev pub mark : {C : Type 0} → C → Lexeme → Symbol C
mark c t = record { class = c; lexeme = t }

-- the symbols of a piece, and then others
abbrev pub seen : {C N : Type 0} → Piece C N → List (Symbol C) → List (Symbol C)
seen p xs = yield_then p.parts xs

-- the levels that a piece has open at once, at most
abbrev pub levels_of : {C N : Type 0} → Piece C N → ℕ
levels_of p = pick p.rule.opens 1 0 + levels p.parts

member : {R : Type 0} (rs : List R) (i : ℕ) (r : R) → i < length rs → Memᴰ (get_or rs i r) rs
member [] i r h = absurd (omega arith)
member (x ∷ rs) zero r h = here refl
member (x ∷ rs) (suc i) r h = there (member rs i r (omega arith))

module _ {C N : Type 0} (G : Grammar C N) where
  -- a piece is derived from a nonterminal
  pub record From (A : N) (p : Piece C N) : Type 0 where
    pub member : Memᴰ p.rule (G.rules A)
    pub fits : Fits G p.rule.items p.parts
    pub allowed : Allowed G.same p.rule.never (yield p.parts)

  -- .. by the i-th rule
  pub by_rule : (A : N) (i : ℕ) (r : Rule C N) {p : Forest C N} → i < length (G.rules A) → Fits G (get_or (G.rules A) i r).items p
      → Allowed G.same (get_or (G.rules A) i r).never (yield p) → From A (piece (get_or (G.rules A) i r) p)
  by_rule A i r h d o = record { member = member (G.rules A) i r h; fits = d; allowed = o }

  pub put_fits : {A : N} {p : Piece C N} {items : List (Item C N)} {k : Forest C N} → From A p → Fits G items k → Fits G (nonterminal A ∷ items) (put p k)
  put_fits f d = apply f.member f.fits f.allowed d

  module _ (Tree : N → Type 0) (piece_of : (A : N) → Tree A → Piece C N) where
    -- what these items hold: for a class a lexeme, for a nonterminal a tree
    abbrev pub Values : List (Item C N) → Type 0
    Values [] = Unit {0}
    Values (symbol c ∷ items) = Lexeme × Values items
    Values (nonterminal A ∷ items) = Tree A × Values items

    abbrev pub forest_of : (items : List (Item C N)) → Values items → Forest C N
    forest_of [] v = nil
    forest_of (symbol c ∷ items) v = leaf (mark c v.0) (forest_of items v.1)
    forest_of (nonterminal A ∷ items) v = put (piece_of A v.0) (forest_of items v.1)

    -- whatever the items of a rule hold, if the rule allows its symbols, is a tree
    abbrev pub Covers : N → Rule C N → Type 0
    Covers A r = (v : Values r.items) → Allowed G.same r.never (yield (forest_of r.items v)) → (x : Tree A) × (piece r (forest_of r.items v) ≡ piece_of A x)

    abbrev pub AllCovered : N → List (Rule C N) → Type 0
    AllCovered A [] = Unit {0}
    AllCovered A (r ∷ rs) = Covers A r × AllCovered A rs

    covers : (A : N) (rs : List (Rule C N)) (r : Rule C N) → Memᴰ r rs → AllCovered A rs → Covers A r
    covers A [] r m c = elim m [ ]
    covers A (r' ∷ rs) r (here e) c = rw e c.0
    covers A (r' ∷ rs) r (there m) c = covers A rs r m c.1

    module _ (all : (A : N) → AllCovered A (G.rules A)) where
      -- the one induction over derivations
      pub values : {items : List (Item C N)} {k : Forest C N} → Fits G items k → (v : Values items) × (k ≡ forest_of items v)
      values done = (tt, refl)
      values (take {x = x} {forest = k} e d) = let (v, q) = values d in ((x.lexeme, v), ap₂ leaf (ap (λ c. mark c x.lexeme) e) q)
      values (apply {A = A} {rule = r} {parts = p} {forest = k} m d o d') =
          let (u, q) = values d in
          let (x, f) = covers A (G.rules A) r m (all A) u (rw q at o) in
          let (w, q') = values d' in
          ((x, w), ap₂ put (ap (piece r) q ∙ f) q')

      -- every derivation is a tree
      pub tree_of : {A : N} {k : Forest C N} {xs : List (Symbol C)} → Derived G A k xs → (x : Tree A) × (k ≡ put (piece_of A x) nil) × (yield (put (piece_of A x) nil) ≡ xs)
      tree_of {A} {k} {xs} d =
          let (v, q) = values d.fits in
          (v.0, q, rw q at d.yields)
