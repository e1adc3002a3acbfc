-- The trees of RFC 733 are the derivations of the grammar `rfc733`. Assumes nothing.
use Prim.Native.Nat.{ℕ, ◌<◌}
use native.Mathlib.Omega.{arith}
use mathlib.Core.Path.{◌≡◌, refl, sym, ap, ◌∙◌}
use mathlib.Core.Bool.{false}
use mathlib.Core.List.{List, [], ◌∷◌}
use mathlib.Core.Option.{none, some}
use lib.ListN.{length}
use Rattle.grammar.specs.Believed.Grammar.{Item, nonterminal, yield, levels, begins, Allowed, Fits, done, take}
use Rattle.grammar.specs.Believed.Rfc733.{same_class, plain, rules_of, Nonterminal, list, slot, address, phrase, at_nodes, node, word, rfc733, Derivation, DerivedList}
use Rattle.grammar.specs.Executable.Trees733.{put, Class, Atom, At, LessThan, Comma, Semicolon, Colon, Lexeme, Sym, of, Word, atom_word, quoted_word, Phrase, one, more, Nodes, first, next, Slot, empty, comma, AddressList, idle, full, Address, mailbox, angle, group, quoted, typed, Bit, bit, word_piece, phrase_piece, node_piece, nodes_piece, slot_piece, list_piece, address_piece, as_forest}
use Rattle.grammar.proofs.Any.Pieces.{seen, levels_of, From, by_rule, put_fits, AllCovered, tree_of}
use Rattle.grammar.proofs.Rfc733.Trees.{word_symbol, phrase_then, nodes_then, slot_then, list_then, address_then, slot_levels, list_levels, address_levels, slot_lawful, list_lawful, address_lawful, house_rule, DerivedTree}

-- ---- the same symbols

pub word_yield : (w : Word) (xs : List Sym) → seen (word_piece w) xs ≡ word_symbol w ∷ xs
word_yield (atom_word t) xs = refl
word_yield (quoted_word t) xs = refl

pub phrase_yield : (p : Phrase) (xs : List Sym) → seen (phrase_piece p) xs ≡ phrase_then p xs
phrase_yield (one w) xs = word_yield w xs
phrase_yield (more p w) xs = phrase_yield p _ ∙ ap (phrase_then p) (word_yield w xs)

pub nodes_yield : (m : Nodes) (xs : List Sym) → seen (nodes_piece m) xs ≡ nodes_then m xs
nodes_yield (first t w) xs = ap (λ l. of At t ∷ l) (word_yield w xs)
nodes_yield (next m t w) xs = nodes_yield m _ ∙ ap (λ l. nodes_then m (of At t ∷ l)) (word_yield w xs)

mutual
  pub slot_yield : (r : Slot) (xs : List Sym) → seen (slot_piece r) xs ≡ slot_then r xs
  slot_yield empty xs = refl
  slot_yield (comma l t) xs = list_yield l (of Comma t ∷ xs)

  pub list_yield : (l : AddressList) (xs : List Sym) → seen (list_piece l) xs ≡ list_then l xs
  list_yield (idle r) xs = slot_yield r xs
  list_yield (full r a) xs = slot_yield r _ ∙ ap (slot_then r) (address_yield a xs)

  pub address_yield : (a : Address) (xs : List Sym) → seen (address_piece a) xs ≡ address_then a xs
  address_yield (mailbox p m) xs = phrase_yield p _ ∙ ap (phrase_then p) (nodes_yield m xs)
  address_yield (angle none t l u) xs = ap (λ s. of LessThan t ∷ s) (list_yield l _)
  address_yield (angle (some p) t l u) xs = phrase_yield p _ ∙ ap (λ s. phrase_then p (of LessThan t ∷ s)) (list_yield l _)
  address_yield (group none t l u) xs = ap (λ s. of Colon t ∷ s) (list_yield l _)
  address_yield (group (some p) t l u) xs = phrase_yield p _ ∙ ap (λ s. phrase_then p (of Colon t ∷ s)) (list_yield l _)
  address_yield (quoted t) xs = refl
  address_yield (typed t a u b) xs = ap (λ s. of Colon t ∷ of Atom a ∷ of Colon u ∷ s) (address_yield b xs)

-- ---- the same levels

word_levels : (w : Word) → levels_of (word_piece w) ≡ 0
word_levels (atom_word t) = refl
word_levels (quoted_word t) = refl

phrase_levels : (p : Phrase) → levels_of (phrase_piece p) ≡ 0
phrase_levels (one w) = omega (arith, word_levels w)
phrase_levels (more p w) = omega (arith, phrase_levels p, word_levels w)

nodes_levels : (m : Nodes) → levels_of (nodes_piece m) ≡ 0
nodes_levels (first t w) = omega (arith, word_levels w)
nodes_levels (next m t w) = omega (arith, nodes_levels m, word_levels w)

mutual
  slot_levels_lem : (r : Slot) → levels_of (slot_piece r) ≡ slot_levels r
  slot_levels_lem empty = refl
  slot_levels_lem (comma l t) = omega (arith, list_levels_lem l)

  list_levels_lem : (l : AddressList) → levels_of (list_piece l) ≡ list_levels l
  list_levels_lem (idle r) = omega (arith, slot_levels_lem r)
  list_levels_lem (full r a) = omega (arith, slot_levels_lem r, address_levels_lem a)

  address_levels_lem : (a : Address) → levels_of (address_piece a) ≡ address_levels a
  address_levels_lem (mailbox p m) = omega (arith, phrase_levels p, nodes_levels m)
  address_levels_lem (angle none t l u) = omega (arith, list_levels_lem l)
  address_levels_lem (angle (some p) t l u) = omega (arith, phrase_levels p, list_levels_lem l)
  address_levels_lem (group none t l u) = omega (arith, list_levels_lem l)
  address_levels_lem (group (some p) t l u) = omega (arith, phrase_levels p, list_levels_lem l)
  address_levels_lem (quoted t) = refl
  address_levels_lem (typed t a u b) = omega (arith, address_levels_lem b)

-- ---- every lawful tree is a derivation

abbrev Is : Nonterminal → Bit → Type 0
Is A p = From rfc733 A p

-- .. by the i-th rule
by : (A : Nonterminal) (i : ℕ) {p : Derivation} → i < length (rules_of A) → Fits rfc733 (bit A i p).rule.items p → Allowed same_class (bit A i p).rule.never (yield p) → Is A (bit A i p)
by A i h d o = by_rule rfc733 A i (plain []) h d o

with : {A : Nonterminal} {p : Bit} {items : List (Item Class Nonterminal)} {k : Derivation} → Is A p → Fits rfc733 items k → Fits rfc733 (nonterminal A ∷ items) (put p k)
with f d = put_fits rfc733 f d

word_is : (w : Word) → Is word (word_piece w)
word_is (atom_word t) = by word 0 (omega arith) (take refl done) tt
word_is (quoted_word t) = by word 1 (omega arith) (take refl done) tt

node_is : (w : Word) → Is node (node_piece w)
node_is w = by node 0 (omega arith) (with (word_is w) done) tt

pub phrase_is : (p : Phrase) → Is phrase (phrase_piece p)
phrase_is (one w) = by phrase 0 (omega arith) (with (word_is w) done) tt
phrase_is (more p w) = by phrase 1 (omega arith) (with (phrase_is p) (with (word_is w) done)) tt

pub nodes_is : (m : Nodes) → Is at_nodes (nodes_piece m)
nodes_is (first t w) = by at_nodes 0 (omega arith) (take refl (with (node_is w) done)) tt
nodes_is (next m t w) = by at_nodes 1 (omega arith) (with (nodes_is m) (take refl (with (node_is w) done))) tt

mutual
  slot_is : (r : Slot) → slot_lawful r → Is slot (slot_piece r)
  slot_is empty o = by slot 0 (omega arith) done tt
  slot_is (comma l t) o = by slot 1 (omega arith) (with (list_is l o) (take refl done)) tt

  list_is : (l : AddressList) → list_lawful l → Is list (list_piece l)
  list_is (idle r) o = by list 1 (omega arith) (with (slot_is r o) done) tt
  list_is (full r a) o = by list 0 (omega arith) (with (slot_is r o.0) (with (address_is a o.1) done)) tt

  address_is : (a : Address) → address_lawful a → Is address (address_piece a)
  address_is (mailbox p m) o = by address 0 (omega arith) (with (phrase_is p) (with (nodes_is m) done)) tt
  address_is (angle none t l u) o = by address 2 (omega arith) (take refl (with (list_is l o) (take refl done))) tt
  address_is (angle (some p) t l u) o = by address 1 (omega arith) (with (phrase_is p) (take refl (with (list_is l o) (take refl done)))) tt
  address_is (group none t l u) o = by address 4 (omega arith) (take refl (with (list_is l o.0) (take refl done))) (ap (begins same_class (Atom ∷ Colon ∷ [])) (list_yield l _) ∙ o.1)
  address_is (group (some p) t l u) o = by address 3 (omega arith) (with (phrase_is p) (take refl (with (list_is l o.0) (take refl done)))) tt
  address_is (quoted t) o = by address 5 (omega arith) (take refl done) tt
  address_is (typed t a u b) o = by address 6 (omega arith) (take refl (take refl (take refl (with (address_is b o) done)))) tt

-- ---- every derivation is a lawful tree

abbrev Tree : Nonterminal → Type 0
Tree list = (l : AddressList) × list_lawful l
Tree slot = (r : Slot) × slot_lawful r
Tree address = (a : Address) × address_lawful a
Tree phrase = Phrase
Tree at_nodes = Nodes
Tree node = Word
Tree word = Word

abbrev piece_of : (A : Nonterminal) → Tree A → Bit
piece_of list x = list_piece x.0
piece_of slot x = slot_piece x.0
piece_of address x = address_piece x.0
piece_of phrase x = phrase_piece x
piece_of at_nodes x = nodes_piece x
piece_of node x = node_piece x
piece_of word x = word_piece x

-- a nameless group that the rule allows keeps the house rule
house : (l : AddressList) (u : Lexeme) → begins same_class (Atom ∷ Colon ∷ []) (seen (list_piece l) (of Semicolon u ∷ [])) ≡ false → house_rule none (list_then l (of Semicolon u ∷ []))
house l u h = sym (ap (begins same_class (Atom ∷ Colon ∷ [])) (list_yield l (of Semicolon u ∷ []))) ∙ h

covered : (A : Nonterminal) → AllCovered rfc733 Tree piece_of A (rules_of A)
covered list = (λ (r, (a, z)) o. ((full r.0 a.0, (r.1, a.1)), refl), (λ (r, z) o. ((idle r.0, r.1), refl), tt))
covered slot = (λ z o. ((empty, tt), refl), (λ (l, (t, z)) o. ((comma l.0 t, l.1), refl), tt))
covered address = (
  λ (p, (m, z)) o. ((mailbox p m, tt), refl),
  (
    λ (p, (t, (l, (u, z)))) o. ((angle (some p) t l.0 u, l.1), refl),
    (
      λ (t, (l, (u, z))) o. ((angle none t l.0 u, l.1), refl),
      (
        λ (p, (t, (l, (u, z)))) o. ((group (some p) t l.0 u, (l.1, tt)), refl),
        (
          λ (t, (l, (u, z))) o. ((group none t l.0 u, (l.1, house l.0 u o)), refl),
          (λ (t, z) o. ((quoted t, tt), refl), (λ (t, (a, (u, (b, z)))) o. ((typed t a u b.0, b.1), refl), tt)),
        ),
      ),
    ),
  ),
)
covered phrase = (λ (w, z) o. (one w, refl), (λ (p, (w, z)) o. (more p w, refl), tt))
covered at_nodes = (λ (t, (w, z)) o. (first t w, refl), (λ (m, (t, (w, z))) o. (next m t w, refl), tt))
covered node = (λ (w, z) o. (w, refl), tt)
covered word = (λ (t, z) o. (atom_word t, refl), (λ (t, z) o. (quoted_word t, refl), tt))

-- ---- the two kinds of derivation

pub forest_levels : (l : AddressList) → levels (as_forest l) ≡ list_levels l
forest_levels l = omega (arith, list_levels_lem l)

pub forest_derived : {l : AddressList} {xs : List Sym} → DerivedTree l xs → DerivedList (as_forest l) xs
forest_derived {l} {xs} d = record { fits = with (list_is l d.lawful) done; yields = list_yield l [] ∙ d.yields }

-- .. and every derivation is a tree
pub tree_derived : {k : Derivation} {xs : List Sym} → DerivedList k xs → (l : AddressList) × (k ≡ as_forest l) × DerivedTree l xs
tree_derived {k} {xs} d =
    let (x, e, y) = tree_of rfc733 Tree piece_of covered d in
    (x.0, e, record { yields = sym (list_yield x.0 []) ∙ y; lawful = x.1 })
