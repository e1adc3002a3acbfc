-- The meaning of a tree is the meaning of the derivation that it is. Assumes nothing.
use Prim.Native.Nat.{ℕ, suc, max}
use native.Mathlib.Omega.{arith}
use mathlib.Core.Path.{◌≡◌, refl, sym, ap, ap₂, ◌∙◌}
use mathlib.Core.Bool.{Bool, true, false}
use mathlib.Core.List.{List, [], ◌∷◌, ◌++◌, append-nil}
use mathlib.Core.Option.{Option, none, some}
use lib.Dec.{eqb}
use Rattle.octets.specs.Believed.Choice.{pick, either}
use Rattle.octets.specs.Believed.Letters.{same_letters}
use Rattle.octets.specs.Believed.Text.{bytes}
use Rattle.grammar.specs.Believed.Grammar.{nil, leaf}
use Rattle.grammar.specs.Believed.Records.{part_of}
use Rattle.grammar.specs.Believed.Rfc733.{Derivation, include, postal, other_typed, kind_number, typed_kind}
use Rattle.grammar.specs.Believed.Rfc733 as rfc733
use Rattle.grammar.specs.Executable.Trees733.{node_piece, Comma, At, put, Atom, Colon, LessThan, GreaterThan, Semicolon, Lexeme, Sym, of, atom_word, quoted_word, Phrase, one, more, Nodes, first, next, Slot, empty, comma, AddressList, idle, full, mailbox, angle, group, quoted, typed, word_piece, phrase_piece, nodes_piece, slot_piece, list_piece, address_piece, as_forest}
use Rattle.grammar.proofs.Rfc733.Trees.{phrase_then, nodes_then, slot_levels, list_levels, address_levels}
use Rattle.grammar.specs.Executable.Trees733 as trees
use Rattle.grammar.proofs.Rfc733.HouseRule as house
use Rattle.grammar.proofs.Rfc733.Derivations.{phrase_yield, nodes_yield}
use Rattle.plain.specs.Believed.Meaning.{Word, atom, quoted_string, Words, no_word, and_word, Addresses, no_address, and_address, Address, address, words_after, words_of, nodes_of, addresses_after, meaning}
use Rattle.plain.specs.Believed.PlainText.{atom_group, address_text}

-- ---- the meaning of a tree

abbrev pub word_meaning : trees.Word → Word
word_meaning (atom_word t) = atom t.meaning
word_meaning (quoted_word t) = quoted_string t.meaning

abbrev pub phrase_meaning : Phrase → Words
phrase_meaning (one w) = and_word no_word (word_meaning w)
phrase_meaning (more p w) = and_word (phrase_meaning p) (word_meaning w)

abbrev pub name_meaning : Option Phrase → Words
name_meaning none = no_word
name_meaning (some p) = phrase_meaning p

abbrev pub nodes_meaning : Nodes → Words
nodes_meaning (first t w) = and_word no_word (word_meaning w)
nodes_meaning (next m t w) = and_word (nodes_meaning m) (word_meaning w)

-- a typed address, by the meanings of its atom and of the address in it
abbrev pub typed_meaning : List ℕ → Address → Address
typed_meaning letters member = address (kind_number (typed_kind letters)) (and_word no_word (atom letters)) no_word (and_address no_address member)

abbrev mutual
  pub slot_meaning : Slot → Addresses
  slot_meaning empty = no_address
  slot_meaning (comma l t) = list_meaning l

  pub list_meaning : AddressList → Addresses
  list_meaning (idle r) = slot_meaning r
  list_meaning (full r a) = and_address (slot_meaning r) (address_meaning a)

  pub address_meaning : trees.Address → Address
  address_meaning (mailbox p m) = address (kind_number rfc733.mailbox) (phrase_meaning p) (nodes_meaning m) no_address
  address_meaning (angle o t l u) = address (kind_number rfc733.angle_list) (name_meaning o) no_word (list_meaning l)
  address_meaning (group o t l u) = address (kind_number rfc733.group) (name_meaning o) no_word (list_meaning l)
  address_meaning (quoted t) = address (kind_number rfc733.quoted) (and_word no_word (quoted_string t.meaning)) no_word no_address
  address_meaning (typed t a u b) = typed_meaning a.meaning (address_meaning b)

-- ---- what holds of the three typed kinds holds of any typed atom

pub of_typed : (P : ℕ → Type 0) → P (kind_number include) → P (kind_number postal) → P (kind_number other_typed) → (letters : List ℕ) → P (kind_number (typed_kind letters))
of_typed P i p o letters = by (same_letters letters (bytes "Include")) (same_letters letters (bytes "Postal"))
  where
    by : (x y : Bool) → P (kind_number (pick x include (pick y postal other_typed)))
    by true y = i
    by false true = p
    by false false = o

-- ---- the words of a tree's symbols

words_phrase : (p : Phrase) (xs : List Sym) → words_after no_word (phrase_then p xs) ≡ words_after (phrase_meaning p) xs
words_phrase (one (atom_word t)) xs = refl
words_phrase (one (quoted_word t)) xs = refl
words_phrase (more p (atom_word t)) xs = words_phrase p _
words_phrase (more p (quoted_word t)) xs = words_phrase p _

words_nodes : (m : Nodes) (xs : List Sym) → words_after no_word (nodes_then m xs) ≡ words_after (nodes_meaning m) xs
words_nodes (first t (atom_word w)) xs = refl
words_nodes (first t (quoted_word w)) xs = refl
words_nodes (next m t (atom_word w)) xs = words_nodes m _
words_nodes (next m t (quoted_word w)) xs = words_nodes m _

pub name_words : (p : Phrase) (k : Derivation) → words_of (part_of 0 (put (phrase_piece p) k)) ≡ phrase_meaning p
name_words p k = ap words_of (phrase_yield p []) ∙ words_phrase p []

pub node_words : (p : Phrase) (m : Nodes) (k : Derivation) → words_of (part_of 1 (put (phrase_piece p) (put (nodes_piece m) k))) ≡ nodes_meaning m
node_words p m k = ap words_of (nodes_yield m []) ∙ words_nodes m []

no_typed_nodes : (letters : List ℕ) (parts : Derivation) → nodes_of (kind_number (typed_kind letters)) parts ≡ no_word
no_typed_nodes letters parts = of_typed (λ kind. nodes_of kind parts ≡ no_word) refl refl refl letters

-- ---- words and phrases hold no address

after_word : (w : trees.Word) (before : Addresses) (k : Derivation) → addresses_after before (put (word_piece w) k) ≡ addresses_after before k
after_word (atom_word t) before k = refl
after_word (quoted_word t) before k = refl

after_phrase : (p : Phrase) (before : Addresses) (k : Derivation) → addresses_after before (put (phrase_piece p) k) ≡ addresses_after before k
after_phrase (one w) before k = ap (λ b. addresses_after b k) (after_word w before nil)
after_phrase (more p w) before k = ap (λ b. addresses_after b k) (after_phrase p before (put (word_piece w) nil) ∙ after_word w before nil)

after_nodes : (m : Nodes) (before : Addresses) (k : Derivation) → addresses_after before (put (nodes_piece m) k) ≡ addresses_after before k
after_nodes (first t w) before k = ap (λ b. addresses_after b k) (after_word w before nil)
after_nodes (next m t w) before k = ap (λ b. addresses_after b k) (after_nodes m before (leaf (of At t) (put (node_piece w) nil)) ∙ after_word w before nil)

-- ---- the addresses of a forest are those of the tree

typed_address : (atom' : Lexeme) (kind : ℕ) (name nodes nodes' : Words) (members members' : Addresses) → kind ≡ kind_number (typed_kind atom'.meaning) → nodes ≡ nodes' → members ≡ members'
    → address kind name nodes members ≡ address (kind_number (typed_kind atom'.meaning)) name nodes' members'
typed_address atom' kind name nodes nodes' members members' e f g = cc

mutual
  after_place : (r : Slot) (k : Derivation) → addresses_after no_address (put (slot_piece r) k) ≡ addresses_after (slot_meaning r) k
  after_place empty k = refl
  after_place (comma l t) k = ap (λ b. addresses_after b k) (after_list l (leaf (of Comma t) nil))

  pub after_list : (l : AddressList) (k : Derivation) → addresses_after no_address (put (list_piece l) k) ≡ addresses_after (list_meaning l) k
  after_list (idle r) k = ap (λ b. addresses_after b k) (after_place r nil)
  after_list (full r a) k = ap (λ b. addresses_after b k) (after_place r (put (address_piece a) nil) ∙ after_address a (slot_meaning r) nil)

  pub after_address : (a : trees.Address) (before : Addresses) (k : Derivation) → addresses_after before (put (address_piece a) k) ≡ addresses_after (and_address before (address_meaning a)) k
  after_address (mailbox p m) before k =
      let forest = put (phrase_piece p) (put (nodes_piece m) nil) in
      let n : words_of (part_of 0 forest) ≡ phrase_meaning p = name_words p (put (nodes_piece m) nil) in
      let w : words_of (part_of 1 forest) ≡ nodes_meaning m = node_words p m nil in
      let e : addresses_after no_address forest ≡ no_address = after_phrase p no_address (put (nodes_piece m) nil) ∙ after_nodes m no_address nil in
      ap (λ b. addresses_after (and_address before b) k) (cc)
  after_address (angle none t l u) before k =
      ap (λ b. addresses_after (and_address before (address (kind_number rfc733.angle_list) no_word no_word b)) k) (after_list l (leaf (of GreaterThan u) nil))
  after_address (angle (some p) t l u) before k =
      let forest = put (phrase_piece p) (leaf (of LessThan t) (put (list_piece l) (leaf (of GreaterThan u) nil))) in
      let n : words_of (part_of 0 forest) ≡ phrase_meaning p = name_words p (leaf (of LessThan t) (put (list_piece l) (leaf (of GreaterThan u) nil))) in
      let e : addresses_after no_address forest ≡ list_meaning l = after_phrase p no_address (leaf (of LessThan t) (put (list_piece l) (leaf (of GreaterThan u) nil))) ∙ after_list l (leaf (of GreaterThan u) nil) in
      ap (λ b. addresses_after (and_address before b) k) (cc)
  after_address (group none t l u) before k =
      ap (λ b. addresses_after (and_address before (address (kind_number rfc733.group) no_word no_word b)) k) (after_list l (leaf (of Semicolon u) nil))
  after_address (group (some p) t l u) before k =
      let forest = put (phrase_piece p) (leaf (of Colon t) (put (list_piece l) (leaf (of Semicolon u) nil))) in
      let n : words_of (part_of 0 forest) ≡ phrase_meaning p = name_words p (leaf (of Colon t) (put (list_piece l) (leaf (of Semicolon u) nil))) in
      let e : addresses_after no_address forest ≡ list_meaning l = after_phrase p no_address (leaf (of Colon t) (put (list_piece l) (leaf (of Semicolon u) nil))) ∙ after_list l (leaf (of Semicolon u) nil) in
      ap (λ b. addresses_after (and_address before b) k) (cc)
  after_address (quoted t) before k = refl
  after_address (typed t a u b) before k =
      ap (λ c. addresses_after (and_address before c) k)
      (typed_address a _ _ _ _ _ _ (ap (λ m. kind_number (typed_kind m)) (append-nil a.meaning)) (no_typed_nodes (a.meaning ++ []) (leaf (of Colon t) (leaf (of Atom a) (leaf (of Colon u) (put (address_piece b) nil))))) (after_address b no_address nil))

-- the meaning of a derivation, by its tree
pub meaning_forest : (l : AddressList) → meaning (as_forest l) ≡ list_meaning l
meaning_forest l = after_list l nil

-- ---- what a meaning tells of its derivations

-- the levels of a meaning
abbrev mutual
  pub addresses_depth : Addresses → ℕ
  addresses_depth no_address = 0
  addresses_depth (and_address before last) = max (addresses_depth before) (address_depth last)

  pub address_depth : Address → ℕ
  address_depth (address kind name nodes members) = pick (either (eqb kind (kind_number rfc733.mailbox)) (eqb kind (kind_number rfc733.quoted))) 0 (suc (addresses_depth members))

pub typed_depth : (letters : List ℕ) (member : Address) → address_depth (typed_meaning letters member) ≡ suc (address_depth member)
typed_depth letters member =
    of_typed (λ kind. address_depth (address kind (and_word no_word (atom letters)) no_word (and_address no_address member)) ≡ suc (address_depth member)) (omega arith) (omega arith) (omega arith) letters

mutual
  place_depth : (r : Slot) → slot_levels r ≡ addresses_depth (slot_meaning r)
  place_depth empty = refl
  place_depth (comma l t) = list_depth l

  pub list_depth : (l : AddressList) → list_levels l ≡ addresses_depth (list_meaning l)
  list_depth (idle r) = place_depth r
  list_depth (full r a) = ap₂ max (place_depth r) (address_depth_lem a)

  address_depth_lem : (a : trees.Address) → address_levels a ≡ address_depth (address_meaning a)
  address_depth_lem (mailbox p m) = refl
  address_depth_lem (angle o t l u) = ap suc (list_depth l)
  address_depth_lem (group o t l u) = ap suc (list_depth l)
  address_depth_lem (quoted t) = refl
  address_depth_lem (typed t a u b) = ap suc (address_depth_lem b) ∙ sym (typed_depth a.meaning (address_meaning b))

typed_no_group : (letters : List ℕ) (member : Address) → atom_group (typed_meaning letters member) ≡ false
typed_no_group letters member = of_typed (λ kind. atom_group (address kind (and_word no_word (atom letters)) no_word (and_address no_address member)) ≡ false) refl refl refl letters

-- a group named by a single atom
pub atom_group_lem : (a : trees.Address) → house.atom_group a ≡ atom_group (address_meaning a)
atom_group_lem (mailbox p m) = refl
atom_group_lem (angle o t l u) = refl
atom_group_lem (group none t l u) = refl
atom_group_lem (group (some (one (atom_word v))) t l u) = refl
atom_group_lem (group (some (one (quoted_word v))) t l u) = refl
atom_group_lem (group (some (more (one v) w)) t l u) = refl
atom_group_lem (group (some (more (more p v) w)) t l u) = refl
atom_group_lem (quoted t) = refl
atom_group_lem (typed t a u b) = sym (typed_no_group a.meaning (address_meaning b))

-- ---- the text of a typed address

pub typed_text : (letters : List ℕ) (member : Address) (rest : List ℕ) → address_text (typed_meaning letters member) rest ≡ 58 ∷ (letters ++ (58 ∷ 32 ∷ address_text member rest))
typed_text letters member rest =
    of_typed (λ kind. address_text (address kind (and_word no_word (atom letters)) no_word (and_address no_address member)) rest ≡ 58 ∷ (letters ++ (58 ∷ 32 ∷ address_text member rest))) refl refl refl letters
