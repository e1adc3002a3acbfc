-- The records of an address list, read off its tree: what a reader of lists and addresses writes. Assumes nothing.
use Prim.Native.Nat.{ℕ, suc, ◌+◌}
use native.Mathlib.Omega.{arith}
use mathlib.Core.Path.{◌≡◌, refl, sym, ap, ◌∙◌}
use mathlib.Core.Bool.{Bool, true, false}
use mathlib.Core.List.{List, [], ◌∷◌, ◌++◌, append-nil}
use mathlib.Core.Option.{Option, none, some}
use Rattle.octets.specs.Believed.Choice.{pick}
use Rattle.grammar.specs.Believed.Grammar.{nil, leaf, yield}
use Rattle.grammar.specs.Believed.Language.{start_of}
use Rattle.grammar.specs.Believed.Records.{last_end, part_of, count, records_from, records}
use Rattle.grammar.specs.Believed.Rfc733.{Nonterminal, list, slot, address, phrase, at_nodes, node, word, rules_of, rfc733, Derivation, kind_number, typed_kind}
use Rattle.records.specs.Believed.AddressRecords.{AddressRecord, record_by}
use Rattle.grammar.specs.Believed.Rfc733 as rfc
use Rattle.grammar.specs.Executable.Trees733.{put, Lexeme, LessThan, GreaterThan, Colon, Semicolon, Comma, At, Sym, of, Word, atom_word, quoted_word, Phrase, one, more, Nodes, first, next, Slot, empty, comma, AddressList, idle, full, Address, mailbox, angle, group, quoted, typed, phrase_piece, nodes_piece, slot_piece, list_piece, address_piece, as_forest}
use Rattle.grammar.proofs.Rfc733.Trees.{word_symbol, phrase_then, nodes_then, list_then, address_then}
use Rattle.grammar.proofs.Any.Records.{yield-append, last-append}
use Rattle.grammar.proofs.Any.Silent.{silent_rules, silent_records, silent_count}
use Rattle.grammar.proofs.Rfc733.Derivations.{phrase_yield, list_yield, address_yield, phrase_is, nodes_is}

-- ---- the record of an address

abbrev pub word_lexeme : Word → Lexeme
word_lexeme (atom_word t) = t
word_lexeme (quoted_word t) = t

abbrev pub phrase_start : Phrase → ℕ
phrase_start (one w) = (word_lexeme w).start
phrase_start (more p w) = phrase_start p

abbrev pub phrase_end : Phrase → ℕ
phrase_end (one w) = (word_lexeme w).end
phrase_end (more p w) = (word_lexeme w).end

abbrev pub nodes_end : Nodes → ℕ
nodes_end (first t w) = (word_lexeme w).end
nodes_end (next m t w) = (word_lexeme w).end

-- the start of a name, or of the mark after it
abbrev pub name_start : Option Phrase → Lexeme → ℕ
name_start none t = t.start
name_start (some p) t = phrase_start p

-- the end of a name; without one the start of the mark
abbrev pub name_end : Option Phrase → Lexeme → ℕ
name_end none t = t.start
name_end (some p) t = phrase_end p

abbrev pub address_end : Address → ℕ
address_end (mailbox p m) = nodes_end m
address_end (angle o t l u) = u.end
address_end (group o t l u) = u.end
address_end (quoted t) = t.end
address_end (typed t a u b) = address_end b

abbrev pub address_record : Address → ℕ → ℕ → AddressRecord
address_record (mailbox p m) depth parent = record_by (kind_number rfc.mailbox) depth parent (phrase_start p) (nodes_end m) (phrase_start p) (phrase_end p)
address_record (angle o t l u) depth parent = record_by (kind_number rfc.angle_list) depth parent (name_start o t) u.end (name_start o t) (name_end o t)
address_record (group o t l u) depth parent = record_by (kind_number rfc.group) depth parent (name_start o t) u.end (name_start o t) (name_end o t)
address_record (quoted t) depth parent = record_by (kind_number rfc.quoted) depth parent t.start t.end t.start t.end
address_record (typed t a u b) depth parent = record_by (kind_number (typed_kind a.meaning)) depth parent t.start (address_end b) a.start a.end

-- ---- the records of a list

abbrev mutual
  pub slot_count : Slot → ℕ
  slot_count empty = 0
  slot_count (comma l t) = list_count l

  pub list_count : AddressList → ℕ
  list_count (idle r) = slot_count r
  list_count (full r a) = slot_count r + address_count a

  pub address_count : Address → ℕ
  address_count (mailbox p m) = 1
  address_count (angle o t l u) = suc (list_count l)
  address_count (group o t l u) = suc (list_count l)
  address_count (quoted t) = 1
  address_count (typed t a u b) = suc (address_count b)

-- at this depth, with this parent (its number plus 1), from this number on
abbrev mutual
  pub slot_records : Slot → ℕ → ℕ → ℕ → List AddressRecord
  slot_records empty depth parent i = []
  slot_records (comma l t) depth parent i = list_records l depth parent i

  pub list_records : AddressList → ℕ → ℕ → ℕ → List AddressRecord
  list_records (idle r) depth parent i = slot_records r depth parent i
  list_records (full r a) depth parent i =
      slot_records r depth parent i ++ (address_record a depth parent ∷ inside_records a (suc depth) (suc (i + slot_count r)))

  -- the records inside an address, `i` being the number of the first of them and so the address's own number plus 1
  pub inside_records : Address → ℕ → ℕ → List AddressRecord
  inside_records (mailbox p m) depth i = []
  inside_records (angle o t l u) depth i = list_records l depth i i
  inside_records (group o t l u) depth i = list_records l depth i i
  inside_records (quoted t) depth i = []
  inside_records (typed t a u b) depth i = address_record b depth i ∷ inside_records b (suc depth) (suc i)

abbrev pub address_records : Address → ℕ → ℕ → ℕ → List AddressRecord
address_records a depth parent i = address_record a depth parent ∷ inside_records a (suc depth) (suc i)

-- ---- the symbols of a tree: the first and the last of them

start_phrase : (q : ℕ) (p : Phrase) (xs : List Sym) → start_of q (phrase_then p xs) ≡ phrase_start p
start_phrase q (one (atom_word t)) xs = refl
start_phrase q (one (quoted_word t)) xs = refl
start_phrase q (more p w) xs = start_phrase q p (word_symbol w ∷ xs)

last_word : (q : ℕ) (w : Word) (xs : List Sym) → last_end q (word_symbol w ∷ xs) ≡ last_end (word_lexeme w).end xs
last_word q (atom_word t) xs = refl
last_word q (quoted_word t) xs = refl

last_phrase : (q : ℕ) (p : Phrase) (xs : List Sym) → last_end q (phrase_then p xs) ≡ last_end (phrase_end p) xs
last_phrase q (one w) xs = last_word q w xs
last_phrase q (more p w) xs = last_phrase q p (word_symbol w ∷ xs) ∙ last_word (phrase_end p) w xs

last_nodes : (q : ℕ) (m : Nodes) (xs : List Sym) → last_end q (nodes_then m xs) ≡ last_end (nodes_end m) xs
last_nodes q (first t w) xs = last_word t.end w xs
last_nodes q (next m t w) xs = last_nodes q m (of At t ∷ word_symbol w ∷ xs) ∙ last_word t.end w xs

last_list : (q : ℕ) (l : AddressList) (x : Sym) (xs : List Sym) → last_end q (list_then l (x ∷ xs)) ≡ last_end x.lexeme.end xs
last_list q l x xs = ap (last_end q) (sym (list_yield l (x ∷ xs)) ∙ yield-append (list_piece l).parts (x ∷ xs)) ∙ last-append q (yield (list_piece l).parts) x xs

last_address : (q : ℕ) (a : Address) (xs : List Sym) → last_end q (address_then a xs) ≡ last_end (address_end a) xs
last_address q (mailbox p m) xs = last_phrase q p (nodes_then m xs) ∙ last_nodes (phrase_end p) m xs
last_address q (angle none t l u) xs = last_list t.end l (of GreaterThan u) xs
last_address q (angle (some p) t l u) xs = last_phrase q p _ ∙ last_list t.end l (of GreaterThan u) xs
last_address q (group none t l u) xs = last_list t.end l (of Semicolon u) xs
last_address q (group (some p) t l u) xs = last_phrase q p _ ∙ last_list t.end l (of Semicolon u) xs
last_address q (quoted t) xs = refl
last_address q (typed t a u b) xs = last_address u.end b xs

-- ---- the record of an address is its rule's

same_record : {k k' s s' e e' ns ns' ne ne' : ℕ} (d par : ℕ) → k ≡ k' → s ≡ s' → e ≡ e' → ns ≡ ns' → ne ≡ ne' → record_by k d par s e ns ne ≡ record_by k' d par s' e' ns' ne'
same_record d par a b c f g = cc

cons_record : {r r' : AddressRecord} {a a' : List AddressRecord} → r ≡ r' → a ≡ a' → r ∷ a ≡ r' ∷ a'
cons_record e f = cc

-- a name at the beginning of a forest
module _ (p : Phrase) (k : Derivation) where
  forest_start : start_of 0 (yield (put (phrase_piece p) k)) ≡ phrase_start p
  forest_start = ap (start_of 0) (phrase_yield p (yield k)) ∙ start_phrase 0 p _

  name_start_lem : (q : ℕ) → start_of q (part_of 0 (put (phrase_piece p) k)) ≡ phrase_start p
  name_start_lem q = ap (start_of q) (phrase_yield p []) ∙ start_phrase q p []

  name_end_lem : (q : ℕ) → last_end q (part_of 0 (put (phrase_piece p) k)) ≡ phrase_end p
  name_end_lem q = ap (last_end q) (phrase_yield p []) ∙ last_phrase q p []

-- the end of an address
forest_end : (q : ℕ) (a : Address) (xs : List Sym) → xs ≡ address_then a [] → last_end q xs ≡ address_end a
forest_end q a xs e = ap (last_end q) e ∙ last_address q a []

-- ---- the records of a tree are those of its derivation

-- words, phrases and nodes have no record
abbrev silent : Nonterminal → Bool
silent list = false
silent slot = false
silent address = false
silent phrase = true
silent at_nodes = true
silent node = true
silent word = true

all_silent : (A : Nonterminal) → pick (silent A) (silent_rules silent (rules_of A)) true ≡ true
all_silent list = refl
all_silent slot = refl
all_silent address = refl
all_silent phrase = refl
all_silent at_nodes = refl
all_silent node = refl
all_silent word = refl

phrase_count : (p : Phrase) (k : Derivation) → count (put (phrase_piece p) k) ≡ count k
phrase_count p k = silent_count silent rfc733 all_silent (phrase_is p) refl k

nodes_count : (m : Nodes) (k : Derivation) → count (put (nodes_piece m) k) ≡ count k
nodes_count m k = silent_count silent rfc733 all_silent (nodes_is m) refl k

mutual
  slot_count_lem : (r : Slot) (k : Derivation) → count (put (slot_piece r) k) ≡ slot_count r + count k
  slot_count_lem empty k = omega arith
  slot_count_lem (comma l t) k = omega (arith, list_count_lem l (leaf (of Comma t) nil))

  list_count_lem : (l : AddressList) (k : Derivation) → count (put (list_piece l) k) ≡ list_count l + count k
  list_count_lem (idle r) k = omega (arith, slot_count_lem r nil)
  list_count_lem (full r a) k = omega (arith, slot_count_lem r (put (address_piece a) nil), address_count_lem a nil)

  address_count_lem : (a : Address) (k : Derivation) → count (put (address_piece a) k) ≡ address_count a + count k
  address_count_lem (mailbox p m) k = omega (arith, phrase_count p (put (nodes_piece m) nil), nodes_count m nil)
  address_count_lem (angle none t l u) k = omega (arith, list_count_lem l (leaf (of GreaterThan u) nil))
  address_count_lem (angle (some p) t l u) k = omega (arith, phrase_count p (leaf (of LessThan t) (put (list_piece l) (leaf (of GreaterThan u) nil))), list_count_lem l (leaf (of GreaterThan u) nil))
  address_count_lem (group none t l u) k = omega (arith, list_count_lem l (leaf (of Semicolon u) nil))
  address_count_lem (group (some p) t l u) k = omega (arith, phrase_count p (leaf (of Colon t) (put (list_piece l) (leaf (of Semicolon u) nil))), list_count_lem l (leaf (of Semicolon u) nil))
  address_count_lem (quoted t) k = omega arith
  address_count_lem (typed t a u b) k = omega (arith, address_count_lem b nil)

-- a forest of two parts: what comes from the first, and then from the second, which starts at the number `m`
both_parts : {a : List AddressRecord} {m : ℕ} (b : ℕ → List AddressRecord) (a' : List AddressRecord) (n : ℕ) → a ≡ a' → m ≡ n → a ++ b m ≡ a' ++ b n
both_parts b a' n e f = cc

phrase_records : (p : Phrase) (k : Derivation) (d par i : ℕ) → records_from (put (phrase_piece p) k) d par i ≡ records_from k d par i
phrase_records p k d par i = silent_records silent rfc733 all_silent (phrase_is p) refl k d par i

nodes_records : (m : Nodes) (k : Derivation) (d par i : ℕ) → records_from (put (nodes_piece m) k) d par i ≡ records_from k d par i
nodes_records m k d par i = silent_records silent rfc733 all_silent (nodes_is m) refl k d par i

mutual
  slot_records_lem : (r : Slot) (k : Derivation) (d par i : ℕ) → records_from (put (slot_piece r) k) d par i ≡ slot_records r d par i ++ records_from k d par (i + slot_count r)
  slot_records_lem empty k d par i = refl
  slot_records_lem (comma l t) k d par i =
      both_parts (records_from k d par) (slot_records (comma l t) d par i) (i + slot_count (comma l t)) (list_records_lem l (leaf (of Comma t) nil) d par i ∙ append-nil _) (omega (arith, list_count_lem l (leaf (of Comma t) nil)))

  list_records_lem : (l : AddressList) (k : Derivation) (d par i : ℕ) → records_from (put (list_piece l) k) d par i ≡ list_records l d par i ++ records_from k d par (i + list_count l)
  list_records_lem (idle r) k d par i = both_parts (records_from k d par) (list_records (idle r) d par i) (i + list_count (idle r)) (slot_records_lem r nil d par i ∙ append-nil _) (omega (arith, slot_count_lem r nil))
  list_records_lem (full r a) k d par i =
      both_parts (records_from k d par) (list_records (full r a) d par i) (i + list_count (full r a))
      (slot_records_lem r (put (address_piece a) nil) d par i ∙ ap (λ rs. slot_records r d par i ++ rs) (address_records_lem a nil d par (i + slot_count r) ∙ append-nil _))
      (omega (arith, slot_count_lem r (put (address_piece a) nil), address_count_lem a nil))

  address_records_lem : (a : Address) (k : Derivation) (d par i : ℕ) → records_from (put (address_piece a) k) d par i ≡ address_records a d par i ++ records_from k d par (i + address_count a)
  address_records_lem (mailbox p m) k d par i =
      both_parts (records_from k d par) (address_records (mailbox p m) d par i) (i + address_count (mailbox p m))
      (cons_record (same_record d par refl (forest_start p (put (nodes_piece m) nil)) (forest_end _ (mailbox p m) _ (address_yield (mailbox p m) [])) (name_start_lem p (put (nodes_piece m) nil) _) (name_end_lem p (put (nodes_piece m) nil) _))
      (phrase_records p (put (nodes_piece m) nil) (suc d) (suc i) (suc i) ∙ nodes_records m nil (suc d) (suc i) (suc i)))
      (omega (arith, phrase_count p (put (nodes_piece m) nil), nodes_count m nil))
  address_records_lem (angle none t l u) k d par i =
      both_parts (records_from k d par) (address_records (angle none t l u) d par i) (i + address_count (angle none t l u))
      (cons_record (same_record d par refl refl (forest_end 0 (angle none t l u) _ (address_yield (angle none t l u) [])) refl refl)
      (list_records_lem l (leaf (of GreaterThan u) nil) (suc d) (suc i) (suc i) ∙ append-nil _))
      (omega (arith, list_count_lem l (leaf (of GreaterThan u) nil)))
  address_records_lem (angle (some p) t l u) k d par i =
      both_parts (records_from k d par) (address_records (angle (some p) t l u) d par i) (i + address_count (angle (some p) t l u))
      (cons_record (same_record d par refl (forest_start p (leaf (of LessThan t) (put (list_piece l) (leaf (of GreaterThan u) nil)))) (forest_end _ (angle (some p) t l u) _ (address_yield (angle (some p) t l u) [])) (name_start_lem p (leaf (of LessThan t) (put (list_piece l) (leaf (of GreaterThan u) nil))) _) (name_end_lem p (leaf (of LessThan t) (put (list_piece l) (leaf (of GreaterThan u) nil))) _))
      (phrase_records p (leaf (of LessThan t) (put (list_piece l) (leaf (of GreaterThan u) nil))) (suc d) (suc i) (suc i) ∙ list_records_lem l (leaf (of GreaterThan u) nil) (suc d) (suc i) (suc i) ∙ append-nil _))
      (omega (arith, phrase_count p (leaf (of LessThan t) (put (list_piece l) (leaf (of GreaterThan u) nil))), list_count_lem l (leaf (of GreaterThan u) nil)))
  address_records_lem (group none t l u) k d par i =
      both_parts (records_from k d par) (address_records (group none t l u) d par i) (i + address_count (group none t l u))
      (cons_record (same_record d par refl refl (forest_end 0 (group none t l u) _ (address_yield (group none t l u) [])) refl refl)
      (list_records_lem l (leaf (of Semicolon u) nil) (suc d) (suc i) (suc i) ∙ append-nil _))
      (omega (arith, list_count_lem l (leaf (of Semicolon u) nil)))
  address_records_lem (group (some p) t l u) k d par i =
      both_parts (records_from k d par) (address_records (group (some p) t l u) d par i) (i + address_count (group (some p) t l u))
      (cons_record (same_record d par refl (forest_start p (leaf (of Colon t) (put (list_piece l) (leaf (of Semicolon u) nil)))) (forest_end _ (group (some p) t l u) _ (address_yield (group (some p) t l u) [])) (name_start_lem p (leaf (of Colon t) (put (list_piece l) (leaf (of Semicolon u) nil))) _) (name_end_lem p (leaf (of Colon t) (put (list_piece l) (leaf (of Semicolon u) nil))) _))
      (phrase_records p (leaf (of Colon t) (put (list_piece l) (leaf (of Semicolon u) nil))) (suc d) (suc i) (suc i) ∙ list_records_lem l (leaf (of Semicolon u) nil) (suc d) (suc i) (suc i) ∙ append-nil _))
      (omega (arith, phrase_count p (leaf (of Colon t) (put (list_piece l) (leaf (of Semicolon u) nil))), list_count_lem l (leaf (of Semicolon u) nil)))
  address_records_lem (quoted t) k d par i = both_parts (records_from k d par) (address_records (quoted t) d par i) (i + address_count (quoted t)) refl (omega arith)
  address_records_lem (typed t a u b) k d par i =
      both_parts (records_from k d par) (address_records (typed t a u b) d par i) (i + address_count (typed t a u b))
      (cons_record (same_record d par (ap (λ name. kind_number (typed_kind name)) (append-nil a.meaning)) refl (forest_end 0 (typed t a u b) _ (address_yield (typed t a u b) [])) refl refl)
      (address_records_lem b nil (suc d) (suc i) (suc i) ∙ append-nil _))
      (omega (arith, address_count_lem b nil))

-- the records of a derivation
pub tree_records : (l : AddressList) → records (as_forest l) ≡ list_records l 0 0 0
tree_records l = list_records_lem l nil 0 0 0 ∙ append-nil _

pub tree_count : (l : AddressList) → count (as_forest l) ≡ list_count l
tree_count l = omega (arith, list_count_lem l nil)
