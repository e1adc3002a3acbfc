-- No rule has the class of a symbol that fits none, so of a list every byte is told. Assumes nothing.
use mathlib.Core.Path.{ap}
use mathlib.Core.List.{List, [], ◌∷◌}
use mathlib.Core.Option.{Option, none, some}
use Prim.Native.Nat.{ℕ, ◌<◌}
use native.Mathlib.Omega.{arith}
use Rattle.scanner.specs.Believed.Categories.{InStray, here, further}
use Rattle.scanner.proofs.EveryCategory.{told_unless_stray}
use Rattle.grammar.specs.Believed.Rfc733.{class_number, Derivation, DerivedList}
use Rattle.grammar.specs.Executable.Trees733.{Class, Stray, Lexeme, Sym, of, Word, atom_word, quoted_word, Phrase, one, more, Nodes, first, next, Slot, empty, comma, AddressList, idle, full, Address, mailbox, angle, group, quoted, typed}
use Rattle.grammar.proofs.Rfc733.Trees.{word_symbol, phrase_then, name_then, nodes_then, slot_then, list_then, address_then}
use Rattle.grammar.proofs.Rfc733.Derivations.{tree_derived}
use Rattle.touch.specs.Believed.EveryByte.{EveryByte}

-- ---- a place in a symbol that fits no rule lies after every tree

module _ {place : ℕ} where
  past : {c : Class} {t : Lexeme} {xs : List Sym} → class_number c < class_number Stray → InStray place (of c t ∷ xs) → InStray place xs
  past l (here e h k) = absurd (omega (arith, ap class_number e))
  past l (further i) = i

  past_word : (w : Word) {xs : List Sym} → InStray place (word_symbol w ∷ xs) → InStray place xs
  past_word (atom_word t) i = past (omega arith) i
  past_word (quoted_word t) i = past (omega arith) i

  past_phrase : (p : Phrase) {xs : List Sym} → InStray place (phrase_then p xs) → InStray place xs
  past_phrase (one w) i = past_word w i
  past_phrase (more p w) i = past_word w (past_phrase p i)

  past_name : (o : Option Phrase) {xs : List Sym} → InStray place (name_then o xs) → InStray place xs
  past_name none i = i
  past_name (some p) i = past_phrase p i

  past_nodes : (m : Nodes) {xs : List Sym} → InStray place (nodes_then m xs) → InStray place xs
  past_nodes (first t w) i = past_word w (past (omega arith) i)
  past_nodes (next m t w) i = past_word w (past (omega arith) (past_nodes m i))

  mutual
    past_place : (r : Slot) {xs : List Sym} → InStray place (slot_then r xs) → InStray place xs
    past_place empty i = i
    past_place (comma l t) i = past (omega arith) (past_list l i)

    past_list : (l : AddressList) {xs : List Sym} → InStray place (list_then l xs) → InStray place xs
    past_list (idle r) i = past_place r i
    past_list (full r a) i = past_address a (past_place r i)

    past_address : (a : Address) {xs : List Sym} → InStray place (address_then a xs) → InStray place xs
    past_address (mailbox p m) i = past_nodes m (past_phrase p i)
    past_address (angle o t l u) i = past (omega arith) (past_list l (past (omega arith) (past_name o i)))
    past_address (group o t l u) i = past (omega arith) (past_list l (past (omega arith) (past_name o i)))
    past_address (quoted t) i = past (omega arith) i
    past_address (typed t a u b) i = past_address b (past (omega arith) (past (omega arith) (past (omega arith) i)))

  -- .. so a list has none
  no_stray : {k : Derivation} {xs : List Sym} → DerivedList k xs → InStray place xs → ⊥
  no_stray d i = let (l, e, t) = tree_derived d in let j : InStray place [] = past_list l (rw t.yields i) in elim j [ ]

-- every byte of an accepted body is told
pub every_byte : (message : List ℕ) (start end : ℕ) → EveryByte message start end
every_byte message start end e k d place h l = told_unless_stray message start end e place h l (no_stray d.derived)
