-- The expansion of a tree is the expansion of the derivation that it is. Assumes nothing.
use Prim.Native.Nat.{ℕ, ◌+◌}
use mathlib.Core.Path.{◌≡◌, refl, ap, ap₂, ◌∙◌}
use mathlib.Core.Bool.{Bool, true, false}
use mathlib.Core.List.{List, append-nil}
use mathlib.Core.Option.{none, some}
use lib.Dec.{eqb}
use Rattle.octets.specs.Believed.Choice.{pick}
use Rattle.grammar.specs.Believed.Grammar.{nil, leaf}
use Rattle.grammar.specs.Believed.Records.{part_of}
use Rattle.grammar.specs.Believed.Rfc733.{Derivation, kind_number, typed_kind}
use Rattle.grammar.specs.Believed.Rfc733 as rfc733
use Rattle.grammar.specs.Executable.Trees733.{node_piece, At, put, Atom, Colon, Comma, LessThan, GreaterThan, Semicolon, of, atom_word, quoted_word, Phrase, one, more, Nodes, first, next, Slot, empty, comma, AddressList, idle, full, mailbox, angle, group, quoted, typed, word_piece, phrase_piece, nodes_piece, slot_piece, list_piece, address_piece, as_forest}
use Rattle.grammar.specs.Executable.Trees733 as trees
use Rattle.plain.specs.Believed.Meaning.{atom, no_word, and_word, Addresses, no_address, and_address, address, words_of, nodes_of, addresses_after}
use Rattle.plain.proofs.TreeMeanings.{phrase_meaning, name_meaning, nodes_meaning, address_meaning, of_typed, name_words, node_words, after_address}
use Rattle.expansion.specs.Believed.Expansion.{Expansion, stopped, reached, and_then, Opening, other_type, expand_include, expand_forest}

-- ---- what comes next

pub and_reached : (e : Expansion) → and_then e (λ b u. reached b u) ≡ e
and_reached (stopped n p u) = refl
and_reached (reached b u) = refl

pub and_same : (e : Expansion) {f g : Addresses → ℕ → Expansion} → ((b : Addresses) (u : ℕ) → f b u ≡ g b u) → and_then e f ≡ and_then e g
and_same (stopped n p u) h = refl
and_same (reached b u) h = h b u

module _ (store : List ℕ) (opening : Opening) (place_of : ℕ → ℕ) where
  -- ---- the expansion of a tree

  -- a typed address of a kind: an Include, or another one with its member expanded
  abbrev pub typed_expansion : ℕ → List ℕ → Expansion → Expansion → Addresses → Expansion
  typed_expansion kind letters included member before =
      pick (eqb kind (kind_number rfc733.include)) included
      (and_then member (λ members u. reached (and_address before (address kind (and_word no_word (atom letters)) no_word members)) u))

  abbrev mutual
    pub slot_expansion : ℕ → Slot → Addresses → ℕ → Expansion
    slot_expansion d empty before u = reached before u
    slot_expansion d (comma l t) before u = list_expansion d l before u

    pub list_expansion : ℕ → AddressList → Addresses → ℕ → Expansion
    list_expansion d (idle r) before u = slot_expansion d r before u
    list_expansion d (full r a) before u = and_then (slot_expansion d r before u) (λ b v. address_expansion false d a b v)

    pub address_expansion : Bool → ℕ → trees.Address → Addresses → ℕ → Expansion
    address_expansion in-typed d (mailbox p m) before u = reached (and_address before (address (kind_number rfc733.mailbox) (phrase_meaning p) (nodes_meaning m) no_address)) u
    address_expansion in-typed d (angle o t l c) before u =
        and_then (list_expansion (d + 1) l no_address u) (λ members v. reached (and_address before (address (kind_number rfc733.angle_list) (name_meaning o) no_word members)) v)
    address_expansion in-typed d (group o t l c) before u =
        and_then (list_expansion (d + 1) l no_address u) (λ members v. reached (and_address before (address (kind_number rfc733.group) (name_meaning o) no_word members)) v)
    address_expansion in-typed d (quoted t) before u = reached (and_address before (address_meaning (quoted t))) u
    address_expansion in-typed d (typed t a c b) before u =
        typed_expansion (kind_number (typed_kind a.meaning)) a.meaning
        (expand_include store opening in-typed (place_of t.start) d (and_address no_address (address_meaning b)) before u)
        (address_expansion true (d + 1) b no_address u) before

  -- ---- it is that of the forest

  abbrev of_forest : Bool → ℕ → Derivation → Addresses → ℕ → Expansion
  of_forest in-typed d k before u = expand_forest store opening place_of in-typed d k before u

  forest_word : (w : trees.Word) (y : Bool) (d : ℕ) (k : Derivation) (before : Addresses) (u : ℕ) → of_forest y d (put (word_piece w) k) before u ≡ of_forest y d k before u
  forest_word (atom_word t) y d k before u = refl
  forest_word (quoted_word t) y d k before u = refl

  forest_phrase : (p : Phrase) (y : Bool) (d : ℕ) (k : Derivation) (before : Addresses) (u : ℕ) → of_forest y d (put (phrase_piece p) k) before u ≡ of_forest y d k before u
  forest_phrase (one w) y d k before u = ap (λ e. and_then e (λ b v. of_forest y d k b v)) (forest_word w y d nil before u)
  forest_phrase (more p w) y d k before u = ap (λ e. and_then e (λ b v. of_forest y d k b v)) (forest_phrase p y d (put (word_piece w) nil) before u ∙ forest_word w y d nil before u)

  forest_nodes : (m : Nodes) (y : Bool) (d : ℕ) (k : Derivation) (before : Addresses) (u : ℕ) → of_forest y d (put (nodes_piece m) k) before u ≡ of_forest y d k before u
  forest_nodes (first t w) y d k before u = ap (λ e. and_then (and_then e (λ b v. reached b v)) (λ b v. of_forest y d k b v)) (forest_word w y d nil before u)
  forest_nodes (next m t w) y d k before u =
      ap (λ e. and_then e (λ b v. of_forest y d k b v))
      (forest_nodes m y d (leaf (of At t) (put (node_piece w) nil)) before u ∙ ap (λ e. and_then e (λ b v. reached b v)) (forest_word w y d nil before u))

  mutual
    forest_place : (r : Slot) (d : ℕ) (k : Derivation) (before : Addresses) (u : ℕ) → of_forest false d (put (slot_piece r) k) before u ≡ and_then (slot_expansion d r before u) (λ b v. of_forest false d k b v)
    forest_place empty d k before u = refl
    forest_place (comma l t) d k before u = ap (λ e. and_then e (λ b v. of_forest false d k b v)) (forest_list l d (leaf (of Comma t) nil) before u ∙ and_reached (list_expansion d l before u))

    pub forest_list : (l : AddressList) (d : ℕ) (k : Derivation) (before : Addresses) (u : ℕ) → of_forest false d (put (list_piece l) k) before u ≡ and_then (list_expansion d l before u) (λ b v. of_forest false d k b v)
    forest_list (idle r) d k before u = ap (λ e. and_then e (λ b v. of_forest false d k b v)) (forest_place r d nil before u ∙ and_reached (slot_expansion d r before u))
    forest_list (full r a) d k before u =
        ap (λ e. and_then e (λ b v. of_forest false d k b v))
        (forest_place r d (put (address_piece a) nil) before u ∙ and_same (slot_expansion d r before u) (λ b v. forest_address a false d nil b v ∙ and_reached (address_expansion false d a b v)))

    forest_address : (a : trees.Address) (y : Bool) (d : ℕ) (k : Derivation) (before : Addresses) (u : ℕ)
        → of_forest y d (put (address_piece a) k) before u ≡ and_then (address_expansion y d a before u) (λ b v. of_forest y d k b v)
    forest_address (mailbox p m) y d k before u =
        let forest = put (phrase_piece p) (put (nodes_piece m) nil) in
        let n : words_of (part_of 0 forest) ≡ phrase_meaning p = name_words p (put (nodes_piece m) nil) in
        let w : words_of (part_of 1 forest) ≡ nodes_meaning m = node_words p m nil in
        ap (λ e. and_then (and_then e (λ members v. reached (and_address before (address 1 (words_of (part_of 0 forest)) (words_of (part_of 1 forest)) members)) v)) (λ b v. of_forest y d k b v))
        (forest_phrase p false (d + 0) (put (nodes_piece m) nil) no_address u ∙ forest_nodes m false (d + 0) nil no_address u)
        ∙ ap₂ (λ x z. of_forest y d k (and_address before (address 1 x z no_address)) u) n w
    forest_address (angle none t l c) y d k before u =
        ap (λ e. and_then (and_then e (λ members v. reached (and_address before (address 2 no_word no_word members)) v)) (λ b v. of_forest y d k b v))
        (forest_list l (d + 1) (leaf (of GreaterThan c) nil) no_address u ∙ and_reached (list_expansion (d + 1) l no_address u))
    forest_address (angle (some p) t l c) y d k before u =
        let forest = put (phrase_piece p) (leaf (of LessThan t) (put (list_piece l) (leaf (of GreaterThan c) nil))) in
        ap (λ e. and_then (and_then e (λ members v. reached (and_address before (address 2 (words_of (part_of 0 forest)) no_word members)) v)) (λ b v. of_forest y d k b v))
        (forest_phrase p false (d + 1) (leaf (of LessThan t) (put (list_piece l) (leaf (of GreaterThan c) nil))) no_address u ∙ forest_list l (d + 1) (leaf (of GreaterThan c) nil) no_address u ∙ and_reached (list_expansion (d + 1) l no_address u))
        ∙ ap (λ x. and_then (and_then (list_expansion (d + 1) l no_address u) (λ members v. reached (and_address before (address 2 x no_word members)) v)) (λ b v. of_forest y d k b v)) (name_words p (leaf (of LessThan t) (put (list_piece l) (leaf (of GreaterThan c) nil))))
    forest_address (group none t l c) y d k before u =
        ap (λ e. and_then (and_then e (λ members v. reached (and_address before (address 3 no_word no_word members)) v)) (λ b v. of_forest y d k b v))
        (forest_list l (d + 1) (leaf (of Semicolon c) nil) no_address u ∙ and_reached (list_expansion (d + 1) l no_address u))
    forest_address (group (some p) t l c) y d k before u =
        let forest = put (phrase_piece p) (leaf (of Colon t) (put (list_piece l) (leaf (of Semicolon c) nil))) in
        ap (λ e. and_then (and_then e (λ members v. reached (and_address before (address 3 (words_of (part_of 0 forest)) no_word members)) v)) (λ b v. of_forest y d k b v))
        (forest_phrase p false (d + 1) (leaf (of Colon t) (put (list_piece l) (leaf (of Semicolon c) nil))) no_address u ∙ forest_list l (d + 1) (leaf (of Semicolon c) nil) no_address u ∙ and_reached (list_expansion (d + 1) l no_address u))
        ∙ ap (λ x. and_then (and_then (list_expansion (d + 1) l no_address u) (λ members v. reached (and_address before (address 3 x no_word members)) v)) (λ b v. of_forest y d k b v)) (name_words p (leaf (of Colon t) (put (list_piece l) (leaf (of Semicolon c) nil))))
    forest_address (quoted t) y d k before u = refl
    forest_address (typed t a c b) y d k before u =
        let parts = leaf (of Colon t) (leaf (of Atom a) (leaf (of Colon c) (put (address_piece b) nil))) in
        let include : Addresses → Expansion = λ held. expand_include store opening y (place_of t.start) d held before u in
        let by : ℕ → Bool → Expansion = λ kind z. pick (eqb kind (kind_number rfc733.include)) (include (addresses_after no_address parts))
        (and_then (of_forest z (d + 1) (put (address_piece b) nil) no_address u) (λ members v. reached (and_address before (address kind (and_word no_word (atom a.meaning)) (nodes_of kind parts) members)) v)) in
        ap (λ kind. and_then (by kind (other_type kind)) (λ b' v. of_forest y d k b' v)) (ap (λ m. kind_number (typed_kind m)) (append-nil a.meaning))
        ∙ ap (λ e. and_then e (λ b' v. of_forest y d k b' v))
        (of_typed (λ kind. by kind (other_type kind) ≡ pick (eqb kind (kind_number rfc733.include)) (include (addresses_after no_address parts))
        (and_then (of_forest true (d + 1) (put (address_piece b) nil) no_address u) (λ members v. reached (and_address before (address kind (and_word no_word (atom a.meaning)) no_word members)) v))) refl refl refl a.meaning
        ∙ ap₂ (λ held member. typed_expansion (kind_number (typed_kind a.meaning)) a.meaning (include held) member before)
        (after_address b no_address nil) (forest_address b true (d + 1) nil no_address u ∙ and_reached (address_expansion true (d + 1) b no_address u)))

  pub forest_expansion : (l : AddressList) (d : ℕ) (before : Addresses) (u : ℕ) → of_forest false d (as_forest l) before u ≡ list_expansion d l before u
  forest_expansion l d before u = forest_list l d nil before u ∙ and_reached (list_expansion d l before u)
