-- A list without Include is its own expansion. Assumes nothing.
use Prim.Native.Nat.{ℕ, ◌+◌}
use mathlib.Core.Path.{◌≡◌, refl, sym, ap, ◌∙◌}
use mathlib.Core.Bool.{Bool, true, false}
use mathlib.Core.List.{List}
use Rattle.octets.specs.Believed.Numbers.{opening_limit}
use Rattle.octets.specs.Believed.Choice.{pick}
use Rattle.grammar.specs.Believed.Rfc733.{Derivation, DerivedList, kind_number, typed_kind}
use Rattle.grammar.specs.Executable.Trees733.{Sym, Slot, empty, comma, AddressList, idle, full, mailbox, angle, group, quoted, typed}
use Rattle.grammar.specs.Executable.Trees733 as trees
use Rattle.grammar.proofs.Rfc733.Derivations.{tree_derived}
use Rattle.plain.specs.Believed.Meaning.{Addresses, no_address, and_address, address, atom, no_word, and_word, meaning}
use Rattle.plain.proofs.TreeMeanings.{name_meaning, slot_meaning, list_meaning, address_meaning, meaning_forest}
use Rattle.expansion.specs.Believed.Expansion.{reached, and_then, Opening, expand_include, expand_forest, opened_within, expansion}
use Rattle.expansion.specs.Believed.Promises.{NoInclude, NotInclude}
use Rattle.expansion.proofs.TreeExpansion.{slot_expansion, list_expansion, address_expansion, forest_expansion}

-- addresses after others
abbrev pub and_all : Addresses → Addresses → Addresses
and_all before no_address = before
and_all before (and_address m a) = and_address (and_all before m) a

pub all_none : (m : Addresses) → and_all no_address m ≡ m
all_none no_address = refl
all_none (and_address m a) = ap (λ b. and_address b a) (all_none m)

module _ (store : List ℕ) (opening : Opening) (place_of : ℕ → ℕ) where
  mutual
    same_place : (r : Slot) (d : ℕ) (before : Addresses) (u : ℕ) → NoInclude (slot_meaning r) → slot_expansion store opening place_of d r before u ≡ reached (and_all before (slot_meaning r)) u
    same_place empty d before u n = refl
    same_place (comma l t) d before u n = same_list l d before u n

    pub same_list : (l : AddressList) (d : ℕ) (before : Addresses) (u : ℕ) → NoInclude (list_meaning l) → list_expansion store opening place_of d l before u ≡ reached (and_all before (list_meaning l)) u
    same_list (idle r) d before u n = same_place r d before u n
    same_list (full r a) d before u n =
        ap (λ e. and_then e (λ b v. address_expansion store opening place_of false d a b v)) (same_place r d before u n.0) ∙ same_address a false d (and_all before (slot_meaning r)) u n.1

    same_address : (a : trees.Address) (y : Bool) (d : ℕ) (before : Addresses) (u : ℕ) → NotInclude (address_meaning a) → address_expansion store opening place_of y d a before u ≡ reached (and_address before (address_meaning a)) u
    same_address (mailbox p m) y d before u n = refl
    same_address (angle o t l c) y d before u n =
        ap (λ e. and_then e (λ members v. reached (and_address before (address 2 (name_meaning o) no_word members)) v)) (same_list l (d + 1) no_address u n.1 ∙ ap (λ m. reached m u) (all_none (list_meaning l)))
    same_address (group o t l c) y d before u n =
        ap (λ e. and_then e (λ members v. reached (and_address before (address 3 (name_meaning o) no_word members)) v)) (same_list l (d + 1) no_address u n.1 ∙ ap (λ m. reached m u) (all_none (list_meaning l)))
    same_address (quoted t) y d before u n = refl
    same_address (typed t a c b) y d before u n =
        ap (λ z. pick z (expand_include store opening y (place_of t.start) d (and_address no_address (address_meaning b)) before u)
        (and_then (address_expansion store opening place_of true (d + 1) b no_address u) (λ members v. reached (and_address before (address (kind_number (typed_kind a.meaning)) (and_word no_word (atom a.meaning)) no_word members)) v))) n.0
        ∙ ap (λ e. and_then e (λ members v. reached (and_address before (address (kind_number (typed_kind a.meaning)) (and_word no_word (atom a.meaning)) no_word members)) v)) (same_address b true (d + 1) no_address u n.1.1)

pub without_include : (store : List ℕ) {k : Derivation} {xs : List Sym} → DerivedList k xs → NoInclude (meaning k) → expansion store k ≡ reached (meaning k) 0
without_include store {k} derived n =
    let (l, e, d') = tree_derived derived in
    let m : meaning k ≡ list_meaning l = ap meaning e ∙ meaning_forest l in
    let opening : Opening = λ i p d before u. opened_within store opening_limit i p d before u in
    let n' : NoInclude (list_meaning l) = rw m at n in
    ap (λ j. expand_forest store opening (λ s. s) false 0 j no_address 0) e ∙ forest_expansion store opening (λ s. s) l 0 no_address 0
    ∙ same_list store opening (λ s. s) l 0 no_address 0 n' ∙ ap (λ z. reached z 0) (all_none (list_meaning l) ∙ sym m)
