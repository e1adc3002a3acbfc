-- The walk through stored lists writes the plain text of the expansion. Assumes nothing.
use Prim.Native.Nat.{ℕ, ◌+◌, ◌≤◌, ◌<◌}
use native.Mathlib.Omega.{arith}
use mathlib.Core.Path.{◌≡◌, refl, sym, ap, ap₂, ◌∙◌}
use mathlib.Core.Bool.{Bool, true, false}
use mathlib.Core.List.{List, [], ◌∷◌, ◌++◌}
use mathlib.Core.Option.{none, some}
use Rattle.std.specs.Prelude.{Option, None, Some}
use lib.Dec.{eqb}
use borrow.Author.Tests.{lt-ltb}
use lib.ListN.{length}
use Rattle.octets.specs.Believed.Choice.{pick, both}
use Rattle.octets.proofs.ChoiceLaws.{both_parts}
use Rattle.octets.specs.Believed.Numbers.{level_limit, leads_nowhere}
use Rattle.octets.specs.Believed.Text.{bytes}
use Rattle.grammar.specs.Believed.Rfc733.{kind_number, typed_kind, include}
use Rattle.grammar.specs.Executable.Trees733.{Class, Atom, Quoted, At, LessThan, GreaterThan, Comma, Semicolon, Colon, Lexeme, Sym, of, atom_word, quoted_word, Phrase, one, more, Nodes, first, next, comma, AddressList, idle, full, mailbox, angle, group, quoted, typed}
use Rattle.grammar.proofs.Rfc733.Trees.{word_symbol, phrase_then, nodes_then, slot_then, list_then, address_then, slot_lawful, list_lawful, address_lawful, slot_levels, list_levels, address_levels}
use Rattle.grammar.proofs.Rfc733.Readers.{ends_address, AddressEnds}
use Rattle.grammar.specs.Executable.Trees733 as trees
use Rattle.grammar.proofs.Rfc733.HouseRule.{one_atom, slot_atom_group, list_atom_group, atom_colon_list, one_atom_false, one_atom_true}
use Rattle.grammar.proofs.Rfc733.HouseRule as house
use Rattle.plain.specs.Believed.Meaning.{atom, no_word, and_word, Addresses, no_address, and_address, Address, address}
use Rattle.plain.specs.Believed.PlainText.{word_text, phrase_text, nodes_text, atom_group, addresses_text, address_text}
use Rattle.plain.specs.Ties.Walking.{gap_text, gap_before, after_atom, after_comma, after, colon_next, symbol_text}
use Rattle.plain.specs.declared.places.Place.{Place}
use Rattle.plain.specs.declared.places.Place.TheVariants.{Start, Bare, BareComma, Named, Typing, Word, Node, Closed, Parted}
use Rattle.plain.proofs.TreeMeanings.{word_meaning, phrase_meaning, name_meaning, nodes_meaning, slot_meaning, list_meaning, address_meaning, of_typed, atom_group_lem}
use Rattle.plain.proofs.Walks.{space_behind_lem, no_colon_nodes, Begin, plainly, barely, namely, front, spot, comma_spot, Opens, spot_opens, joint, front_named, front_bare, front_plain}
use Rattle.expansion.specs.Believed.Store.{leads_to, only_mailboxes, is_mailbox}
use Rattle.expansion.specs.Believed.Expansion.{Expansion, stopped, reached, and_then, Opening, expand_include}
use Rattle.expansion.specs.Ties.Walk.{Trail, halted, wrote, before, without_typed, with_typed, in_typed, is_typing, with_list, levels_after, include_word, include_next, include_here, after_one, opens, writing, skipping, inner_after, WalkOpening, sought, include_trail, walk}
use Rattle.expansion.proofs.TreeExpansion.{slot_expansion, list_expansion, address_expansion}
use Rattle.expansion.proofs.Seeking.{Ending, at_greater, at_comma, at_semicolon, ending, no_mailbox, typed_no_mailbox, leads_typed, sought_address}

-- ---- texts before a trail

pub twice : (f g : List ℕ → List ℕ) (t : Trail) → before f (before g t) ≡ before (λ r. f (g r)) t
twice f g (halted n p u) = refl
twice f g (wrote x u) = refl

pub alike : (f g : List ℕ → List ℕ) (t : Trail) → ((r : List ℕ) → f r ≡ g r) → before f t ≡ before g t
alike f g (halted n p u) h = refl
alike f g (wrote x u) h = ap (λ r. wrote r u) (h x)

pub unmoved : (t : Trail) → before (λ r. r) t ≡ t
unmoved (halted n p u) = refl
unmoved (wrote x u) = refl

-- what comes of an expansion
abbrev pub onward : Expansion → (Addresses → ℕ → Trail) → Trail
onward (stopped n p u) k = halted n p u
onward (reached m u) k = k m u

pub onward_same : (e : Expansion) {j k : Addresses → ℕ → Trail} → ((m : Addresses) (u : ℕ) → j m u ≡ k m u) → onward e j ≡ onward e k
onward_same (stopped n p u) h = refl
onward_same (reached m u) h = h m u

onward_then : (e : Expansion) (f : Addresses → ℕ → Expansion) (k : Addresses → ℕ → Trail) → onward (and_then e f) k ≡ onward e (λ m u. onward (f m u) k)
onward_then (stopped n p u) f k = refl
onward_then (reached m u) f k = refl

-- an address whose members are expanded
enclose : (e : Expansion) (t : Trail) (inner : Addresses → ℕ → Trail) (f : List ℕ → List ℕ) (a : Addresses → Addresses) (k : Addresses → ℕ → Trail)
    → t ≡ onward e inner → ((m : Addresses) (u : ℕ) → e ≡ reached m u → before f (inner m u) ≡ k (a m) u) → before f t ≡ onward (and_then e (λ m u. reached (a m) u)) k
enclose (stopped n p u) t inner f a k q h = ap (before f) q
enclose (reached m u) t inner f a k q h = ap (before f) q ∙ h m u refl

-- the text of addresses in a list that begins so, before the rest
abbrev pub listed : Begin → Addresses → List ℕ → List ℕ
listed b m r = front b m (addresses_text m r)

-- ---- conditions

opens_true : (place : Place) → Opens place → opens place ≡ true
opens_true Start h = refl
opens_true Bare h = refl
opens_true BareComma h = refl
opens_true Named h = refl
opens_true Typing h = absurd h
opens_true Word h = absurd h
opens_true Node h = absurd h
opens_true Closed h = absurd h
opens_true Parted h = refl

-- after a nameless ":" with no comma and no address, no atom and ":" stand
abbrev pub Clear : Begin → Addresses → Bool → Bool → Type 0
Clear plainly m c x = Unit {0}
Clear namely m c x = Unit {0}
Clear barely (and_address m a) c x = Unit {0}
Clear barely no_address true x = Unit {0}
Clear barely no_address false x = x ≡ false

clear_word : (b : Begin) (m : Addresses) (c x : Bool) → Clear b m c x → after_atom (spot b m c) x ≡ Word
clear_word plainly no_address c x h = refl
clear_word plainly (and_address m a) c x h = refl
clear_word namely no_address c x h = refl
clear_word namely (and_address m a) c x h = refl
clear_word barely (and_address m a) c x h = refl
clear_word barely no_address true x h = refl
clear_word barely no_address false x h = ap (λ z. pick z Typing Word) h

pub clear_comma : (b : Begin) (m : Addresses) (x : Bool) → Clear b m true x
clear_comma plainly m x = tt
clear_comma namely m x = tt
clear_comma barely no_address x = tt
clear_comma barely (and_address m a) x = tt

module _ (store : List ℕ) (opening : WalkOpening) (place_of : ℕ → ℕ) (base : ℕ) where
  abbrev W : Place → List Bool → List Sym → ℕ → (Place → ℕ → Trail) → Trail
  W place s xs u k = walk store opening place_of base writing place s xs u k

  -- ---- where an address ends

  abbrev skip : Bool → Place → List Bool → List Sym → ℕ → (Place → ℕ → Trail) → Trail
  skip inner place s xs u k = walk store opening place_of base (skipping inner) place s xs u k

  module _ (x : Sym) (xs : List Sym) (u : ℕ) (k : Place → ℕ → Trail) where
    -- a symbol is written, with another class, place or levels than its own
    abbrev written : Class → Place → List Bool → Trail
    written c place s = before (λ rest. symbol_text c x.lexeme.meaning place (colon_next xs) rest) (W (after c place (colon_next xs)) (levels_after c place (colon_next xs) s) xs u k)

    -- .. or it begins an Include
    abbrev walked_on : Class → Place → List Bool → Trail
    walked_on c place s =
        pick (include_here c place xs) (include_trail store opening (in_typed s) (place_of x.lexeme.start) (base + length s) place xs u (λ place' u'. skip false place' s xs u' k)) (written c place s)

    ends_place : {c : Class} → Ending c → (p q : Place) → after_comma p ≡ after_comma q → (s : List Bool) → walked_on c p s ≡ walked_on c q s
    ends_place at_greater p q e s = refl
    ends_place at_comma p q e s = ap (λ z. before (λ rest. rest) (W z (without_typed s) xs u k)) e
    ends_place at_semicolon p q e s = refl

    ends_typed : {c : Class} → Ending c → (p : Place) (s : List Bool) → walked_on c p (true ∷ s) ≡ walked_on c p s
    ends_typed at_greater p s = refl
    ends_typed at_comma p s = refl
    ends_typed at_semicolon p s = refl

    ends_skip : {c : Class} → Ending c → (p : Place) (s : List Bool) → pick (ends_address c) (written c p s) (skip (inner_after c false) p s xs u k) ≡ walked_on c p s
    ends_skip at_greater p s = refl
    ends_skip at_comma p s = refl
    ends_skip at_semicolon p s = refl

  joins_place : (xs : List Sym) → AddressEnds xs → (p q : Place) → after_comma p ≡ after_comma q → (s : List Bool) (u : ℕ) (k : Place → ℕ → Trail) → W p s xs u k ≡ W q s xs u k
  joins_place [] j p q e s u k = ap (λ z. k z u) e
  joins_place (x ∷ xs) j p q e s u k = ends_place x xs u k (ending x.class j) p q e s

  joins_typed : (xs : List Sym) → AddressEnds xs → (p : Place) (s : List Bool) (u : ℕ) (k : Place → ℕ → Trail) → W p (true ∷ s) xs u k ≡ W p s xs u k
  joins_typed [] j p s u k = refl
  joins_typed (x ∷ xs) j p s u k = ends_typed x xs u k (ending x.class j) p s

  -- ---- skipping an Include

  joins_skip : (xs : List Sym) → AddressEnds xs → (p : Place) (s : List Bool) (u : ℕ) (k : Place → ℕ → Trail) → skip false p s xs u k ≡ W p s xs u k
  joins_skip [] j p s u k = refl
  joins_skip (x ∷ xs) j p s u k = ends_skip x xs u k (ending x.class j) p s

  module _ (p : Place) (s : List Bool) (u : ℕ) (k : Place → ℕ → Trail) where
    skip_phrase : (n : Phrase) (inner : Bool) (xs : List Sym) → skip inner p s (phrase_then n xs) u k ≡ skip inner p s xs u k
    skip_phrase (one (atom_word t)) true xs = refl
    skip_phrase (one (atom_word t)) false xs = refl
    skip_phrase (one (quoted_word t)) true xs = refl
    skip_phrase (one (quoted_word t)) false xs = refl
    skip_phrase (more n (atom_word t)) true xs = skip_phrase n true _
    skip_phrase (more n (atom_word t)) false xs = skip_phrase n false _
    skip_phrase (more n (quoted_word t)) true xs = skip_phrase n true _
    skip_phrase (more n (quoted_word t)) false xs = skip_phrase n false _

    skip_nodes : (m : Nodes) (inner : Bool) (xs : List Sym) → skip inner p s (nodes_then m xs) u k ≡ skip inner p s xs u k
    skip_nodes (first t (atom_word w)) true xs = refl
    skip_nodes (first t (atom_word w)) false xs = refl
    skip_nodes (first t (quoted_word w)) true xs = refl
    skip_nodes (first t (quoted_word w)) false xs = refl
    skip_nodes (next m t (atom_word w)) true xs = skip_nodes m true _
    skip_nodes (next m t (atom_word w)) false xs = skip_nodes m false _
    skip_nodes (next m t (quoted_word w)) true xs = skip_nodes m true _
    skip_nodes (next m t (quoted_word w)) false xs = skip_nodes m false _

    skip_mailbox : (a : trees.Address) (xs : List Sym) → is_mailbox (address_meaning a) ≡ true → skip true p s (address_then a xs) u k ≡ skip true p s xs u k
    skip_mailbox (mailbox n m) xs e = skip_phrase n true _ ∙ skip_nodes m true xs
    skip_mailbox (angle o t l c) xs e = no_mailbox e
    skip_mailbox (group o t l c) xs e = no_mailbox e
    skip_mailbox (quoted t) xs e = no_mailbox e
    skip_mailbox (typed t a c b) xs e = no_mailbox (sym (typed_no_mailbox a.meaning (address_meaning b)) ∙ e)

    mutual
      skip_place : (r : trees.Slot) (xs : List Sym) → only_mailboxes (slot_meaning r) ≡ true → skip true p s (slot_then r xs) u k ≡ skip true p s xs u k
      skip_place trees.empty xs e = refl
      skip_place (comma l t) xs e = skip_list l (of Comma t ∷ xs) e

      skip_list : (l : AddressList) (xs : List Sym) → only_mailboxes (list_meaning l) ≡ true → skip true p s (list_then l xs) u k ≡ skip true p s xs u k
      skip_list (idle r) xs e = skip_place r xs e
      skip_list (full r a) xs e =
          skip_place r (address_then a xs) (both_parts (only_mailboxes (slot_meaning r)) (is_mailbox (address_meaning a)) e).0
          ∙ skip_mailbox a xs (both_parts (only_mailboxes (slot_meaning r)) (is_mailbox (address_meaning a)) e).1

    -- what leads to a record
    picked : (z : Bool) (o : Option ℕ) {i : ℕ} → pick z o None ≡ Some i → z ≡ true
    picked true o e = refl
    picked false o e = cc

    skip_held : (a : trees.Address) (xs : List Sym) {i : ℕ} → AddressEnds xs → leads_to store (and_address no_address (address_meaning a)) ≡ Some i → skip false p s (address_then a xs) u k ≡ W p s xs u k
    skip_held (mailbox n m) xs j e = skip_phrase n false _ ∙ skip_nodes m false xs ∙ joins_skip xs j p s u k
    skip_held (angle none t l c) xs j e = skip_list l (of GreaterThan c ∷ xs) (picked (only_mailboxes (list_meaning l)) _ e) ∙ joins_skip xs j p s u k
    skip_held (angle (some n) t l c) xs j e = skip_phrase n false _ ∙ skip_list l (of GreaterThan c ∷ xs) (picked (only_mailboxes (list_meaning l)) _ e) ∙ joins_skip xs j p s u k
    skip_held (group o t l c) xs j e = cc
    skip_held (quoted t) xs j e = cc
    skip_held (typed t a c b) xs {i} j e =
        let z : None ≡ Some i = sym (leads_typed store a.meaning (address_meaning b)) ∙ e in
        cc

  one_level : (s : List Bool) → length s < level_limit → with_list s ≡ false ∷ s
  one_level s h = ap (λ z. pick z (false ∷ s) s) (lt-ltb (length s) level_limit h)

  -- ---- words

  module _ (s : List Bool) (u : ℕ) (k : Place → ℕ → Trail) where
    walk_phrase : (n : Phrase) (place : Place) (xs : List Sym) → after_atom place (both (one_atom n) (colon_next xs)) ≡ Word
        → W place s (phrase_then n xs) u k ≡ before (λ r. gap_text (gap_before place (both (one_atom n) (colon_next xs))) (phrase_text (phrase_meaning n) r)) (W Word s xs u k)
    walk_phrase (one (atom_word t)) place xs h =
        ap (λ z. before (λ r. gap_text (gap_before place (colon_next xs)) (t.meaning ++ r)) (W z (pick (is_typing z) (with_typed s) s) xs u k)) h
    walk_phrase (one (quoted_word t)) place xs h = refl
    walk_phrase (more n (atom_word t)) place xs h =
        walk_phrase n place (of Atom t ∷ xs) (rw (one_atom_false n) h)
        ∙ twice (λ r. gap_text (gap_before place (both (one_atom n) false)) (phrase_text (phrase_meaning n) r)) (λ r. 32 ∷ (t.meaning ++ r)) (W Word s xs u k)
        ∙ alike _ _ (W Word s xs u k) (λ r. rw (one_atom_false n) (ap (λ q. gap_text (gap_before place false) (phrase_text (phrase_meaning n) q)) (sym (space_behind_lem n _))))
    walk_phrase (more n (quoted_word t)) place xs h =
        walk_phrase n place (of Quoted t ∷ xs) (rw (one_atom_false n) h)
        ∙ twice (λ r. gap_text (gap_before place (both (one_atom n) false)) (phrase_text (phrase_meaning n) r)) (λ r. 32 ∷ word_text (word_meaning (quoted_word t)) r) (W Word s xs u k)
        ∙ alike _ _ (W Word s xs u k) (λ r. rw (one_atom_false n) (ap (λ q. gap_text (gap_before place false) (phrase_text (phrase_meaning n) q)) (sym (space_behind_lem n _))))

    -- a phrase before no ":", and before ":"
    walk_name : (n : Phrase) (place : Place) (xs : List Sym) → colon_next xs ≡ false → after_atom place false ≡ Word
        → W place s (phrase_then n xs) u k ≡ before (λ r. gap_text (gap_before place false) (phrase_text (phrase_meaning n) r)) (W Word s xs u k)
    walk_name n place xs z h =
        walk_phrase n place xs (rw (z, one_atom_false n) h)
        ∙ ap (λ x. before (λ r. gap_text (gap_before place x) (phrase_text (phrase_meaning n) r)) (W Word s xs u k)) (ap (both (one_atom n)) z ∙ one_atom_false n)

    walk_group_name : (n : Phrase) (place : Place) (xs : List Sym) → colon_next xs ≡ true → after_atom place (one_atom n) ≡ Word
        → W place s (phrase_then n xs) u k ≡ before (λ r. gap_text (gap_before place (one_atom n)) (phrase_text (phrase_meaning n) r)) (W Word s xs u k)
    walk_group_name n place xs z h =
        walk_phrase n place xs (rw (z, one_atom_true n) h)
        ∙ ap (λ x. before (λ r. gap_text (gap_before place x) (phrase_text (phrase_meaning n) r)) (W Word s xs u k)) (ap (both (one_atom n)) z ∙ one_atom_true n)

    walk_node : (w : trees.Word) (xs : List Sym) → W Node s (word_symbol w ∷ xs) u k ≡ before (λ r. 32 ∷ word_text (word_meaning w) r) (W Word s xs u k)
    walk_node (atom_word t) xs = refl
    walk_node (quoted_word t) xs = refl

    walk_nodes : (m : Nodes) (xs : List Sym) → W Word s (nodes_then m xs) u k ≡ before (nodes_text (nodes_meaning m)) (W Word s xs u k)
    walk_nodes (first t w) xs = ap (before (λ r. bytes " at" ++ r)) (walk_node w xs) ∙ twice (λ r. bytes " at" ++ r) (λ r. 32 ∷ word_text (word_meaning w) r) (W Word s xs u k)
    walk_nodes (next m t w) xs =
        walk_nodes m (of At t ∷ word_symbol w ∷ xs)
        ∙ ap (λ z. before (nodes_text (nodes_meaning m)) (before (λ r. bytes " at" ++ r) z)) (walk_node w xs)
        ∙ ap (before (nodes_text (nodes_meaning m))) (twice (λ r. bytes " at" ++ r) (λ r. 32 ∷ word_text (word_meaning w) r) (W Word s xs u k))
        ∙ twice (nodes_text (nodes_meaning m)) (λ r. bytes " at" ++ (32 ∷ word_text (word_meaning w) r)) (W Word s xs u k)

    -- a ":" that begins no Include
    walk_colon : (place : Place) (t : Lexeme) (xs : List Sym) → Opens place → include_next xs ≡ false → length s < level_limit
        → W place s (of Colon t ∷ xs) u k ≡ before (λ r. gap_text (gap_before place false) (58 ∷ r)) (W Bare (false ∷ s) xs u k)
    walk_colon Start t xs h e n = rw (e, one_level s n)
    walk_colon Bare t xs h e n = rw (e, one_level s n)
    walk_colon BareComma t xs h e n = rw (e, one_level s n)
    walk_colon Named t xs h e n = rw (e, one_level s n)
    walk_colon Typing t xs h e n = absurd h
    walk_colon Word t xs h e n = absurd h
    walk_colon Node t xs h e n = absurd h
    walk_colon Closed t xs h e n = absurd h
    walk_colon Parted t xs h e n = rw (e, one_level s n)

    -- a ":" that begins one
    abbrev opened_at : ℕ → Place → List Sym → Option ℕ → Trail
    opened_at position place xs o =
        elim o [
          | None ↦ halted leads_nowhere position u
          | Some i ↦ opening i position (base + length s) (after_comma place) u (λ place' u'. skip false place' s xs u' k)
        ]

    walk_include : (place : Place) (t : Lexeme) (xs : List Sym) → Opens place → include_next xs ≡ true
        → W place s (of Colon t ∷ xs) u k ≡ opened_at (place_of t.start) place xs (pick (in_typed s) None (sought store (after_one (after_one xs))))
    walk_include place t xs h e = rw (opens_true place h, e)

  -- ---- lists and addresses

  -- what is left to walk after addresses of a list
  abbrev pub After : Begin → List Bool → List Sym → (Place → ℕ → Trail) → Addresses → ℕ → Trail
  After b s xs k m v = before (listed b m) (W (spot b m true) s xs v k)

  -- one more address
  finish : (b : Begin) (m : Addresses) (c : Bool) (a : Address) (g : Bool) → atom_group a ≡ g → after_atom (spot b m c) g ≡ Word → (t : Trail)
      → before (listed b m) (before (λ r. gap_text (gap_before (spot b m c) g) (address_text a r)) t) ≡ before (listed b (and_address m a)) t
  finish b m c a g q h t =
      twice (listed b m) (λ r. gap_text (gap_before (spot b m c) g) (address_text a r)) t
      ∙ alike _ _ t (λ r. ap (λ x. listed b m (gap_text (gap_before (spot b m c) x) (address_text a r))) (sym q) ∙ joint b m c a (address_text a r) (ap (after_atom (spot b m c)) q ∙ h))

  wrap : (b : Begin) (m : Addresses) (c : Bool) (a : Address) (g : Bool) → atom_group a ≡ g → after_atom (spot b m c) g ≡ Word
      → (f : List ℕ → List ℕ) → ((r : List ℕ) → f r ≡ gap_text (gap_before (spot b m c) g) (address_text a r))
      → (xs : List Sym) → AddressEnds xs → (place : Place) → after_comma place ≡ Parted → (s : List Bool) (v : ℕ) (k : Place → ℕ → Trail)
      → before (listed b m) (before f (W place s xs v k)) ≡ After b s xs k (and_address m a) v
  wrap b m c a g q h f e xs j place z s v k =
      ap (before (listed b m)) (alike f (λ r. gap_text (gap_before (spot b m c) g) (address_text a r)) (W place s xs v k) e)
      ∙ finish b m c a g q h (W place s xs v k)
      ∙ ap (before (listed b (and_address m a))) (joins_place xs j place Parted z s v k)

  -- an enclosed list: before its members, after them, and the address that they make
  record Enclosure (b : Begin) (m : Addresses) (c : Bool) : Type 0 where
    begin : Begin
    group_named : Bool
    opening_text : List ℕ → List ℕ
    closing_text : List ℕ → List ℕ
    made : Addresses → Address
    is_named : (l : Addresses) → atom_group (made l) ≡ group_named
    clear : after_atom (spot b m c) group_named ≡ Word
    text : (l : Addresses) (r : List ℕ) → opening_text (listed begin l (closing_text r)) ≡ gap_text (gap_before (spot b m c) group_named) (address_text (made l) r)

  enclosed : (b : Begin) (m : Addresses) (c : Bool) (q : Enclosure b m c) (xs : List Sym) → AddressEnds xs → (s : List Bool) (k : Place → ℕ → Trail) (e : Expansion) (t : Trail)
      → t ≡ onward e (λ l v. before (listed q.begin l) (before q.closing_text (W Closed s xs v k)))
      → before (listed b m) (before q.opening_text t) ≡ onward (and_then e (λ l v. reached (and_address m (q.made l)) v)) (After b s xs k)
  enclosed b m c q xs j s k e t h =
      twice (listed b m) q.opening_text t
      ∙ enclose e t (λ l v. before (listed q.begin l) (before q.closing_text (W Closed s xs v k))) (λ r. listed b m (q.opening_text r)) (λ l. and_address m (q.made l)) (After b s xs k) h
      (λ l v i.
      sym (twice (listed b m) q.opening_text (before (listed q.begin l) (before q.closing_text (W Closed s xs v k))))
      ∙ ap (λ z. before (listed b m) (before q.opening_text z)) (twice (listed q.begin l) q.closing_text (W Closed s xs v k))
      ∙ ap (before (listed b m)) (twice q.opening_text (λ r. listed q.begin l (q.closing_text r)) (W Closed s xs v k))
      ∙ wrap b m c (q.made l) q.group_named (q.is_named l) q.clear _ (q.text l) xs j Closed refl s v k)

  -- after a list that stands in no typed address
  untyped : (s : List Bool) → in_typed s ≡ false → without_typed s ≡ s
  untyped [] e = refl
  untyped (true ∷ s) e = cc
  untyped (false ∷ s) e = refl

  abbrev flag : Bool → trees.Slot → Bool
  flag c trees.empty = c
  flag c (comma l t) = true

  after_spot : (b : Begin) (m : Addresses) (c : Bool) → after_comma (spot b m c) ≡ after_comma (spot b m true)
  after_spot b m c = comma_spot b m c ∙ sym (comma_spot b m true)

  -- an opening of the walk does what one of the definition does
  module _ (o : Opening) (agree : (i p d : ℕ) (b : Begin) (m : Addresses) (u : ℕ) (k : Place → ℕ → Trail)
      → before (listed b m) (opening i p d (spot b m true) u k) ≡ onward (o i p d m u) (λ m' v. before (listed b m') (k (spot b m' true) v))) where
    -- directly in a typed address one more address is reached
    abbrev OneMore : Addresses → Expansion → Type 0
    OneMore m (stopped n p u) = Unit {0}
    OneMore m (reached l v) = (a : Address) × (l ≡ and_address m a)

    one_enclosed : (m : Addresses) (e : Expansion) (made : Addresses → Address) → OneMore m (and_then e (λ l v. reached (and_address m (made l)) v))
    one_enclosed m (stopped n p u) made = tt
    one_enclosed m (reached l v) made = (made l, refl)

    one_more : (a : trees.Address) (d : ℕ) (m : Addresses) (u : ℕ) → OneMore m (address_expansion store o place_of true d a m u)
    one_more (mailbox p n) d m u = (address_meaning (mailbox p n), refl)
    one_more (angle n t l c) d m u = one_enclosed m (list_expansion store o place_of (d + 1) l no_address u) (λ z. address 2 (name_meaning n) no_word z)
    one_more (group n t l c) d m u = one_enclosed m (list_expansion store o place_of (d + 1) l no_address u) (λ z. address 3 (name_meaning n) no_word z)
    one_more (quoted t) d m u = (address_meaning (quoted t), refl)
    one_more (typed t a c b) d m u = by (eqb (kind_number (typed_kind a.meaning)) (kind_number include))
      where
        by : (z : Bool) → OneMore m (pick z (expand_include store o true (place_of t.start) d (and_address no_address (address_meaning b)) m u)
            (and_then (address_expansion store o place_of true (d + 1) b no_address u) (λ l v. reached (and_address m (address (kind_number (typed_kind a.meaning)) (and_word no_word (atom a.meaning)) no_word l)) v)))
        by true = tt
        by false = one_enclosed m (address_expansion store o place_of true (d + 1) b no_address u) (λ l. address (kind_number (typed_kind a.meaning)) (and_word no_word (atom a.meaning)) no_word l)

    one_of : (m : Addresses) (e : Expansion) {l : Addresses} {v : ℕ} → OneMore m e → e ≡ reached l v → (a : Address) × (l ≡ and_address m a)
    one_of m (stopped n p u) h q = cc
    one_of m (reached l' v') {l} {v} (a, h) q = let r : l ≡ l' = cc in (a, r ∙ h)

    -- an Include
    through_include : (t a c : Lexeme) (held : trees.Address) (y : Bool) (b : Begin) (m : Addresses) (e : Bool) (d : ℕ) (s : List Bool) (xs : List Sym) (u : ℕ) (k : Place → ℕ → Trail)
        → AddressEnds xs → in_typed s ≡ y → d ≡ base + length s → eqb (kind_number (typed_kind a.meaning)) (kind_number include) ≡ true
        → before (listed b m) (W (spot b m e) s (of Colon t ∷ of Atom a ∷ of Colon c ∷ address_then held xs) u k)
        ≡ onward (expand_include store o y (place_of t.start) d (and_address no_address (address_meaning held)) m u) (After b s xs k)
    through_include t a c held y b m e d s xs u k j w q z =
        ap (before (listed b m)) (walk_include s u k (spot b m e) t ys (spot_opens b m e) z)
        ∙ ap (λ f. before (listed b m) (opened_at s u k (place_of t.start) (spot b m e) ys f)) (ap₂ (λ x f. pick x None f) w (sought_address store held xs j))
        ∙ by (pick y None (leads_to store (and_address no_address (address_meaning held)))) refl
      where
        ys : List Sym
        ys = of Atom a ∷ of Colon c ∷ address_then held xs

        lead : (x : Bool) (f : Option ℕ) {i : ℕ} → pick x None f ≡ Some i → f ≡ Some i
        lead true f r = cc
        lead false f r = r

        by : (f : Option ℕ) → pick y None (leads_to store (and_address no_address (address_meaning held))) ≡ f
            → before (listed b m) (opened_at s u k (place_of t.start) (spot b m e) ys f)
            ≡ onward (elim f [ None ↦ stopped leads_nowhere (place_of t.start) u | Some i ↦ o i (place_of t.start) d m u ]) (After b s xs k)
        by None r = refl
        by (Some i) r =
            ap₂ (λ n place. before (listed b m) (opening i (place_of t.start) n place u (λ place' u'. skip false place' s ys u' k))) (sym q) (comma_spot b m e)
            ∙ agree i (place_of t.start) d b m u (λ place' u'. skip false place' s ys u' k)
            ∙ onward_same (o i (place_of t.start) d m u)
            (λ m' v. ap (before (listed b m')) (skip_held (spot b m' true) s v k held xs j (lead y (leads_to store (and_address no_address (address_meaning held))) r)))

    -- another typed address
    through_typed : (t a c : Lexeme) (held : trees.Address) (b : Begin) (m : Addresses) (e : Bool) (d : ℕ) (s : List Bool) (xs : List Sym) (u : ℕ) (k : Place → ℕ → Trail)
        → AddressEnds xs → after_atom (spot b m e) false ≡ Word → eqb (kind_number (typed_kind a.meaning)) (kind_number include) ≡ false → length s < level_limit
        → before (listed namely no_address) (W Named (true ∷ s) (address_then held xs) u k) ≡ onward (address_expansion store o place_of true (d + 1) held no_address u) (After namely (true ∷ s) xs k)
        → before (listed b m) (W (spot b m e) s (of Colon t ∷ of Atom a ∷ of Colon c ∷ address_then held xs) u k)
        ≡ onward (and_then (address_expansion store o place_of true (d + 1) held no_address u) (λ l v. reached (and_address m (address (kind_number (typed_kind a.meaning)) (and_word no_word (atom a.meaning)) no_word l)) v)) (After b s xs k)
    through_typed t a c held b m e d s xs u k j h z n i =
        ap (before (listed b m)) (walk_colon s u k (spot b m e) t ys (spot_opens b m e) z n ∙ ap (before gap) (twice (λ r. a.meaning ++ r) (λ r. 58 ∷ r) inside) ∙ twice gap (λ r. a.meaning ++ (58 ∷ r)) inside)
        ∙ twice (listed b m) text inside
        ∙ enclose member inside (After namely (true ∷ s) xs k) (λ r. listed b m (text r)) (λ l. and_address m (made l)) (After b s xs k) (sym (unmoved inside) ∙ i)
        (λ l v g. by l v (one_of no_address member (one_more held (d + 1) no_address u) g))
      where
        ys : List Sym
        ys = of Atom a ∷ of Colon c ∷ address_then held xs

        inside : Trail
        inside = W Named (true ∷ s) (address_then held xs) u k

        gap : List ℕ → List ℕ
        gap r = gap_text (gap_before (spot b m e) false) (58 ∷ r)

        text : List ℕ → List ℕ
        text r = gap_text (gap_before (spot b m e) false) (58 ∷ (a.meaning ++ (58 ∷ r)))

        member : Expansion
        member = address_expansion store o place_of true (d + 1) held no_address u

        made : Addresses → Address
        made l = address (kind_number (typed_kind a.meaning)) (and_word no_word (atom a.meaning)) no_word l

        no_group : (l : Addresses) → atom_group (made l) ≡ false
        no_group l = of_typed (λ kind. atom_group (address kind (and_word no_word (atom a.meaning)) no_word l) ≡ false) refl refl refl a.meaning

        made_text : (l : Addresses) (r : List ℕ) → address_text (made l) r ≡ 58 ∷ (a.meaning ++ (58 ∷ 32 ∷ addresses_text l r))
        made_text l r = of_typed (λ kind. address_text (address kind (and_word no_word (atom a.meaning)) no_word l) r ≡ 58 ∷ (a.meaning ++ (58 ∷ 32 ∷ addresses_text l r))) refl refl refl a.meaning

        by : (l : Addresses) (v : ℕ) → (x : Address) × (l ≡ and_address no_address x) → before (λ r. listed b m (text r)) (After namely (true ∷ s) xs k l v) ≡ After b s xs k (and_address m (made l)) v
        by l v (x, p) =
            rw p
            (sym (twice (listed b m) text (before (listed namely (and_address no_address x)) (W Parted (true ∷ s) xs v k)))
            ∙ ap (before (listed b m)) (twice text (listed namely (and_address no_address x)) (W Parted (true ∷ s) xs v k) ∙ ap (before (λ r. text (listed namely (and_address no_address x) r))) (joins_typed xs j Parted s v k))
            ∙ wrap b m e (made (and_address no_address x)) false (no_group (and_address no_address x)) h (λ r. text (listed namely (and_address no_address x) r))
            (λ r. ap (gap_text (gap_before (spot b m e) false)) (sym (made_text (and_address no_address x) r))) xs j Parted refl s v k)

    -- an Include or not
    typed_by : (t a c : Lexeme) (held : trees.Address) (y : Bool) (b : Begin) (m : Addresses) (e : Bool) (d : ℕ) (s : List Bool) (xs : List Sym) (u : ℕ) (k : Place → ℕ → Trail)
        → AddressEnds xs → in_typed s ≡ y → d ≡ base + length s → after_atom (spot b m e) false ≡ Word → length s < level_limit → (z : Bool) → eqb (kind_number (typed_kind a.meaning)) (kind_number include) ≡ z
        → before (listed namely no_address) (W Named (true ∷ s) (address_then held xs) u k) ≡ onward (address_expansion store o place_of true (d + 1) held no_address u) (After namely (true ∷ s) xs k)
        → before (listed b m) (W (spot b m e) s (of Colon t ∷ of Atom a ∷ of Colon c ∷ address_then held xs) u k) ≡ onward (address_expansion store o place_of y d (typed t a c held) m u) (After b s xs k)
    typed_by t a c held y b m e d s xs u k j w q h n z f i = by z f ∙ ap (λ g. onward (pick g included other) (After b s xs k)) (sym f)
      where
        included : Expansion
        included = expand_include store o y (place_of t.start) d (and_address no_address (address_meaning held)) m u

        other : Expansion
        other = and_then (address_expansion store o place_of true (d + 1) held no_address u) (λ l v. reached (and_address m (address (kind_number (typed_kind a.meaning)) (and_word no_word (atom a.meaning)) no_word l)) v)

        by : (z : Bool) → eqb (kind_number (typed_kind a.meaning)) (kind_number include) ≡ z
            → before (listed b m) (W (spot b m e) s (of Colon t ∷ of Atom a ∷ of Colon c ∷ address_then held xs) u k) ≡ onward (pick z included other) (After b s xs k)
        by true f = through_include t a c held y b m e d s xs u k j w q f
        by false f = through_typed t a c held b m e d s xs u k j h f n i

    -- an address at a place
    full_by : (r : trees.Slot) (a : trees.Address) (b : Begin) (m : Addresses) (c : Bool) (d : ℕ) (s : List Bool) (xs : List Sym) (u : ℕ) (k : Place → ℕ → Trail)
        → Clear b m c (slot_atom_group r (house.atom_group a))
        → before (listed b m) (W (spot b m c) s (slot_then r (address_then a xs)) u k) ≡ onward (slot_expansion store o place_of d r m u) (λ m' v. before (listed b m') (W (spot b m' (flag c r)) s (address_then a xs) v k))
        → ((m' : Addresses) (c' : Bool) (v : ℕ) → Clear b m' c' (house.atom_group a) → before (listed b m') (W (spot b m' c') s (address_then a xs) v k) ≡ onward (address_expansion store o place_of false d a m' v) (After b s xs k))
        → before (listed b m) (W (spot b m c) s (slot_then r (address_then a xs)) u k) ≡ onward (and_then (slot_expansion store o place_of d r m u) (λ m' v. address_expansion store o place_of false d a m' v)) (After b s xs k)
    full_by trees.empty a b m c d s xs u k h p f = f m c u h
    full_by (comma l t) a b m c d s xs u k h p f =
        p ∙ onward_same (list_expansion store o place_of d l m u) (λ m' v. f m' true v (clear_comma b m' (house.atom_group a)))
        ∙ sym (onward_then (list_expansion store o place_of d l m u) (λ m' v. address_expansion store o place_of false d a m' v) (After b s xs k))

    mutual
      through_place : (r : trees.Slot) (x : Bool) (b : Begin) (m : Addresses) (c : Bool) (d : ℕ) (s : List Bool) (ys : List Sym) (u : ℕ) (k : Place → ℕ → Trail)
          → slot_lawful r → in_typed s ≡ false → d ≡ base + length s → length s + slot_levels r ≤ level_limit → Clear b m c (slot_atom_group r x)
          → before (listed b m) (W (spot b m c) s (slot_then r ys) u k) ≡ onward (slot_expansion store o place_of d r m u) (λ m' v. before (listed b m') (W (spot b m' (flag c r)) s ys v k))
      through_place trees.empty x b m c d s ys u k lawful w q v h = refl
      through_place (comma l t) x b m c d s ys u k lawful w q v h =
          through_list l b m c d s (of Comma t ∷ ys) u k lawful refl w q v h
          ∙ onward_same (list_expansion store o place_of d l m u)
          (λ m' n. ap (before (listed b m')) (unmoved (W (after_comma (spot b m' true)) (without_typed s) ys n k) ∙ ap₂ (λ place z. W place z ys n k) (comma_spot b m' true) (untyped s w)))

      pub through_list : (l : AddressList) (b : Begin) (m : Addresses) (c : Bool) (d : ℕ) (s : List Bool) (xs : List Sym) (u : ℕ) (k : Place → ℕ → Trail)
          → list_lawful l → AddressEnds xs → in_typed s ≡ false → d ≡ base + length s → length s + list_levels l ≤ level_limit → Clear b m c (list_atom_group l)
          → before (listed b m) (W (spot b m c) s (list_then l xs) u k) ≡ onward (list_expansion store o place_of d l m u) (After b s xs k)
      through_list (idle r) b m c d s xs u k lawful j w q v h =
          through_place r false b m c d s xs u k lawful w q v h
          ∙ onward_same (slot_expansion store o place_of d r m u) (λ m' n. ap (before (listed b m')) (joins_place xs j (spot b m' (flag c r)) (spot b m' true) (after_spot b m' (flag c r)) s n k))
      through_list (full r a) b m c d s xs u k lawful j w q v h =
          full_by r a b m c d s xs u k h (through_place r (house.atom_group a) b m c d s (address_then a xs) u k lawful.0 w q (omega (arith, v)) h)
          (λ m' c' n h'. through_address a false b m' c' d s xs n k lawful.1 j w q (omega (arith, v)) h')

      through_address : (a : trees.Address) (y : Bool) (b : Begin) (m : Addresses) (c : Bool) (d : ℕ) (s : List Bool) (xs : List Sym) (u : ℕ) (k : Place → ℕ → Trail)
          → address_lawful a → AddressEnds xs → in_typed s ≡ y → d ≡ base + length s → length s + address_levels a ≤ level_limit → Clear b m c (house.atom_group a)
          → before (listed b m) (W (spot b m c) s (address_then a xs) u k) ≡ onward (address_expansion store o place_of y d a m u) (After b s xs k)
      through_address (mailbox n p) y b m c d s xs u k lawful j w q v h =
          ap (before (listed b m))
          (walk_name s u k n (spot b m c) (nodes_then p xs) (no_colon_nodes p xs) (clear_word b m c false h)
          ∙ ap (before (λ r. gap_text (gap_before (spot b m c) false) (phrase_text (phrase_meaning n) r))) (walk_nodes s u k p xs)
          ∙ twice (λ r. gap_text (gap_before (spot b m c) false) (phrase_text (phrase_meaning n) r)) (nodes_text (nodes_meaning p)) (W Word s xs u k))
          ∙ wrap b m c (address_meaning (mailbox n p)) false refl (clear_word b m c false h) _ (λ r. refl) xs j Word refl s u k
      through_address (angle none t l e) y b m c d s xs u k lawful j w q v h =
          ap (λ z. before (listed b m) (before (λ r. gap_text (gap_before (spot b m c) false) (60 ∷ r)) (W Start z (list_then l (of GreaterThan e ∷ xs)) u k))) (one_level s (omega (arith, v)))
          ∙ enclosed b m c
          (record {
            begin = plainly;
            group_named = false;
            opening_text = λ r. gap_text (gap_before (spot b m c) false) (60 ∷ r);
            closing_text = λ r. 62 ∷ r;
            made = λ z. address 2 no_word no_word z;
            is_named = λ z. refl;
            clear = clear_word b m c false h;
            text = λ z r. ap (λ f. gap_text (gap_before (spot b m c) false) (60 ∷ f)) (front_plain z _);
          })
          xs j s k (list_expansion store o place_of (d + 1) l no_address u) (W Start (false ∷ s) (list_then l (of GreaterThan e ∷ xs)) u k)
          (sym (unmoved (W Start (false ∷ s) (list_then l (of GreaterThan e ∷ xs)) u k)) ∙ through_list l plainly no_address false (d + 1) (false ∷ s) (of GreaterThan e ∷ xs) u k lawful refl refl (omega (arith, q)) (omega (arith, v)) tt)
      through_address (angle (some n) t l e) y b m c d s xs u k lawful j w q v h =
          ap (before (listed b m))
          (walk_name s u k n (spot b m c) (of LessThan t ∷ list_then l (of GreaterThan e ∷ xs)) refl (clear_word b m c false h)
          ∙ ap (λ z. before (λ r. gap_text (gap_before (spot b m c) false) (phrase_text (phrase_meaning n) r)) (before (λ r. 32 ∷ 60 ∷ r) (W Start z (list_then l (of GreaterThan e ∷ xs)) u k))) (one_level s (omega (arith, v)))
          ∙ twice (λ r. gap_text (gap_before (spot b m c) false) (phrase_text (phrase_meaning n) r)) (λ r. 32 ∷ 60 ∷ r) (W Start (false ∷ s) (list_then l (of GreaterThan e ∷ xs)) u k))
          ∙ enclosed b m c
          (record {
            begin = plainly;
            group_named = false;
            opening_text = λ r. gap_text (gap_before (spot b m c) false) (phrase_text (phrase_meaning n) (32 ∷ 60 ∷ r));
            closing_text = λ r. 62 ∷ r;
            made = λ z. address 2 (phrase_meaning n) no_word z;
            is_named = λ z. refl;
            clear = clear_word b m c false h;
            text = λ z r. ap (λ f. gap_text (gap_before (spot b m c) false) (phrase_text (phrase_meaning n) f)) (ap (λ f. 32 ∷ 60 ∷ f) (front_plain z _) ∙ sym (space_behind_lem n _));
          })
          xs j s k (list_expansion store o place_of (d + 1) l no_address u) (W Start (false ∷ s) (list_then l (of GreaterThan e ∷ xs)) u k)
          (sym (unmoved (W Start (false ∷ s) (list_then l (of GreaterThan e ∷ xs)) u k)) ∙ through_list l plainly no_address false (d + 1) (false ∷ s) (of GreaterThan e ∷ xs) u k lawful refl refl (omega (arith, q)) (omega (arith, v)) tt)
      through_address (group none t l e) y b m c d s xs u k lawful j w q v h =
          let z : list_atom_group l ≡ false = sym (atom_colon_list l (of Semicolon e ∷ []) refl) ∙ lawful.1 in
          ap (before (listed b m))
          (walk_colon s u k (spot b m c) t (list_then l (of Semicolon e ∷ xs)) (spot_opens b m c) (ap (λ f. both f (include_word (list_then l (of Semicolon e ∷ xs)))) (atom_colon_list l (of Semicolon e ∷ xs) refl ∙ z)) (omega (arith, v)))
          ∙ enclosed b m c
          (record {
            begin = barely;
            group_named = false;
            opening_text = λ r. gap_text (gap_before (spot b m c) false) (58 ∷ r);
            closing_text = λ r. 59 ∷ r;
            made = λ f. address 3 no_word no_word f;
            is_named = λ f. refl;
            clear = clear_word b m c false h;
            text = λ f r. ap (λ g. gap_text (gap_before (spot b m c) false) (58 ∷ g)) (front_bare f _);
          })
          xs j s k (list_expansion store o place_of (d + 1) l no_address u) (W Bare (false ∷ s) (list_then l (of Semicolon e ∷ xs)) u k)
          (sym (unmoved (W Bare (false ∷ s) (list_then l (of Semicolon e ∷ xs)) u k)) ∙ through_list l barely no_address false (d + 1) (false ∷ s) (of Semicolon e ∷ xs) u k lawful.0 refl refl (omega (arith, q)) (omega (arith, v)) z)
      through_address (group (some n) t l e) y b m c d s xs u k lawful j w q v h =
          ap (before (listed b m))
          (walk_group_name s u k n (spot b m c) (of Colon t ∷ list_then l (of Semicolon e ∷ xs)) refl (clear_word b m c (one_atom n) h)
          ∙ ap (λ z. before (λ r. gap_text (gap_before (spot b m c) (one_atom n)) (phrase_text (phrase_meaning n) r)) (before (λ r. 58 ∷ r) (W Named z (list_then l (of Semicolon e ∷ xs)) u k))) (one_level s (omega (arith, v)))
          ∙ twice (λ r. gap_text (gap_before (spot b m c) (one_atom n)) (phrase_text (phrase_meaning n) r)) (λ r. 58 ∷ r) (W Named (false ∷ s) (list_then l (of Semicolon e ∷ xs)) u k))
          ∙ enclosed b m c
          (record {
            begin = namely;
            group_named = one_atom n;
            opening_text = λ r. gap_text (gap_before (spot b m c) (one_atom n)) (phrase_text (phrase_meaning n) (58 ∷ r));
            closing_text = λ r. 59 ∷ r;
            made = λ f. address 3 (phrase_meaning n) no_word f;
            is_named = λ f. sym (atom_group_lem (group (some n) t l e));
            clear = clear_word b m c (one_atom n) h;
            text = λ f r. ap (λ g. gap_text (gap_before (spot b m c) (one_atom n)) (phrase_text (phrase_meaning n) (58 ∷ g))) (front_named n f _);
          })
          xs j s k (list_expansion store o place_of (d + 1) l no_address u) (W Named (false ∷ s) (list_then l (of Semicolon e ∷ xs)) u k)
          (sym (unmoved (W Named (false ∷ s) (list_then l (of Semicolon e ∷ xs)) u k)) ∙ through_list l namely no_address false (d + 1) (false ∷ s) (of Semicolon e ∷ xs) u k lawful.0 refl refl (omega (arith, q)) (omega (arith, v)) tt)
      through_address (quoted t) y b m c d s xs u k lawful j w q v h =
          wrap b m c (address_meaning (quoted t)) false refl (clear_word b m c false h) (λ r. gap_text (gap_before (spot b m c) false) (address_text (address_meaning (quoted t)) r)) (λ r. refl) xs j Word refl s u k
      through_address (typed t a e held) y b m c d s xs u k lawful j w q v h =
          typed_by t a e held y b m c d s xs u k j w q (clear_word b m c false h) (omega (arith, v)) (eqb (kind_number (typed_kind a.meaning)) (kind_number include)) refl
          (through_address held true namely no_address false (d + 1) (true ∷ s) xs u k lawful j refl (omega (arith, q)) (omega (arith, v)) tt)
