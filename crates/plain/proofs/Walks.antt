-- The walk over the symbols of a derived list writes its plain text. Assumes nothing.
use Prim.Native.Nat.{ℕ}
use mathlib.Core.Path.{◌≡◌, refl, sym, ap, ◌∙◌}
use mathlib.Core.Bool.{Bool, true, false}
use mathlib.Core.List.{List, [], ◌∷◌, ◌++◌}
use mathlib.Core.Option.{none, some}
use Rattle.octets.specs.Believed.Choice.{pick, both}
use Rattle.octets.specs.Believed.Text.{bytes}
use Rattle.grammar.specs.Believed.Rfc733.{Derivation, DerivedList}
use Rattle.grammar.specs.Executable.Trees733.{Atom, Quoted, At, LessThan, GreaterThan, Comma, Semicolon, Colon, Lexeme, Sym, of, atom_word, quoted_word, Phrase, one, more, Nodes, first, next, comma, AddressList, idle, full, mailbox, angle, group, quoted, typed}
use Rattle.grammar.proofs.Rfc733.Trees.{word_symbol, phrase_then, nodes_then, slot_then, list_then, address_then, slot_lawful, list_lawful, address_lawful}
use Rattle.grammar.specs.Executable.Trees733 as trees
use Rattle.grammar.proofs.Rfc733.HouseRule.{one_atom, slot_atom_group, list_atom_group, atom_colon_list, one_atom_false, one_atom_true}
use Rattle.grammar.proofs.Rfc733.HouseRule as house
use Rattle.grammar.proofs.Rfc733.Derivations.{tree_derived}
use Rattle.plain.specs.Believed.Meaning.{no_word, Addresses, no_address, and_address, Address, meaning}
use Rattle.plain.specs.Believed.PlainText.{word_text, space_behind, phrase_text, nodes_text, atom_group, group_gap, comma_behind, addresses_text, address_text, plain_text}
use Rattle.plain.specs.Ties.Walking.{gap_text, gap_before, after_atom, after_comma, colon_next, walk_text}
use Rattle.plain.specs.declared.places.Place.{Place}
use Rattle.plain.specs.declared.places.Place.TheVariants.{Start, Bare, BareComma, Named, Typing, Word, Node, Closed, Parted}
use Rattle.plain.proofs.TreeMeanings.{word_meaning, phrase_meaning, nodes_meaning, slot_meaning, list_meaning, address_meaning, meaning_forest, atom_group_lem, typed_text}

-- ---- words

-- a node
pub walk_node : (w : trees.Word) (xs : List Sym) → walk_text Node (word_symbol w ∷ xs) ≡ 32 ∷ word_text (word_meaning w) (walk_text Word xs)
walk_node (atom_word t) xs = refl
walk_node (quoted_word t) xs = refl

-- after a phrase stands SPACE
pub space_behind_lem : (p : Phrase) (r : List ℕ) → space_behind (phrase_meaning p) r ≡ 32 ∷ r
space_behind_lem (one w) r = refl
space_behind_lem (more p w) r = refl

pub walk_phrase : (p : Phrase) (place : Place) (xs : List Sym) → after_atom place (both (one_atom p) (colon_next xs)) ≡ Word
    → walk_text place (phrase_then p xs) ≡ gap_text (gap_before place (both (one_atom p) (colon_next xs))) (phrase_text (phrase_meaning p) (walk_text Word xs))
walk_phrase (one (atom_word t)) place xs h = rw h
walk_phrase (one (quoted_word t)) place xs h = refl
walk_phrase (more p (atom_word t)) place xs h =
    walk_phrase p place (of Atom t ∷ xs) (rw (one_atom_false p) h)
    ∙ rw (one_atom_false p) (ap (λ r. gap_text (gap_before place false) (phrase_text (phrase_meaning p) r)) (sym (space_behind_lem p _)))
walk_phrase (more p (quoted_word t)) place xs h =
    walk_phrase p place (of Quoted t ∷ xs) (rw (one_atom_false p) h)
    ∙ rw (one_atom_false p) (ap (λ r. gap_text (gap_before place false) (phrase_text (phrase_meaning p) r)) (sym (space_behind_lem p _)))

-- a phrase before no ":", and before ":"
pub walk_name : (p : Phrase) (place : Place) (xs : List Sym) → colon_next xs ≡ false → after_atom place false ≡ Word
    → walk_text place (phrase_then p xs) ≡ gap_text (gap_before place false) (phrase_text (phrase_meaning p) (walk_text Word xs))
walk_name p place xs z h = walk_phrase p place xs (rw (z, one_atom_false p) h) ∙ rw (z, one_atom_false p)

pub walk_group_name : (p : Phrase) (place : Place) (xs : List Sym) → colon_next xs ≡ true → after_atom place (one_atom p) ≡ Word
    → walk_text place (phrase_then p xs) ≡ gap_text (gap_before place (one_atom p)) (phrase_text (phrase_meaning p) (walk_text Word xs))
walk_group_name p place xs z h = walk_phrase p place xs (rw (z, one_atom_true p) h) ∙ rw (z, one_atom_true p)

pub no_colon_nodes : (m : Nodes) (xs : List Sym) → colon_next (nodes_then m xs) ≡ false
no_colon_nodes (first t w) xs = refl
no_colon_nodes (next m t w) xs = no_colon_nodes m (of At t ∷ word_symbol w ∷ xs)

pub walk_nodes : (m : Nodes) (xs : List Sym) → walk_text Word (nodes_then m xs) ≡ nodes_text (nodes_meaning m) (walk_text Word xs)
walk_nodes (first t w) xs = ap (λ r. bytes " at" ++ r) (walk_node w xs)
walk_nodes (next m t w) xs = walk_nodes m (of At t ∷ word_symbol w ∷ xs) ∙ ap (λ r. nodes_text (nodes_meaning m) (bytes " at" ++ r)) (walk_node w xs)

-- ---- places after trees

abbrev pub behind : trees.Address → Place
behind (mailbox p m) = Word
behind (angle o t l u) = Closed
behind (group o t l u) = Closed
behind (quoted t) = Word
behind (typed t a u b) = behind b

abbrev mutual
  behind_place : Place → trees.Slot → Place
  behind_place place trees.empty = place
  behind_place place (comma l t) = after_comma (behind_list place l)

  behind_list : Place → AddressList → Place
  behind_list place (idle r) = behind_place place r
  behind_list place (full r a) = behind a

-- how a list begins: at the start or after "<"; after the ":" of a nameless group; after that of a named one
pub data Begin : Type 0 where
  plainly barely namely : Begin

abbrev pub opened : Begin → Place
opened plainly = Start
opened barely = Bare
opened namely = Named

abbrev pub front : Begin → Addresses → List ℕ → List ℕ
front k no_address r = r
front plainly (and_address l a) r = r
front barely (and_address l a) r = group_gap no_word (and_address l a) r
front namely (and_address l a) r = 32 ∷ r

abbrev pub spot : Begin → Addresses → Bool → Place
spot k (and_address l a) c = Parted
spot plainly no_address c = Start
spot barely no_address c = pick c BareComma Bare
spot namely no_address c = Named

abbrev has_comma : trees.Slot → Bool
has_comma trees.empty = false
has_comma (comma l t) = true

pub comma_spot : (k : Begin) (m : Addresses) (c : Bool) → after_comma (spot k m c) ≡ spot k m true
comma_spot k (and_address l a) c = refl
comma_spot plainly no_address c = refl
comma_spot barely no_address true = refl
comma_spot barely no_address false = refl
comma_spot namely no_address c = refl

comma_behind_lem : (a : trees.Address) → after_comma (behind a) ≡ Parted
comma_behind_lem (mailbox p m) = refl
comma_behind_lem (angle o t l u) = refl
comma_behind_lem (group o t l u) = refl
comma_behind_lem (quoted t) = refl
comma_behind_lem (typed t a u b) = comma_behind_lem b

mutual
  place_spot : (r : trees.Slot) (k : Begin) → behind_place (opened k) r ≡ spot k (slot_meaning r) (has_comma r)
  place_spot trees.empty plainly = refl
  place_spot trees.empty barely = refl
  place_spot trees.empty namely = refl
  place_spot (comma l t) k = list_spot l k

  list_spot : (l : AddressList) (k : Begin) → after_comma (behind_list (opened k) l) ≡ spot k (list_meaning l) true
  list_spot (idle r) k = ap after_comma (place_spot r k) ∙ comma_spot k (slot_meaning r) (has_comma r)
  list_spot (full r a) k = comma_behind_lem a

-- places where an address can begin
abbrev pub Opens : Place → Type 0
Opens Start = Unit {0}
Opens Bare = Unit {0}
Opens BareComma = Unit {0}
Opens Named = Unit {0}
Opens Typing = ⊥
Opens Word = ⊥
Opens Node = ⊥
Opens Closed = ⊥
Opens Parted = Unit {0}

pub spot_opens : (k : Begin) (m : Addresses) (c : Bool) → Opens (spot k m c)
spot_opens k (and_address l a) c = tt
spot_opens plainly no_address c = tt
spot_opens barely no_address true = tt
spot_opens barely no_address false = tt
spot_opens namely no_address c = tt

pub walk_colon : (place : Place) (t : Lexeme) (xs : List Sym) → Opens place → walk_text place (of Colon t ∷ xs) ≡ gap_text (gap_before place false) (58 ∷ walk_text Bare xs)
walk_colon Start t xs h = refl
walk_colon Bare t xs h = refl
walk_colon BareComma t xs h = refl
walk_colon Named t xs h = refl
walk_colon Typing t xs h = absurd h
walk_colon Word t xs h = absurd h
walk_colon Node t xs h = absurd h
walk_colon Closed t xs h = absurd h
walk_colon Parted t xs h = refl

-- after a nameless ":" no atom and ":" stand
abbrev pub Clear : Begin → Bool → Type 0
Clear plainly x = Unit {0}
Clear barely x = x ≡ false
Clear namely x = Unit {0}

spot_word : (k : Begin) (m : Addresses) (x : Bool) → after_atom (spot k m true) x ≡ Word
spot_word k (and_address l a) x = refl
spot_word plainly no_address x = refl
spot_word barely no_address x = refl
spot_word namely no_address x = refl

pub clear_word : (k : Begin) (r : trees.Slot) (x : Bool) → Clear k (slot_atom_group r x) → after_atom (spot k (slot_meaning r) (has_comma r)) x ≡ Word
clear_word plainly trees.empty x h = refl
clear_word barely trees.empty x h = rw h
clear_word namely trees.empty x h = refl
clear_word k (comma l t) x h = spot_word k (list_meaning l) x

bare_word : (x : Bool) (r : List ℕ) → pick x Typing Word ≡ Word → gap_text (gap_before Bare x) r ≡ pick x (bytes ", ") (bytes " ") ++ r
bare_word true r h = absurd cc
bare_word false r h = refl

bare_comma : (x : Bool) (r : List ℕ) → gap_text (gap_before BareComma x) r ≡ pick x (bytes ", ") (bytes " ") ++ r
bare_comma true r = refl
bare_comma false r = refl

-- one more address
pub joint : (k : Begin) (m : Addresses) (c : Bool) (a : Address) (r : List ℕ) → after_atom (spot k m c) (atom_group a) ≡ Word
    → front k m (addresses_text m (gap_text (gap_before (spot k m c) (atom_group a)) r)) ≡ front k (and_address m a) (addresses_text m (comma_behind m r))
joint plainly no_address c a r h = refl
joint barely no_address true a r h = bare_comma (atom_group a) r
joint barely no_address false a r h = bare_word (atom_group a) r h
joint namely no_address c a r h = refl
joint plainly (and_address l b) c a r h = refl
joint barely (and_address l b) c a r h = refl
joint namely (and_address l b) c a r h = refl

pub front_named : (p : Phrase) (m : Addresses) (r : List ℕ) → front namely m r ≡ group_gap (phrase_meaning p) m r
front_named p no_address r = refl
front_named (one w) (and_address l a) r = refl
front_named (more p w) (and_address l a) r = refl

pub front_bare : (m : Addresses) (r : List ℕ) → front barely m r ≡ group_gap no_word m r
front_bare no_address r = refl
front_bare (and_address l a) r = refl

pub front_plain : (m : Addresses) (r : List ℕ) → front plainly m r ≡ r
front_plain no_address r = refl
front_plain (and_address l a) r = refl

-- ---- lists and addresses

mutual
  walk_place : (e : trees.Slot) (k : Begin) (x : Bool) (xs : List Sym) → slot_lawful e → Clear k (slot_atom_group e x)
      → walk_text (opened k) (slot_then e xs) ≡ front k (slot_meaning e) (addresses_text (slot_meaning e) (walk_text (behind_place (opened k) e) xs))
  walk_place trees.empty k x xs o c = refl
  walk_place (comma l t) k x xs o c = walk_list l k (of Comma t ∷ xs) o c

  walk_list : (l : AddressList) (k : Begin) (xs : List Sym) → list_lawful l → Clear k (list_atom_group l)
      → walk_text (opened k) (list_then l xs) ≡ front k (list_meaning l) (addresses_text (list_meaning l) (walk_text (behind_list (opened k) l) xs))
  walk_list (idle e) k xs o c = walk_place e k false xs o c
  walk_list (full e a) k xs o c =
      let at : Place = spot k (slot_meaning e) (has_comma e) in
      let h : after_atom at (house.atom_group a) ≡ Word = clear_word k e (house.atom_group a) c in
      let f : walk_text (behind_place (opened k) e) (address_then a xs) ≡ gap_text (gap_before at (house.atom_group a)) (address_text (address_meaning a) (walk_text (behind a) xs)) =
      ap (λ place. walk_text place (address_then a xs)) (place_spot e k) ∙ walk_address a at xs o.1 (spot_opens k (slot_meaning e) (has_comma e)) h in
      walk_place e k (house.atom_group a) (address_then a xs) o.0 c
      ∙ ap (λ r. front k (slot_meaning e) (addresses_text (slot_meaning e) r)) (f ∙ rw (atom_group_lem a))
      ∙ joint k (slot_meaning e) (has_comma e) (address_meaning a) (address_text (address_meaning a) (walk_text (behind a) xs)) (rw (atom_group_lem a) at h)

  pub walk_address : (a : trees.Address) (place : Place) (xs : List Sym) → address_lawful a → Opens place → after_atom place (house.atom_group a) ≡ Word
      → walk_text place (address_then a xs) ≡ gap_text (gap_before place (house.atom_group a)) (address_text (address_meaning a) (walk_text (behind a) xs))
  walk_address (mailbox p m) place xs o n h =
      walk_name p place (nodes_then m xs) (no_colon_nodes m xs) h ∙ ap (λ r. gap_text (gap_before place false) (phrase_text (phrase_meaning p) r)) (walk_nodes m xs)
  walk_address (angle none t l u) place xs o n h =
      ap (λ r. gap_text (gap_before place false) (60 ∷ r)) (walk_list l plainly (of GreaterThan u ∷ xs) o tt ∙ front_plain (list_meaning l) _)
  walk_address (angle (some p) t l u) place xs o n h =
      walk_name p place (of LessThan t ∷ list_then l (of GreaterThan u ∷ xs)) refl h
      ∙ ap (λ r. gap_text (gap_before place false) (phrase_text (phrase_meaning p) r))
      (ap (λ r. 32 ∷ 60 ∷ r) (walk_list l plainly (of GreaterThan u ∷ xs) o tt ∙ front_plain (list_meaning l) _) ∙ sym (space_behind_lem p _))
  walk_address (group none t l u) place xs o n h =
      walk_colon place t (list_then l (of Semicolon u ∷ xs)) n
      ∙ ap (λ r. gap_text (gap_before place false) (58 ∷ r))
      (walk_list l barely (of Semicolon u ∷ xs) o.0 (sym (atom_colon_list l (of Semicolon u ∷ []) refl) ∙ o.1) ∙ front_bare (list_meaning l) _)
  walk_address (group (some p) t l u) place xs o n h =
      walk_group_name p place (of Colon t ∷ list_then l (of Semicolon u ∷ xs)) refl h
      ∙ ap (λ r. gap_text (gap_before place (one_atom p)) (phrase_text (phrase_meaning p) (58 ∷ r))) (walk_list l namely (of Semicolon u ∷ xs) o.0 tt ∙ front_named p (list_meaning l) _)
  walk_address (quoted t) place xs o n h = refl
  walk_address (typed t a u b) place xs o n h =
      walk_colon place t (of Atom a ∷ of Colon u ∷ address_then b xs) n
      ∙ ap (λ r. gap_text (gap_before place false) r) (ap (λ r. 58 ∷ (a.meaning ++ (58 ∷ r))) (walk_address b Named xs o tt refl) ∙ sym (typed_text a.meaning (address_meaning b) (walk_text (behind b) xs)))

-- the walk over the symbols of a derived list writes its plain text
pub walk_plain : {k : Derivation} {xs : List Sym} → DerivedList k xs → walk_text Start xs ≡ plain_text k
walk_plain {k} {xs} d =
    let (l, e, d') = tree_derived d in
    let m : meaning k ≡ list_meaning l = ap meaning e ∙ meaning_forest l in
    rw (← d'.yields, m) (walk_list l plainly [] d'.lawful tt ∙ front_plain (list_meaning l) _)
