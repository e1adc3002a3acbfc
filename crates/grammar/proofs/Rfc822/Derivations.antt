-- The trees of RFC 822 are the derivations of the grammar `rfc822`. Assumes nothing.
use Prim.Native.Nat.{ℕ, ◌<◌}
use native.Mathlib.Omega.{arith}
use mathlib.Core.Path.{◌≡◌, refl}
use mathlib.Core.List.{List, [], ◌∷◌}
use lib.ListN.{length}
use Rattle.grammar.specs.Believed.Grammar.{Item, nonterminal, Forest, nil, yield, Allowed, Fits, done, take, Derived}
use Rattle.grammar.specs.Believed.Rfc733.{same_class, plain}
use Rattle.grammar.specs.Believed.Rfc822.{rules_of, Nonterminal, list, slot, address, boxes, box_slot, mailbox, route_addr, addr_spec, route, hops, empty_slots, local_part, domain, sub_domain, phrase, word, rfc822}
use Rattle.grammar.specs.Executable.Trees822.{put, Class, Sym, Word, atom_word, quoted_word, Phrase, one, more, Sub, Domain, Local, Spec, Empties, Hops, Route, RouteAddr, Mailbox, Slot, Listed, Address, Bit, bit, word_piece, phrase_piece, sub_piece, domain_piece, local_piece, spec_piece, empties_piece, hops_piece, route_piece, route_addr_piece, mailbox_piece, box_slot_piece, boxes_piece, address_piece, slot_piece, list_piece, atom_sub, literal_sub, one_sub, more_sub, one_word, more_word, spec, no_empty, one_empty, first_hop, next_hop, direct, trailing, no_route, with_route, bare, angle, routed, empty, comma, idle, full, box, group, as_forest}
use Rattle.grammar.proofs.Any.Pieces.{From, by_rule, put_fits, AllCovered, tree_of}

-- ---- every tree is a derivation

abbrev Is : Nonterminal → Bit → Type 0
Is A p = From rfc822 A p

-- .. by the i-th rule
by : (A : Nonterminal) (i : ℕ) {p : Forest Class Nonterminal} → i < length (rules_of A) → Fits rfc822 (bit A i p).rule.items p → Allowed same_class (bit A i p).rule.never (yield p) → Is A (bit A i p)
by A i h d o = by_rule rfc822 A i (plain []) h d o

with : {A : Nonterminal} {p : Bit} {items : List (Item Class Nonterminal)} {k : Forest Class Nonterminal} → Is A p → Fits rfc822 items k → Fits rfc822 (nonterminal A ∷ items) (put p k)
with f d = put_fits rfc822 f d

pub word_is : (w : Word) → Is word (word_piece w)
word_is (atom_word t) = by word 0 (omega arith) (take refl done) tt
word_is (quoted_word t) = by word 1 (omega arith) (take refl done) tt

pub phrase_is : (p : Phrase) → Is phrase (phrase_piece p)
phrase_is (one w) = by phrase 0 (omega arith) (with (word_is w) done) tt
phrase_is (more p w) = by phrase 1 (omega arith) (with (phrase_is p) (with (word_is w) done)) tt

pub sub_is : (s : Sub) → Is sub_domain (sub_piece s)
sub_is (atom_sub t) = by sub_domain 0 (omega arith) (take refl done) tt
sub_is (literal_sub t) = by sub_domain 1 (omega arith) (take refl done) tt

pub domain_is : (m : Domain) → Is domain (domain_piece m)
domain_is (one_sub s) = by domain 0 (omega arith) (with (sub_is s) done) tt
domain_is (more_sub m t s) = by domain 1 (omega arith) (with (domain_is m) (take refl (with (sub_is s) done))) tt

pub local_is : (l : Local) → Is local_part (local_piece l)
local_is (one_word w) = by local_part 0 (omega arith) (with (word_is w) done) tt
local_is (more_word l t w) = by local_part 1 (omega arith) (with (local_is l) (take refl (with (word_is w) done))) tt

pub spec_is : (s : Spec) → Is addr_spec (spec_piece s)
spec_is (spec l t m) = by addr_spec 0 (omega arith) (with (local_is l) (take refl (with (domain_is m) done))) tt

pub empties_is : (g : Empties) → Is empty_slots (empties_piece g)
empties_is no_empty = by empty_slots 0 (omega arith) done tt
empties_is (one_empty g t) = by empty_slots 1 (omega arith) (with (empties_is g) (take refl done)) tt

pub hops_is : (h : Hops) → Is hops (hops_piece h)
hops_is (first_hop g t m) = by hops 0 (omega arith) (with (empties_is g) (take refl (with (domain_is m) done))) tt
hops_is (next_hop h u g t m) = by hops 1 (omega arith) (with (hops_is h) (take refl (with (empties_is g) (take refl (with (domain_is m) done))))) tt

pub route_is : (r : Route) → Is route (route_piece r)
route_is (direct h t) = by route 0 (omega arith) (with (hops_is h) (take refl done)) tt
route_is (trailing h u g t) = by route 1 (omega arith) (with (hops_is h) (take refl (with (empties_is g) (take refl done)))) tt

pub route_addr_is : (r : RouteAddr) → Is route_addr (route_addr_piece r)
route_addr_is (no_route t s u) = by route_addr 0 (omega arith) (take refl (with (spec_is s) (take refl done))) tt
route_addr_is (with_route t r s u) = by route_addr 1 (omega arith) (take refl (with (route_is r) (with (spec_is s) (take refl done)))) tt

pub mailbox_is : (b : Mailbox) → Is mailbox (mailbox_piece b)
mailbox_is (bare s) = by mailbox 0 (omega arith) (with (spec_is s) done) tt
mailbox_is (angle p t s u) = by mailbox 1 (omega arith) (with (phrase_is p) (with (route_addr_is (no_route t s u)) done)) tt
mailbox_is (routed p t r s u) = by mailbox 1 (omega arith) (with (phrase_is p) (with (route_addr_is (with_route t r s u)) done)) tt

mutual
  box_slot_is : (r : Slot Mailbox) → Is box_slot (box_slot_piece r)
  box_slot_is empty = by box_slot 0 (omega arith) done tt
  box_slot_is (comma l t) = by box_slot 1 (omega arith) (with (boxes_is l) (take refl done)) tt

  boxes_is : (l : Listed Mailbox) → Is boxes (boxes_piece l)
  boxes_is (idle r) = by boxes 1 (omega arith) (with (box_slot_is r) done) tt
  boxes_is (full r b) = by boxes 0 (omega arith) (with (box_slot_is r) (with (mailbox_is b) done)) tt

pub address_is : (a : Address) → Is address (address_piece a)
address_is (box b) = by address 0 (omega arith) (with (mailbox_is b) done) tt
address_is (group p t l u) = by address 1 (omega arith) (with (phrase_is p) (take refl (with (boxes_is l) (take refl done)))) tt

mutual
  slot_is : (r : Slot Address) → Is slot (slot_piece r)
  slot_is empty = by slot 0 (omega arith) done tt
  slot_is (comma l t) = by slot 1 (omega arith) (with (list_is l) (take refl done)) tt

  list_is : (l : Listed Address) → Is list (list_piece l)
  list_is (idle r) = by list 1 (omega arith) (with (slot_is r) done) tt
  list_is (full r a) = by list 0 (omega arith) (with (slot_is r) (with (address_is a) done)) tt

-- ---- every derivation is a tree

abbrev Tree : Nonterminal → Type 0
Tree list = Listed Address
Tree slot = Slot Address
Tree address = Address
Tree boxes = Listed Mailbox
Tree box_slot = Slot Mailbox
Tree mailbox = Mailbox
Tree route_addr = RouteAddr
Tree addr_spec = Spec
Tree route = Route
Tree hops = Hops
Tree empty_slots = Empties
Tree local_part = Local
Tree domain = Domain
Tree sub_domain = Sub
Tree phrase = Phrase
Tree word = Word

abbrev piece_of : (A : Nonterminal) → Tree A → Bit
piece_of list x = list_piece x
piece_of slot x = slot_piece x
piece_of address x = address_piece x
piece_of boxes x = boxes_piece x
piece_of box_slot x = box_slot_piece x
piece_of mailbox x = mailbox_piece x
piece_of route_addr x = route_addr_piece x
piece_of addr_spec x = spec_piece x
piece_of route x = route_piece x
piece_of hops x = hops_piece x
piece_of empty_slots x = empties_piece x
piece_of local_part x = local_piece x
piece_of domain x = domain_piece x
piece_of sub_domain x = sub_piece x
piece_of phrase x = phrase_piece x
piece_of word x = word_piece x

named : (p : Phrase) (r : RouteAddr) → (x : Mailbox) × (bit mailbox 1 (put (phrase_piece p) (put (route_addr_piece r) nil)) ≡ mailbox_piece x)
named p (no_route t s u) = (angle p t s u, refl)
named p (with_route t r s u) = (routed p t r s u, refl)

covered : (A : Nonterminal) → AllCovered rfc822 Tree piece_of A (rules_of A)
covered list = (λ (r, (a, z)) o. (full r a, refl), (λ (r, z) o. (idle r, refl), tt))
covered slot = (λ z o. (empty, refl), (λ (l, (t, z)) o. (comma l t, refl), tt))
covered address = (λ (b, z) o. (box b, refl), (λ (p, (t, (l, (u, z)))) o. (group p t l u, refl), tt))
covered boxes = (λ (r, (b, z)) o. (full r b, refl), (λ (r, z) o. (idle r, refl), tt))
covered box_slot = (λ z o. (empty, refl), (λ (l, (t, z)) o. (comma l t, refl), tt))
covered mailbox = (λ (s, z) o. (bare s, refl), (λ (p, (r, z)) o. named p r, tt))
covered route_addr = (λ (t, (s, (u, z))) o. (no_route t s u, refl), (λ (t, (r, (s, (u, z)))) o. (with_route t r s u, refl), tt))
covered addr_spec = (λ (l, (t, (m, z))) o. (spec l t m, refl), tt)
covered route = (λ (h, (t, z)) o. (direct h t, refl), (λ (h, (u, (g, (t, z)))) o. (trailing h u g t, refl), tt))
covered hops = (λ (g, (t, (m, z))) o. (first_hop g t m, refl), (λ (h, (u, (g, (t, (m, z))))) o. (next_hop h u g t m, refl), tt))
covered empty_slots = (λ z o. (no_empty, refl), (λ (g, (t, z)) o. (one_empty g t, refl), tt))
covered local_part = (λ (w, z) o. (one_word w, refl), (λ (l, (t, (w, z))) o. (more_word l t w, refl), tt))
covered domain = (λ (s, z) o. (one_sub s, refl), (λ (m, (t, (s, z))) o. (more_sub m t s, refl), tt))
covered sub_domain = (λ (t, z) o. (atom_sub t, refl), (λ (t, z) o. (literal_sub t, refl), tt))
covered phrase = (λ (w, z) o. (one w, refl), (λ (p, (w, z)) o. (more p w, refl), tt))
covered word = (λ (t, z) o. (atom_word t, refl), (λ (t, z) o. (quoted_word t, refl), tt))

-- ---- the trees are the derivations

abbrev pub DerivedList : Forest Class Nonterminal → List Sym → Type 0
DerivedList k xs = Derived rfc822 list k xs

pub forest_derived : (l : Listed Address) {xs : List Sym} → yield (as_forest l) ≡ xs → DerivedList (as_forest l) xs
forest_derived l e = record { fits = with (list_is l) done; yields = e }

pub tree_derived : {k : Forest Class Nonterminal} {xs : List Sym} → DerivedList k xs → (l : Listed Address) × (k ≡ as_forest l) × (yield (as_forest l) ≡ xs)
tree_derived d = tree_of rfc822 Tree piece_of covered d
