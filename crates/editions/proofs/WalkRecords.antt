-- The records that the loop of RFC 822 leaves are those of the derivation. Assumes nothing.
use Prim.Native.Nat.{ℕ, suc}
use mathlib.Core.Path.{◌≡◌, refl, ap, ◌∙◌}
use mathlib.Core.Bool.{Bool, true, false}
use mathlib.Core.List.{List, [], ◌∷◌, ◌++◌, append-nil}
use mathlib.Core.Option.{some}
use lib.ListN.{length}
use Rattle.octets.specs.Believed.Choice.{pick}
use Rattle.grammar.specs.Believed.Grammar.{Makes, Rule, Forest, nil, leaf, branch, yield_then, yield}
use Rattle.records.specs.Believed.AddressRecords.{AddressRecord, record_by}
use Rattle.grammar.specs.Believed.Language.{start_of}
use Rattle.grammar.specs.Believed.Records.{last_end, record_of, records}
use Rattle.grammar.specs.Believed.Rfc822.{rules_of, Nonterminal, list, slot, address, boxes, box_slot, mailbox, route_addr, addr_spec, route, hops, empty_slots, local_part, domain, sub_domain, phrase, word, rfc822}
use Rattle.grammar.proofs.Any.Records.{yield-append, last-append, Then, plain_then, record_then}
use Rattle.grammar.proofs.Any.Silent.{silent_rules, silent_records}
use Rattle.grammar.specs.Executable.Trees822.{Piece, put, Class, At, LessThan, GreaterThan, Comma, Semicolon, Colon, Dot, Lexeme, Sym, of, Word, atom_word, quoted_word, Phrase, one, more, Sub, atom_sub, literal_sub, Domain, one_sub, more_sub, Local, one_word, more_word, Spec, spec, RouteAddr, no_route, with_route, route_addr_piece, Route, Mailbox, bare, angle, routed, Slot, empty, comma, Listed, idle, full, Address, box, group, word_piece, phrase_piece, sub_piece, domain_piece, local_piece, spec_piece, route_piece, mailbox_piece, box_slot_piece, boxes_piece, address_piece, slot_piece, list_piece, as_forest}
use Rattle.grammar.proofs.Any.Pieces.{From, seen}
use Rattle.grammar.proofs.Rfc733.TreeRecords.{word_lexeme, phrase_start, phrase_end}
use Rattle.grammar.proofs.Rfc822.Derivations.{phrase_is, domain_is, local_is, route_is}
use Rattle.editions.proofs.Follows.{sub_end, end_of_domain, local_start, local_end, named_record, add_spec, add_box, add_box_slot, add_boxes, opens_group, add_address, add_slot, add_list}

-- ---- RFC 822

abbrev silent : Nonterminal → Bool
silent list = false
silent slot = false
silent address = false
silent boxes = false
silent box_slot = false
silent mailbox = false
silent route_addr = false
silent addr_spec = false
silent route = true
silent hops = true
silent empty_slots = true
silent local_part = true
silent domain = true
silent sub_domain = true
silent phrase = true
silent word = true

all_silent : (A : Nonterminal) → pick (silent A) (silent_rules silent (rules_of A)) true ≡ true
all_silent list = refl
all_silent slot = refl
all_silent address = refl
all_silent boxes = refl
all_silent box_slot = refl
all_silent mailbox = refl
all_silent route_addr = refl
all_silent addr_spec = refl
all_silent route = refl
all_silent hops = refl
all_silent empty_slots = refl
all_silent local_part = refl
all_silent domain = refl
all_silent sub_domain = refl
all_silent phrase = refl
all_silent word = refl

silent_put : {A : Nonterminal} {q : Piece Class Nonterminal} → From rfc822 A q → silent A ≡ true → (k : Forest Class Nonterminal) (rs : List AddressRecord) (d p : ℕ) → Then rs (put q k) d p ≡ Then rs k d p
silent_put f a k rs d p = ap (λ (ss : List AddressRecord). rs ++ ss) (silent_records silent rfc822 all_silent f a k d p (length rs))

abbrev Forest822 : Type 0
Forest822 = Forest Class Nonterminal

phrase_then : (p : Phrase) (k : Forest822) (rs : List AddressRecord) (d q : ℕ) → Then rs (put (phrase_piece p) k) d q ≡ Then rs k d q
phrase_then p k rs d q = silent_put (phrase_is p) refl k rs d q

local_then : (l : Local) (k : Forest822) (rs : List AddressRecord) (d q : ℕ) → Then rs (put (local_piece l) k) d q ≡ Then rs k d q
local_then l k rs d q = silent_put (local_is l) refl k rs d q

domain_then : (m : Domain) (k : Forest822) (rs : List AddressRecord) (d q : ℕ) → Then rs (put (domain_piece m) k) d q ≡ Then rs k d q
domain_then m k rs d q = silent_put (domain_is m) refl k rs d q

route_then : (r : Route) (k : Forest822) (rs : List AddressRecord) (d q : ℕ) → Then rs (put (route_piece r) k) d q ≡ Then rs k d q
route_then r k rs d q = silent_put (route_is r) refl k rs d q

-- ---- where parts begin and end

last_word : (q : ℕ) (w : Word) (xs : List Sym) → last_end q (seen (word_piece w) xs) ≡ last_end (word_lexeme w).end xs
last_word q (atom_word t) xs = refl
last_word q (quoted_word t) xs = refl

last_sub : (q : ℕ) (s : Sub) (xs : List Sym) → last_end q (seen (sub_piece s) xs) ≡ last_end (sub_end s) xs
last_sub q (atom_sub t) xs = refl
last_sub q (literal_sub t) xs = refl

start_phrase : (p : Phrase) (q : ℕ) (xs : List Sym) → start_of q (seen (phrase_piece p) xs) ≡ phrase_start p
start_phrase (one (atom_word t)) q xs = refl
start_phrase (one (quoted_word t)) q xs = refl
start_phrase (more p w) q xs = start_phrase p q (seen (word_piece w) xs)

last_phrase : (p : Phrase) (q : ℕ) (xs : List Sym) → last_end q (seen (phrase_piece p) xs) ≡ last_end (phrase_end p) xs
last_phrase (one w) q xs = last_word q w xs
last_phrase (more p w) q xs = last_phrase p q (seen (word_piece w) xs) ∙ last_word (phrase_end p) w xs

start_local : (l : Local) (q : ℕ) (xs : List Sym) → start_of q (seen (local_piece l) xs) ≡ local_start l
start_local (one_word (atom_word t)) q xs = refl
start_local (one_word (quoted_word t)) q xs = refl
start_local (more_word l t w) q xs = start_local l q (of Dot t ∷ seen (word_piece w) xs)

last_local : (l : Local) (q : ℕ) (xs : List Sym) → last_end q (seen (local_piece l) xs) ≡ last_end (local_end l) xs
last_local (one_word w) q xs = last_word q w xs
last_local (more_word l t w) q xs = last_local l q (of Dot t ∷ seen (word_piece w) xs) ∙ last_word t.end w xs

last_domain : (m : Domain) (q : ℕ) (xs : List Sym) → last_end q (seen (domain_piece m) xs) ≡ last_end (end_of_domain m) xs
last_domain (one_sub s) q xs = last_sub q s xs
last_domain (more_sub m t s) q xs = last_domain m q (of Dot t ∷ seen (sub_piece s) xs) ∙ last_sub t.end s xs

-- the last of a forest's symbols and a mark after them
last_mark : (forest : Forest822) (q : ℕ) (c : Class) (u : Lexeme) → last_end q (yield_then forest (of c u ∷ [])) ≡ u.end
last_mark forest q c u = ap (last_end q) (yield-append forest (of c u ∷ [])) ∙ last-append q (yield forest) (of c u) []

same_record : (k d p : ℕ) {s s' e e' n n' m m' : ℕ} → s ≡ s' → e ≡ e' → n ≡ n' → m ≡ m' → record_by k d p s e n m ≡ record_by k d p s' e' n' m'
same_record k d p a b c f = rw (a, b, c, f)

-- ---- the records of each tree

spec_then : (s : Spec) (k : Forest822) (rs : List AddressRecord) (d p : ℕ) → Then rs (put (spec_piece s) k) d p ≡ Then (add_spec s d p rs) k d p
spec_then (spec l t m) k rs d p =
    let parts = (spec_piece (spec l t m)).parts in
    let q = start_of 0 (yield parts) in
    let name = seen (local_piece l) [] in
    let r = same_record 1 d p (start_local l 0 (of At t ∷ seen (domain_piece m) [])) (last_local l q (of At t ∷ seen (domain_piece m) []) ∙ last_domain m t.end []) (start_local l q []) (last_local l q []) in
    let R = rs ++ (record_by 1 d p q (last_end q (yield parts)) (start_of q name) (last_end q name) ∷ []) in
    record_then (spec_piece (spec l t m)).rule _ parts k rs d p refl
    ∙ ap (λ (ss : List AddressRecord). Then ss k d p)
    (local_then l (leaf (of At t) (put (domain_piece m) nil)) R (suc d) (suc (length rs)) ∙ domain_then m nil R (suc d) (suc (length rs)) ∙ append-nil R ∙ ap (λ x. rs ++ (x ∷ [])) r)

-- a rule whose first item is the phrase that is its name; `inner` are the others, and end at `last`
named_then : (kind : ℕ) (r : Rule Class Nonterminal) (m : Makes) (ph : Phrase) (inner : Forest822) (last : ℕ) (k : Forest822) (rs ss : List AddressRecord) (d p : ℕ)
    → r.makes ≡ some m → m.name ≡ some 0 → ((bs : List ℕ) → m.kind bs ≡ kind)
    → last_end (phrase_end ph) (yield_then inner []) ≡ last
    → Then (rs ++ (named_record kind ph last d p ∷ [])) inner (suc d) (suc (length rs)) ≡ ss
    → Then rs (branch r (put (phrase_piece ph) inner) k) d p ≡ Then ss k d p
named_then kind r m ph inner last k rs ss d p a b f l h =
    let parts : Forest822 = put (phrase_piece ph) inner in
    let q = start_of 0 (yield parts) in
    let name = seen (phrase_piece ph) [] in
    let g : record_of m d p parts ≡ record_by kind d p q (last_end q (yield parts)) (start_of q name) (last_end q name) = rw (b, f) in
    let x = g ∙ same_record kind d p (start_phrase ph 0 (yield_then inner [])) (last_phrase ph q (yield_then inner []) ∙ l) (start_phrase ph q []) (last_phrase ph q []) in
    record_then r m parts k rs d p a
    ∙ ap (λ (ss : List AddressRecord). Then ss k d p)
    (ap (λ z. Then (rs ++ (z ∷ [])) parts (suc d) (suc (length rs))) x
    ∙ phrase_then ph inner (rs ++ (named_record kind ph last d p ∷ [])) (suc d) (suc (length rs)) ∙ h)

abbrev spec_in : RouteAddr → Spec
spec_in (no_route t s u) = s
spec_in (with_route t r s u) = s

-- the record in angle brackets
route_addr_then : (r : RouteAddr) (rs : List AddressRecord) (d p : ℕ) → Then rs (put (route_addr_piece r) nil) d p ≡ add_spec (spec_in r) d p rs
route_addr_then (no_route t s u) rs d p =
    plain_then (route_addr_piece (no_route t s u)).rule (leaf (of LessThan t) (put (spec_piece s) (leaf (of GreaterThan u) nil))) nil rs d p refl
    ∙ append-nil _ ∙ spec_then s (leaf (of GreaterThan u) nil) rs d p ∙ append-nil (add_spec s d p rs)
route_addr_then (with_route t r s u) rs d p =
    plain_then (route_addr_piece (with_route t r s u)).rule (leaf (of LessThan t) (put (route_piece r) (put (spec_piece s) (leaf (of GreaterThan u) nil)))) nil rs d p refl
    ∙ append-nil _ ∙ route_then r (put (spec_piece s) (leaf (of GreaterThan u) nil)) rs d p ∙ spec_then s (leaf (of GreaterThan u) nil) rs d p ∙ append-nil (add_spec s d p rs)

box_then : (b : Mailbox) (k : Forest822) (rs : List AddressRecord) (d p : ℕ) → Then rs (put (mailbox_piece b) k) d p ≡ Then (add_box b d p rs) k d p
box_then (bare s) k rs d p = plain_then (mailbox_piece (bare s)).rule (put (spec_piece s) nil) k rs d p refl ∙ ap (λ (ss : List AddressRecord). Then ss k d p) (spec_then s nil rs d p ∙ append-nil (add_spec s d p rs))
box_then (angle q t s u) k rs d p =
    named_then 2 (mailbox_piece (angle q t s u)).rule _ q (put (route_addr_piece (no_route t s u)) nil) u.end k rs (add_box (angle q t s u) d p rs) d p refl refl (λ bs. refl)
    (last_mark (put (spec_piece s) nil) t.end GreaterThan u) (route_addr_then (no_route t s u) (rs ++ (named_record 2 q u.end d p ∷ [])) (suc d) (suc (length rs)))
box_then (routed q t r s u) k rs d p =
    named_then 2 (mailbox_piece (routed q t r s u)).rule _ q (put (route_addr_piece (with_route t r s u)) nil) u.end k rs (add_box (routed q t r s u) d p rs) d p refl refl (λ bs. refl)
    (last_mark (put (route_piece r) (put (spec_piece s) nil)) t.end GreaterThan u) (route_addr_then (with_route t r s u) (rs ++ (named_record 2 q u.end d p ∷ [])) (suc d) (suc (length rs)))

mutual
  box_slot_then : (s : Slot Mailbox) (k : Forest822) (rs : List AddressRecord) (p : ℕ) → Then rs (put (box_slot_piece s) k) 1 p ≡ Then (add_box_slot s p rs) k 1 p
  box_slot_then empty k rs p = plain_then (box_slot_piece empty).rule nil k rs 1 p refl ∙ ap (λ (ss : List AddressRecord). Then ss k 1 p) (append-nil rs)
  box_slot_then (comma l t) k rs p =
      plain_then (box_slot_piece (comma l t)).rule (put (boxes_piece l) (leaf (of Comma t) nil)) k rs 1 p refl
      ∙ ap (λ (ss : List AddressRecord). Then ss k 1 p) (boxes_then l (leaf (of Comma t) nil) rs p ∙ append-nil (add_boxes l p rs))

  boxes_then : (l : Listed Mailbox) (k : Forest822) (rs : List AddressRecord) (p : ℕ) → Then rs (put (boxes_piece l) k) 1 p ≡ Then (add_boxes l p rs) k 1 p
  boxes_then (idle s) k rs p =
      plain_then (boxes_piece (idle s)).rule (put (box_slot_piece s) nil) k rs 1 p refl ∙ ap (λ (ss : List AddressRecord). Then ss k 1 p) (box_slot_then s nil rs p ∙ append-nil (add_box_slot s p rs))
  boxes_then (full s b) k rs p =
      plain_then (boxes_piece (full s b)).rule (put (box_slot_piece s) (put (mailbox_piece b) nil)) k rs 1 p refl
      ∙ ap (λ (ss : List AddressRecord). Then ss k 1 p)
      (box_slot_then s (put (mailbox_piece b) nil) rs p ∙ box_then b nil (add_box_slot s p rs) 1 p ∙ append-nil (add_box b 1 p (add_box_slot s p rs)))

address_then : (a : Address) (k : Forest822) (rs : List AddressRecord) → Then rs (put (address_piece a) k) 0 0 ≡ Then (add_address a rs) k 0 0
address_then (box b) k rs = plain_then (address_piece (box b)).rule (put (mailbox_piece b) nil) k rs 0 0 refl ∙ ap (λ (ss : List AddressRecord). Then ss k 0 0) (box_then b nil rs 0 0 ∙ append-nil (add_box b 0 0 rs))
address_then (group q t l u) k rs =
    named_then 3 (address_piece (group q t l u)).rule _ q (leaf (of Colon t) (put (boxes_piece l) (leaf (of Semicolon u) nil))) u.end k rs (add_address (group q t l u) rs) 0 0 refl refl (λ bs. refl)
    (last_mark (put (boxes_piece l) nil) t.end Semicolon u)
    (boxes_then l (leaf (of Semicolon u) nil) (opens_group q u.end rs) (suc (length rs)) ∙ append-nil (add_address (group q t l u) rs))

mutual
  slot_then : (r : Slot Address) (k : Forest822) (rs : List AddressRecord) → Then rs (put (slot_piece r) k) 0 0 ≡ Then (add_slot r rs) k 0 0
  slot_then empty k rs = plain_then (slot_piece empty).rule nil k rs 0 0 refl ∙ ap (λ (ss : List AddressRecord). Then ss k 0 0) (append-nil rs)
  slot_then (comma l t) k rs =
      plain_then (slot_piece (comma l t)).rule (put (list_piece l) (leaf (of Comma t) nil)) k rs 0 0 refl
      ∙ ap (λ (ss : List AddressRecord). Then ss k 0 0) (list_then l (leaf (of Comma t) nil) rs ∙ append-nil (add_list l rs))

  list_then : (l : Listed Address) (k : Forest822) (rs : List AddressRecord) → Then rs (put (list_piece l) k) 0 0 ≡ Then (add_list l rs) k 0 0
  list_then (idle r) k rs =
      plain_then (list_piece (idle r)).rule (put (slot_piece r) nil) k rs 0 0 refl ∙ ap (λ (ss : List AddressRecord). Then ss k 0 0) (slot_then r nil rs ∙ append-nil (add_slot r rs))
  list_then (full r a) k rs =
      plain_then (list_piece (full r a)).rule (put (slot_piece r) (put (address_piece a) nil)) k rs 0 0 refl
      ∙ ap (λ (ss : List AddressRecord). Then ss k 0 0)
      (slot_then r (put (address_piece a) nil) rs ∙ address_then a nil (add_slot r rs) ∙ append-nil (add_address a (add_slot r rs)))

-- the records of a list are those of its derivation
pub list_records_lem : (l : Listed Address) → records (as_forest l) ≡ add_list l []
list_records_lem l = list_then l nil [] ∙ append-nil (add_list l [])
