-- The machine of RFC 822 reads each derivation as itself, and every state can be brought to an end. Assumes nothing.
use Prim.Native.Nat.{ℕ}
use mathlib.Core.Path.{◌≡◌, refl, ap, ◌∙◌}
use mathlib.Core.List.{List, [], ◌∷◌}
use mathlib.Core.Option.{some}
use Rattle.grammar.specs.Believed.Grammar.{Forest, yield}
use Rattle.grammar.specs.Believed.Language.{accepted}
use Rattle.grammar.specs.Believed.Rfc733.{same_class}
use Rattle.grammar.specs.Believed.Rfc822.{Nonterminal}
use Rattle.grammar.specs.Executable.Machines.{go, verdict_by, at_end, Arrow}
use Rattle.grammar.proofs.Any.Machine.{Machine}
use Rattle.grammar.proofs.Any.Pieces.{seen}
use Rattle.grammar.proofs.Any.Arrows as any
use Rattle.grammar.proofs.Symbols.{same_class_lem, nowhere}
use Rattle.grammar.specs.Executable.Trees822.{Class, Atom, At, LessThan, GreaterThan, Comma, Semicolon, Colon, Dot, Lexeme, Sym, of, Word, atom_word, quoted_word, Phrase, one, more, Sub, atom_sub, literal_sub, Domain, one_sub, more_sub, Local, one_word, more_word, Spec, spec, Empties, no_empty, one_empty, Hops, first_hop, next_hop, Route, direct, trailing, Mailbox, bare, angle, routed, Slot, empty, comma, Listed, idle, full, Address, box, group, word_piece, phrase_piece, sub_piece, domain_piece, local_piece, spec_piece, empties_piece, hops_piece, route_piece, mailbox_piece, box_slot_piece, boxes_piece, address_piece, slot_piece, list_piece, as_forest}
use Rattle.grammar.proofs.Rfc822.Derivations.{DerivedList, tree_derived}
use Rattle.grammar.specs.Executable.Machine822.{Here, in_list, in_group, Open, less, In, bare_in, angle_in, route_in, first_at, next_at, Behind, of_spec, of_hop, State, place, word, phrase, local, local_dot, at, domain, domain_dot, opened, hop, route, boxed, closed, words, subs, arrows, step, run, finish, start, read}
use Rattle.grammar.proofs.Rfc822.Machine.{state_then, kept, gives}

-- ---- where reading comes to after a tree

abbrev done_phrase : Here → Phrase → State
done_phrase h (one w) = word h w
done_phrase h (more p w) = phrase h (more p w)

abbrev begin_local : In → State
begin_local (bare_in h) = place h
begin_local (angle_in o) = opened o
begin_local (route_in o r) = route o r

abbrev done_local : In → Local → State
done_local (bare_in h) (one_word w) = word h w
done_local (bare_in h) (more_word l t w) = local (bare_in h) (more_word l t w)
done_local (angle_in o) l = local (angle_in o) l
done_local (route_in o r) l = local (route_in o r) l

abbrev done_spec : In → Spec → State
done_spec c (spec l t m) = domain (of_spec c l t) m

abbrev done_empties : Open → Empties → State
done_empties o no_empty = opened o
done_empties o (one_empty g t) = hop o (first_at (one_empty g t))

abbrev done_hops : Open → Hops → State
done_hops o (first_hop g t m) = domain (of_hop o (first_at g) t) m
done_hops o (next_hop h u g t m) = domain (of_hop o (next_at h u g) t) m

abbrev done_box : Here → Mailbox → State
done_box h (bare s) = done_spec (bare_in h) s
done_box h (angle p t s u) = boxed h (angle p t s u)
done_box h (routed p t r s u) = boxed h (routed p t r s u)

abbrev done_boxes : Slot Address → Phrase → Lexeme → Listed Mailbox → State
done_boxes r p c (idle s) = place (in_group r p c s)
done_boxes r p c (full s b) = done_box (in_group r p c s) b

abbrev done_address : Slot Address → Address → State
done_address r (box b) = done_box (in_list r) b
done_address r (group p t l u) = closed r (group p t l u)

abbrev done_list : Listed Address → State
done_list (idle r) = place (in_list r)
done_list (full r a) = done_address r a

-- ---- words and parts of a domain

word_on : (n : ℕ) (s : State) (f : Word → State) (others : List (Arrow Class State)) (w : Word) (xs : List Sym) → arrows s ≡ words f others → run n s (seen (word_piece w) xs) ≡ run n (f w) xs
word_on n s f others (atom_word t) xs e = rw e
word_on n s f others (quoted_word t) xs e = rw e

sub_on : (n : ℕ) (s : State) (f : Sub → State) (b : Sub) (xs : List Sym) → arrows s ≡ subs f → run n s (seen (sub_piece b) xs) ≡ run n (f b) xs
sub_on n s f (atom_sub t) xs e = rw e
sub_on n s f (literal_sub t) xs e = rw e

word_first : (n : ℕ) (h : Here) (w : Word) (xs : List Sym) → run n (place h) (seen (word_piece w) xs) ≡ run n (word h w) xs
word_first n (in_list r) w xs = word_on n (place (in_list r)) (λ v. word (in_list r) v) _ w xs refl
word_first n (in_group r p c s) w xs = word_on n (place (in_group r p c s)) (λ v. word (in_group r p c s) v) _ w xs refl

-- ---- phrases

word_next_lem : (n : ℕ) (h : Here) (p : Phrase) (w : Word) (xs : List Sym) → run n (done_phrase h p) (seen (word_piece w) xs) ≡ run n (phrase h (more p w)) xs
word_next_lem n h (one v) w xs = word_on n (word h v) (λ u. phrase h (more (one v) u)) _ w xs refl
word_next_lem n h (more p v) w xs = word_on n (phrase h (more p v)) (λ u. phrase h (more (more p v) u)) _ w xs refl

run_phrase : (p : Phrase) (n : ℕ) (h : Here) (xs : List Sym) → run n (place h) (seen (phrase_piece p) xs) ≡ run n (done_phrase h p) xs
run_phrase (one w) n h xs = word_first n h w xs
run_phrase (more p w) n h xs = run_phrase p n h _ ∙ word_next_lem n h p w xs

less_on : (n : ℕ) (h : Here) (p : Phrase) (t : Lexeme) (xs : List Sym) → run n (done_phrase h p) (of LessThan t ∷ xs) ≡ run n (opened (less h p t)) xs
less_on n (in_list r) (one w) t xs = refl
less_on n (in_list r) (more p w) t xs = refl
less_on n (in_group r q c s) (one w) t xs = refl
less_on n (in_group r q c s) (more p w) t xs = refl

colon_on : (n : ℕ) (r : Slot Address) (p : Phrase) (t : Lexeme) (xs : List Sym) → run n (done_phrase (in_list r) p) (of Colon t ∷ xs) ≡ run n (place (in_group r p t empty)) xs
colon_on n r (one w) t xs = refl
colon_on n r (more p w) t xs = refl

-- ---- local-part and domain

dot_on : (n : ℕ) (c : In) (l : Local) (t : Lexeme) (xs : List Sym) → run n (done_local c l) (of Dot t ∷ xs) ≡ run n (local_dot c l t) xs
dot_on n (bare_in h) (one_word w) t xs = refl
dot_on n (bare_in h) (more_word l u w) t xs = refl
dot_on n (angle_in o) l t xs = refl
dot_on n (route_in o r) l t xs = refl

at_on : (n : ℕ) (c : In) (l : Local) (t : Lexeme) (xs : List Sym) → run n (done_local c l) (of At t ∷ xs) ≡ run n (at (of_spec c l t)) xs
at_on n (bare_in h) (one_word w) t xs = refl
at_on n (bare_in h) (more_word l u w) t xs = refl
at_on n (angle_in o) l t xs = refl
at_on n (route_in o r) l t xs = refl

done_more : (c : In) (l : Local) (t : Lexeme) (w : Word) → local c (more_word l t w) ≡ done_local c (more_word l t w)
done_more (bare_in h) l t w = refl
done_more (angle_in o) l t w = refl
done_more (route_in o r) l t w = refl

local_first : (n : ℕ) (c : In) (w : Word) (xs : List Sym) → run n (begin_local c) (seen (word_piece w) xs) ≡ run n (done_local c (one_word w)) xs
local_first n (bare_in h) w xs = word_first n h w xs
local_first n (angle_in o) w xs = word_on n (opened o) (λ u. local (angle_in o) (one_word u)) _ w xs refl
local_first n (route_in o r) w xs = word_on n (route o r) (λ u. local (route_in o r) (one_word u)) _ w xs refl

run_local : (l : Local) (n : ℕ) (c : In) (xs : List Sym) → run n (begin_local c) (seen (local_piece l) xs) ≡ run n (done_local c l) xs
run_local (one_word w) n c xs = local_first n c w xs
run_local (more_word l t w) n c xs = run_local l n c _ ∙ dot_on n c l t (seen (word_piece w) xs) ∙ word_on n (local_dot c l t) (λ u. local c (more_word l t u)) _ w xs refl ∙ ap (λ s. run n s xs) (done_more c l t w)

run_domain : (m : Domain) (n : ℕ) (d : Behind) (xs : List Sym) → run n (at d) (seen (domain_piece m) xs) ≡ run n (domain d m) xs
run_domain (one_sub b) n d xs = sub_on n (at d) (λ e. domain d (one_sub e)) b xs refl
run_domain (more_sub m t b) n d xs = run_domain m n d _ ∙ sub_on n (domain_dot d m t) (λ e. domain d (more_sub m t e)) b xs refl

run_spec : (s : Spec) (n : ℕ) (c : In) (xs : List Sym) → run n (begin_local c) (seen (spec_piece s) xs) ≡ run n (done_spec c s) xs
run_spec (spec l t m) n c xs = run_local l n c _ ∙ at_on n c l t (seen (domain_piece m) xs) ∙ run_domain m n (of_spec c l t) xs

-- ---- routes

empty_on : (n : ℕ) (o : Open) (g : Empties) (t : Lexeme) (xs : List Sym) → run n (done_empties o g) (of Comma t ∷ xs) ≡ run n (hop o (first_at (one_empty g t))) xs
empty_on n o no_empty t xs = refl
empty_on n o (one_empty g u) t xs = refl

run_empties : (g : Empties) (n : ℕ) (o : Open) (xs : List Sym) → run n (opened o) (seen (empties_piece g) xs) ≡ run n (done_empties o g) xs
run_empties no_empty n o xs = refl
run_empties (one_empty g t) n o xs = run_empties g n o _ ∙ empty_on n o g t xs

run_gap : (g : Empties) (n : ℕ) (o : Open) (h : Hops) (u : Lexeme) (xs : List Sym) → run n (hop o (next_at h u no_empty)) (seen (empties_piece g) xs) ≡ run n (hop o (next_at h u g)) xs
run_gap no_empty n o h u xs = refl
run_gap (one_empty g t) n o h u xs = run_gap g n o h u _

first_at_lem : (n : ℕ) (o : Open) (g : Empties) (t : Lexeme) (xs : List Sym) → run n (done_empties o g) (of At t ∷ xs) ≡ run n (at (of_hop o (first_at g) t)) xs
first_at_lem n o no_empty t xs = refl
first_at_lem n o (one_empty g u) t xs = refl

hops_comma : (n : ℕ) (o : Open) (h : Hops) (u : Lexeme) (xs : List Sym) → run n (done_hops o h) (of Comma u ∷ xs) ≡ run n (hop o (next_at h u no_empty)) xs
hops_comma n o (first_hop g t m) u xs = refl
hops_comma n o (next_hop h v g t m) u xs = refl

hops_colon : (n : ℕ) (o : Open) (h : Hops) (u : Lexeme) (xs : List Sym) → run n (done_hops o h) (of Colon u ∷ xs) ≡ run n (route o (direct h u)) xs
hops_colon n o (first_hop g t m) u xs = refl
hops_colon n o (next_hop h v g t m) u xs = refl

run_hops : (h : Hops) (n : ℕ) (o : Open) (xs : List Sym) → run n (opened o) (seen (hops_piece h) xs) ≡ run n (done_hops o h) xs
run_hops (first_hop g t m) n o xs = run_empties g n o _ ∙ first_at_lem n o g t (seen (domain_piece m) xs) ∙ run_domain m n (of_hop o (first_at g) t) xs
run_hops (next_hop h u g t m) n o xs = run_hops h n o _ ∙ hops_comma n o h u (seen (empties_piece g) (of At t ∷ seen (domain_piece m) xs)) ∙ run_gap g n o h u (of At t ∷ seen (domain_piece m) xs) ∙ run_domain m n (of_hop o (next_at h u g) t) xs

run_route : (r : Route) (n : ℕ) (o : Open) (xs : List Sym) → run n (opened o) (seen (route_piece r) xs) ≡ run n (route o r) xs
run_route (direct h t) n o xs = run_hops h n o _ ∙ hops_colon n o h t xs
run_route (trailing h u g t) n o xs = run_hops h n o _ ∙ hops_comma n o h u (seen (empties_piece g) (of Colon t ∷ xs)) ∙ run_gap g n o h u (of Colon t ∷ xs)

-- ---- mailboxes

angle_ends : (n : ℕ) (h : Here) (p : Phrase) (t : Lexeme) (s : Spec) (u : Lexeme) (xs : List Sym) → run n (done_spec (angle_in (less h p t)) s) (of GreaterThan u ∷ xs) ≡ run n (boxed h (angle p t s u)) xs
angle_ends n h p t (spec l v m) u xs = refl

route_ends : (n : ℕ) (h : Here) (p : Phrase) (t : Lexeme) (r : Route) (s : Spec) (u : Lexeme) (xs : List Sym)
    → run n (done_spec (route_in (less h p t) r) s) (of GreaterThan u ∷ xs) ≡ run n (boxed h (routed p t r s u)) xs
route_ends n h p t r (spec l v m) u xs = refl

run_box : (b : Mailbox) (n : ℕ) (h : Here) (xs : List Sym) → run n (place h) (seen (mailbox_piece b) xs) ≡ run n (done_box h b) xs
run_box (bare s) n h xs = run_spec s n (bare_in h) xs
run_box (angle p t s u) n h xs = run_phrase p n h _ ∙ less_on n h p t (seen (spec_piece s) (of GreaterThan u ∷ xs)) ∙ run_spec s n (angle_in (less h p t)) (of GreaterThan u ∷ xs) ∙ angle_ends n h p t s u xs
run_box (routed p t r s u) n h xs =
    run_phrase p n h _ ∙ less_on n h p t (seen (route_piece r) (seen (spec_piece s) (of GreaterThan u ∷ xs)))
    ∙ run_route r n (less h p t) (seen (spec_piece s) (of GreaterThan u ∷ xs)) ∙ run_spec s n (route_in (less h p t) r) (of GreaterThan u ∷ xs) ∙ route_ends n h p t r s u xs

-- ---- groups

boxes_comma : (n : ℕ) (r : Slot Address) (p : Phrase) (c : Lexeme) (l : Listed Mailbox) (t : Lexeme) (xs : List Sym)
    → run n (done_boxes r p c l) (of Comma t ∷ xs) ≡ run n (place (in_group r p c (comma l t))) xs
boxes_comma n r p c (idle s) t xs = refl
boxes_comma n r p c (full s (bare (spec l v m))) t xs = refl
boxes_comma n r p c (full s (angle q v e u)) t xs = refl
boxes_comma n r p c (full s (routed q v w e u)) t xs = refl

boxes_end : (n : ℕ) (r : Slot Address) (p : Phrase) (c : Lexeme) (l : Listed Mailbox) (t : Lexeme) (xs : List Sym)
    → run n (done_boxes r p c l) (of Semicolon t ∷ xs) ≡ run n (closed r (group p c l t)) xs
boxes_end n r p c (idle s) t xs = refl
boxes_end n r p c (full s (bare (spec l v m))) t xs = refl
boxes_end n r p c (full s (angle q v e u)) t xs = refl
boxes_end n r p c (full s (routed q v w e u)) t xs = refl

mutual
  run_box_place : (s : Slot Mailbox) (n : ℕ) (r : Slot Address) (p : Phrase) (c : Lexeme) (xs : List Sym)
      → run n (place (in_group r p c empty)) (seen (box_slot_piece s) xs) ≡ run n (place (in_group r p c s)) xs
  run_box_place empty n r p c xs = refl
  run_box_place (comma l t) n r p c xs = run_boxes l n r p c (of Comma t ∷ xs) ∙ boxes_comma n r p c l t xs

  run_boxes : (l : Listed Mailbox) (n : ℕ) (r : Slot Address) (p : Phrase) (c : Lexeme) (xs : List Sym)
      → run n (place (in_group r p c empty)) (seen (boxes_piece l) xs) ≡ run n (done_boxes r p c l) xs
  run_boxes (idle s) n r p c xs = run_box_place s n r p c xs
  run_boxes (full s b) n r p c xs = run_box_place s n r p c (seen (mailbox_piece b) xs) ∙ run_box b n (in_group r p c s) xs

-- ---- lists

run_address : (a : Address) (n : ℕ) (r : Slot Address) (xs : List Sym) → run n (place (in_list r)) (seen (address_piece a) xs) ≡ run n (done_address r a) xs
run_address (box b) n r xs = run_box b n (in_list r) xs
run_address (group p t l u) n r xs = run_phrase p n (in_list r) _ ∙ colon_on n r p t (seen (boxes_piece l) (of Semicolon u ∷ xs)) ∙ run_boxes l n r p t (of Semicolon u ∷ xs) ∙ boxes_end n r p t l u xs

list_comma : (n : ℕ) (l : Listed Address) (t : Lexeme) (xs : List Sym) → run n (done_list l) (of Comma t ∷ xs) ≡ run n (place (in_list (comma l t))) xs
list_comma n (idle r) t xs = refl
list_comma n (full r (box (bare (spec l v m)))) t xs = refl
list_comma n (full r (box (angle q v e u))) t xs = refl
list_comma n (full r (box (routed q v w e u))) t xs = refl
list_comma n (full r (group p c l u)) t xs = refl

mutual
  run_place : (r : Slot Address) (n : ℕ) (xs : List Sym) → run n start (seen (slot_piece r) xs) ≡ run n (place (in_list r)) xs
  run_place empty n xs = refl
  run_place (comma l t) n xs = run_list l n (of Comma t ∷ xs) ∙ list_comma n l t xs

  run_list : (l : Listed Address) (n : ℕ) (xs : List Sym) → run n start (seen (list_piece l) xs) ≡ run n (done_list l) xs
  run_list (idle r) n xs = run_place r n xs
  run_list (full r a) n xs = run_place r n (seen (address_piece a) xs) ∙ run_address a n r xs

list_ends : (l : Listed Address) → finish (done_list l) ≡ some (as_forest l)
list_ends (idle r) = refl
list_ends (full r (box (bare (spec l v m)))) = refl
list_ends (full r (box (angle q v e u))) = refl
list_ends (full r (box (routed q v w e u))) = refl
list_ends (full r (group p c l u)) = refl

-- what the rules derive is read, as that very derivation
pub complete_read : (n : ℕ) (k : Forest Class Nonterminal) (xs : List Sym) → DerivedList k xs → read n xs ≡ accepted k
complete_read n k xs d =
    let (l, e, y) = tree_derived d in
    let a : read n (yield (as_forest l)) ≡ accepted (as_forest l) = ap (verdict_by finish) (run_list l n []) ∙ ap at_end (list_ends l) in
    rw e (rw y at a)

-- ---- every state can be brought to an end

abbrev Ending : ℕ → State → Type 0
Ending n s = (ws : List Sym) × (k : Forest Class Nonterminal) × (verdict_by finish (run n s ws) ≡ accepted k)

-- one symbol before an ending
via : (n : ℕ) (s s' : State) (c : Class) → step n s (of c nowhere) ≡ go s' → Ending n s' → Ending n s
via n s s' c e f = (of c nowhere ∷ f.0, f.1, rw e f.2)

ending_closed : (n : ℕ) (r : Slot Address) (a : Address) → Ending n (closed r a)
ending_closed n r a = ([], as_forest (full r a), refl)

ending_box : (n : ℕ) (h : Here) (b : Mailbox) → Ending n (boxed h b)
ending_box n (in_list r) b = ([], as_forest (full r (box b)), refl)
ending_box n (in_group r p c s) b = via n (boxed (in_group r p c s) b) _ Semicolon refl (ending_closed n r _)

ending_spec : (n : ℕ) (c : In) (l : Local) (t : Lexeme) (m : Domain) → Ending n (domain (of_spec c l t) m)
ending_spec n (bare_in (in_list r)) l t m = ([], as_forest (full r (box (bare (spec l t m)))), refl)
ending_spec n (bare_in (in_group r p c s)) l t m = via n (domain (of_spec (bare_in (in_group r p c s)) l t) m) _ Semicolon refl (ending_closed n r _)
ending_spec n (angle_in o) l t m = via n (domain (of_spec (angle_in o) l t) m) _ GreaterThan refl (ending_box n _ _)
ending_spec n (route_in o r) l t m = via n (domain (of_spec (route_in o r) l t) m) _ GreaterThan refl (ending_box n _ _)

ending_local : (n : ℕ) (c : In) (l : Local) → Ending n (local c l)
ending_local n c l = via n (local c l) _ At refl (via n (at (of_spec c l nowhere)) _ Atom refl (ending_spec n c l nowhere _))

ending_route : (n : ℕ) (o : Open) (r : Route) → Ending n (route o r)
ending_route n o r = via n (route o r) _ Atom refl (ending_local n (route_in o r) _)

ending_domain : (n : ℕ) (d : Behind) (m : Domain) → Ending n (domain d m)
ending_domain n (of_spec c l t) m = ending_spec n c l t m
ending_domain n (of_hop o f t) m = via n (domain (of_hop o f t) m) _ Colon refl (ending_route n o _)

ending_at : (n : ℕ) (d : Behind) → Ending n (at d)
ending_at n d = via n (at d) _ Atom refl (ending_domain n d _)

ending_opened : (n : ℕ) (o : Open) → Ending n (opened o)
ending_opened n o = via n (opened o) _ Atom refl (ending_local n (angle_in o) _)

ending_phrase : (n : ℕ) (h : Here) (p : Phrase) → Ending n (phrase h p)
ending_phrase n (in_list r) p = via n (phrase (in_list r) p) _ LessThan refl (ending_opened n _)
ending_phrase n (in_group r q c s) p = via n (phrase (in_group r q c s) p) _ LessThan refl (ending_opened n _)

pub ending : (n : ℕ) (s : State) → Ending n s
ending n (place (in_list r)) = ([], as_forest (idle r), refl)
ending n (place (in_group r p c s)) = via n (place (in_group r p c s)) _ Semicolon refl (ending_closed n r _)
ending n (word h w) = via n (word h w) _ Atom refl (ending_phrase n h _)
ending n (phrase h p) = ending_phrase n h p
ending n (local c l) = ending_local n c l
ending n (local_dot c l t) = via n (local_dot c l t) _ Atom refl (ending_local n c _)
ending n (at d) = ending_at n d
ending n (domain d m) = ending_domain n d m
ending n (domain_dot d m t) = via n (domain_dot d m t) _ Atom refl (ending_domain n d _)
ending n (opened o) = ending_opened n o
ending n (hop o (first_at g)) = via n (hop o (first_at g)) _ At refl (ending_at n _)
ending n (hop o (next_at h u g)) = via n (hop o (next_at h u g)) _ At refl (ending_at n _)
ending n (route o r) = ending_route n o r
ending n (boxed h b) = ending_box n h b
ending n (closed r a) = ending_closed n r a

-- ---- the machine of RFC 822

pub machine : Machine DerivedList (λ k. 0) step finish start
machine = any.machine same_class same_class_lem arrows state_then DerivedList finish start kept (λ xs. refl) gives complete_read ending
