-- The loop follows the machine of RFC 822: what it keeps in each state, each arrow, and each stop. Assumes nothing.
use Prim.Native.Nat.{ℕ, zero, suc, ◌+◌, ◌<◌, ◌≤◌}
use native.Mathlib.Omega.{arith}
use mathlib.Core.Path.{◌≡◌, refl, sym, ap, ◌∙◌}
use mathlib.Core.Bool.{Bool, true, false}
use mathlib.Core.List.{List, [], ◌∷◌, ◌++◌}
use mathlib.Core.Option.{none, some}
use mathlib.Core.Option as maybe
use Rattle.std.specs.Prelude.{Option, Some, None}
use lib.ListN.{length, length-append}
use Rattle.octets.specs.Believed.Choice.{pick}
use Rattle.records.specs.Believed.AddressRecords.{AddressRecord, record_by}
use Rattle.records.specs.Ties.Ends.{with_end, set_end}
use Rattle.grammar.specs.Believed.Language.{unfit}
use Rattle.grammar.specs.Believed.Rfc733.{same_class}
use Rattle.grammar.proofs.Symbols.{same_class_lem}
use Rattle.grammar.specs.Executable.Machines.{Result, ended, stopped, after, Arrow, look, taken}
use Rattle.grammar.proofs.Rfc733.TreeRecords.{word_lexeme, phrase_start, phrase_end}
use Rattle.grammar.specs.Executable.Trees822.{Class, Atom, Quoted, At, LessThan, GreaterThan, Comma, Semicolon, Colon, Stray, Dot, Literal, Lexeme, Sym, of, Phrase, Sub, atom_sub, literal_sub, Domain, one_sub, more_sub, Local, one_word, more_word, Spec, spec, Mailbox, bare, angle, routed, Slot, empty, comma, Listed, idle, full, Address, box, group}
use Rattle.grammar.specs.Executable.Machine822.{Here, in_list, in_group, Open, less, In, bare_in, angle_in, route_in, Hop, first_at, next_at, Behind, of_spec, of_hop, State, place, word, phrase, local, local_dot, at, domain, domain_dot, opened, hop, route, boxed, closed, arrows, run}
use Rattle.editions.specs.declared.places.Place.{Place}
use Rattle.editions.specs.declared.places.Place.TheVariants as places
use Rattle.editions.specs.Ties.Places.{Walked, walked_by, one_if, parent_number, parent_of, last_number, close_record, step_from, WalkEnd, ends, stops, walk_from}

-- ---- what the numbers are in each state of the machine

abbrev pub sub_end : Sub → ℕ
sub_end (atom_sub t) = t.end
sub_end (literal_sub t) = t.end

abbrev pub end_of_domain : Domain → ℕ
end_of_domain (one_sub s) = sub_end s
end_of_domain (more_sub m t s) = sub_end s

abbrev pub local_start : Local → ℕ
local_start (one_word w) = (word_lexeme w).start
local_start (more_word l t w) = local_start l

abbrev pub local_end : Local → ℕ
local_end (one_word w) = (word_lexeme w).end
local_end (more_word l t w) = (word_lexeme w).end

-- a mailbox's record with an end
abbrev pub spec_record : Local → ℕ → ℕ → ℕ → AddressRecord
spec_record l e depth parent = record_by 1 depth parent (local_start l) e (local_start l) (local_end l)

abbrev pub named_record : ℕ → Phrase → ℕ → ℕ → ℕ → AddressRecord
named_record kind p e depth parent = record_by kind depth parent (phrase_start p) e (phrase_start p) (phrase_end p)

-- the records of a tree after others
abbrev pub add_spec : Spec → ℕ → ℕ → List AddressRecord → List AddressRecord
add_spec (spec l t m) depth parent rs = rs ++ (spec_record l (end_of_domain m) depth parent ∷ [])

abbrev pub add_box : Mailbox → ℕ → ℕ → List AddressRecord → List AddressRecord
add_box (bare s) depth parent rs = add_spec s depth parent rs
add_box (angle p t s u) depth parent rs = add_spec s (suc depth) (suc (length rs)) (rs ++ (named_record 2 p u.end depth parent ∷ []))
add_box (routed p t r s u) depth parent rs = add_spec s (suc depth) (suc (length rs)) (rs ++ (named_record 2 p u.end depth parent ∷ []))

abbrev mutual
  pub add_box_slot : Slot Mailbox → ℕ → List AddressRecord → List AddressRecord
  add_box_slot empty parent rs = rs
  add_box_slot (comma l t) parent rs = add_boxes l parent rs

  pub add_boxes : Listed Mailbox → ℕ → List AddressRecord → List AddressRecord
  add_boxes (idle s) parent rs = add_box_slot s parent rs
  add_boxes (full s b) parent rs = add_box b 1 parent (add_box_slot s parent rs)

-- a group that ends, or has come to, a position
abbrev pub opens_group : Phrase → ℕ → List AddressRecord → List AddressRecord
opens_group p e rs = rs ++ (named_record 3 p e 0 0 ∷ [])

abbrev pub add_address : Address → List AddressRecord → List AddressRecord
add_address (box b) rs = add_box b 0 0 rs
add_address (group p t l u) rs = add_boxes l (suc (length rs)) (opens_group p u.end rs)

abbrev mutual
  pub add_slot : Slot Address → List AddressRecord → List AddressRecord
  add_slot empty rs = rs
  add_slot (comma l t) rs = add_list l rs

  pub add_list : Listed Address → List AddressRecord → List AddressRecord
  add_list (idle r) rs = add_slot r rs
  add_list (full r a) rs = add_address a (add_slot r rs)

abbrev placed : Slot Address → List AddressRecord
placed r = add_slot r []

abbrev pub group_of : Here → Option ℕ
group_of (in_list r) = None
group_of (in_group r p t s) = Some (length (placed r))

abbrev pub group_number : Here → ℕ
group_number h = parent_number (group_of h)

abbrev pub here_records : Here → List AddressRecord
here_records (in_list r) = placed r
here_records (in_group r p t s) = add_box_slot s (suc (length (placed r))) (opens_group p t.end (placed r))

abbrev depth_here : Here → ℕ
depth_here h = one_if (group_of h)

abbrev here_of : Open → Here
here_of (less h p t) = h

abbrev pub open_records : Open → List AddressRecord
open_records (less h p t) = here_records h ++ (named_record 2 p t.end (depth_here h) (group_number h) ∷ [])

abbrev angle_of : Open → Option ℕ
angle_of o = Some (length (here_records (here_of o)))

abbrev angle_number : Open → ℕ
angle_number o = parent_number (angle_of o)

-- the mailbox's record that "@" begins
abbrev in_records : In → Local → ℕ → List AddressRecord
in_records (bare_in h) l e = here_records h ++ (spec_record l e (depth_here h) (group_number h) ∷ [])
in_records (angle_in o) l e = open_records o ++ (spec_record l e (suc (depth_here (here_of o))) (angle_number o) ∷ [])
in_records (route_in o r) l e = open_records o ++ (spec_record l e (suc (depth_here (here_of o))) (angle_number o) ∷ [])

-- the numbers, where the two that do not matter are `a` and `b`
abbrev walked_place : Here → ℕ → ℕ → Walked
walked_place (in_list r) a b = walked_by places.Slot a b None None (placed r)
walked_place (in_group r p t empty) a b = walked_by places.GroupOpened a b (Some (length (placed r))) None (opens_group p t.end (placed r))
walked_place (in_group r p t (comma l u)) a b = walked_by places.Slot a b (Some (length (placed r))) None (here_records (in_group r p t (comma l u)))

abbrev walked_local : In → Local → Walked
walked_local (bare_in h) l = walked_by places.Local (local_start l) (local_end l) (group_of h) None (here_records h)
walked_local (angle_in o) (one_word w) = walked_by places.AngleWord (word_lexeme w).start (word_lexeme w).end (group_of (here_of o)) (angle_of o) (open_records o)
walked_local (angle_in o) (more_word l t w) = walked_by places.AngleLocal (local_start l) (word_lexeme w).end (group_of (here_of o)) (angle_of o) (open_records o)
walked_local (route_in o r) (one_word w) = walked_by places.AngleWord (word_lexeme w).start (word_lexeme w).end (group_of (here_of o)) (angle_of o) (open_records o)
walked_local (route_in o r) (more_word l t w) = walked_by places.AngleLocal (local_start l) (word_lexeme w).end (group_of (here_of o)) (angle_of o) (open_records o)

abbrev walked_dot : In → Local → Walked
walked_dot (bare_in h) l = walked_by places.LocalDot (local_start l) (local_end l) (group_of h) None (here_records h)
walked_dot (angle_in o) l = walked_by places.AngleDot (local_start l) (local_end l) (group_of (here_of o)) (angle_of o) (open_records o)
walked_dot (route_in o r) l = walked_by places.AngleDot (local_start l) (local_end l) (group_of (here_of o)) (angle_of o) (open_records o)

-- in a domain, by the places of the three kinds of domains
abbrev walked_behind : Place → Place → Place → Behind → (Lexeme → ℕ) → ℕ → ℕ → Walked
walked_behind here inner hops (of_spec (bare_in h) l t) e a b = walked_by here a b (group_of h) None (in_records (bare_in h) l (e t))
walked_behind here inner hops (of_spec (angle_in o) l t) e a b = walked_by inner a b (group_of (here_of o)) (angle_of o) (in_records (angle_in o) l (e t))
walked_behind here inner hops (of_spec (route_in o r) l t) e a b = walked_by inner a b (group_of (here_of o)) (angle_of o) (in_records (route_in o r) l (e t))
walked_behind here inner hops (of_hop o f t) e a b = walked_by hops a b (group_of (here_of o)) (angle_of o) (open_records o)

abbrev hop_place : Hop → Place
hop_place (first_at g) = places.EmptyHop
hop_place (next_at h u g) = places.HopComma

abbrev pub walked_in : State → ℕ → ℕ → Walked
walked_in (place h) a b = walked_place h a b
walked_in (word h w) a b = walked_by places.Word (word_lexeme w).start (word_lexeme w).end (group_of h) None (here_records h)
walked_in (phrase h p) a b = walked_by places.Phrase (phrase_start p) (phrase_end p) (group_of h) None (here_records h)
walked_in (local c l) a b = walked_local c l
walked_in (local_dot c l t) a b = walked_dot c l
walked_in (at d) a b = walked_behind places.AtSign places.AngleAt places.HopAt d (λ t. t.end) a b
walked_in (domain d m) a b = walked_behind places.Domain places.AngleDomain places.HopDomain d (λ t. end_of_domain m) a b
walked_in (domain_dot d m t) a b = walked_behind places.DomainDot places.AngleDomainDot places.HopAt d (λ u. end_of_domain m) a b
walked_in (opened o) a b = walked_by places.Opened a b (group_of (here_of o)) (angle_of o) (open_records o)
walked_in (hop o f) a b = walked_by (hop_place f) a b (group_of (here_of o)) (angle_of o) (open_records o)
walked_in (route o r) a b = walked_by places.RouteColon a b (group_of (here_of o)) (angle_of o) (open_records o)
walked_in (boxed h m) a b = walked_by places.AngleClosed a b (group_of h) None (add_box m (depth_here h) (group_number h) (here_records h))
walked_in (closed r x) a b = walked_by places.GroupClosed a b None None (add_address x (placed r))

-- ---- the end of a record

set_keep : (i e : ℕ) (xs ys : List AddressRecord) → i < length xs → set_end i e (xs ++ ys) ≡ set_end i e xs ++ ys
set_keep i e [] ys h = absurd (omega arith)
set_keep zero e (r ∷ xs) ys h = refl
set_keep (suc i) e (r ∷ xs) ys h = ap (λ rs. r ∷ rs) (set_keep i e xs ys (omega arith))

pub set-length : (i e : ℕ) (xs : List AddressRecord) → length (set_end i e xs) ≡ length xs
set-length i e [] = refl
set-length zero e (r ∷ xs) = refl
set-length (suc i) e (r ∷ xs) = ap suc (set-length i e xs)

set_at : (xs : List AddressRecord) (r : AddressRecord) (e : ℕ) → set_end (length xs) e (xs ++ (r ∷ [])) ≡ xs ++ (with_end r e ∷ [])
set_at [] r e = refl
set_at (x ∷ xs) r e = ap (λ rs. x ∷ rs) (set_at xs r e)

last_step : {c : Place} {a b : ℕ} {g x : Option ℕ} (c₀ : Place) (xs : List AddressRecord) (r : AddressRecord) (t : Lexeme)
    → close_record (last_number (length (xs ++ (r ∷ [])))) g x c (walked_by c₀ a b g x (xs ++ (r ∷ []))) t ≡ Some (walked_by c a b g x (xs ++ (with_end r t.end ∷ [])))
last_step {c} {a} {b} {g} {x} c₀ xs r t =
    let n : length (xs ++ (r ∷ [])) ≡ suc (length xs) = omega (arith, length-append xs (r ∷ [])) in
    rw n (ap (λ rs. Some (walked_by c a b g x rs)) (set_at xs r t.end))

box_ends : (xs : List AddressRecord) (r s : AddressRecord) (e : ℕ) → set_end (length xs) e ((xs ++ (r ∷ [])) ++ (s ∷ [])) ≡ (xs ++ (with_end r e ∷ [])) ++ (s ∷ [])
box_ends xs r s e = set_keep (length xs) e (xs ++ (r ∷ [])) (s ∷ []) (omega (arith, length-append xs (r ∷ []))) ∙ ap (λ rs. rs ++ (s ∷ [])) (set_at xs r e)

set_spec : (i e : ℕ) (s : Spec) (depth parent : ℕ) (rs : List AddressRecord) → i < length rs → set_end i e (add_spec s depth parent rs) ≡ add_spec s depth parent (set_end i e rs)
set_spec i e (spec l t m) depth parent rs h = set_keep i e rs (spec_record l (end_of_domain m) depth parent ∷ []) h

set-named : (i e : ℕ) (s : Spec) (depth : ℕ) (r : AddressRecord) (rs : List AddressRecord) → i < length rs
    → set_end i e (add_spec s depth (suc (length rs)) (rs ++ (r ∷ []))) ≡ add_spec s depth (suc (length (set_end i e rs))) (set_end i e rs ++ (r ∷ []))
set-named i e s depth r rs h =
    set_spec i e s depth (suc (length rs)) (rs ++ (r ∷ [])) (omega (arith, length-append rs (r ∷ [])))
    ∙ ap (add_spec s depth (suc (length rs))) (set_keep i e rs (r ∷ []) h)
    ∙ ap (λ (n : ℕ). add_spec s depth (suc n) (set_end i e rs ++ (r ∷ []))) (sym (set-length i e rs))

set-box : (i e : ℕ) (b : Mailbox) (depth parent : ℕ) (rs : List AddressRecord) → i < length rs → set_end i e (add_box b depth parent rs) ≡ add_box b depth parent (set_end i e rs)
set-box i e (bare s) depth parent rs h = set_spec i e s depth parent rs h
set-box i e (angle p t s u) depth parent rs h = set-named i e s (suc depth) (named_record 2 p u.end depth parent) rs h
set-box i e (routed p t r s u) depth parent rs h = set-named i e s (suc depth) (named_record 2 p u.end depth parent) rs h

longer_spec : (s : Spec) (depth parent : ℕ) (rs : List AddressRecord) → length rs ≤ length (add_spec s depth parent rs)
longer_spec (spec l t m) depth parent rs = omega (arith, length-append rs (spec_record l (end_of_domain m) depth parent ∷ []))

longer_box : (b : Mailbox) (depth parent : ℕ) (rs : List AddressRecord) → length rs ≤ length (add_box b depth parent rs)
longer_box (bare s) depth parent rs = longer_spec s depth parent rs
longer_box (angle p t s u) depth parent rs =
    omega (arith, longer_spec s (suc depth) (suc (length rs)) (rs ++ (named_record 2 p u.end depth parent ∷ [])), length-append rs (named_record 2 p u.end depth parent ∷ []))
longer_box (routed p t r s u) depth parent rs =
    omega (arith, longer_spec s (suc depth) (suc (length rs)) (rs ++ (named_record 2 p u.end depth parent ∷ [])), length-append rs (named_record 2 p u.end depth parent ∷ []))

mutual
  longer_place : (s : Slot Mailbox) (parent : ℕ) (rs : List AddressRecord) → length rs ≤ length (add_box_slot s parent rs)
  longer_place empty parent rs = omega arith
  longer_place (comma l t) parent rs = longer_boxes l parent rs

  longer_boxes : (l : Listed Mailbox) (parent : ℕ) (rs : List AddressRecord) → length rs ≤ length (add_boxes l parent rs)
  longer_boxes (idle s) parent rs = longer_place s parent rs
  longer_boxes (full s b) parent rs = omega (arith, longer_place s parent rs, longer_box b 1 parent (add_box_slot s parent rs))

mutual
  set-place : (s : Slot Mailbox) (i e parent : ℕ) (rs : List AddressRecord) → i < length rs → set_end i e (add_box_slot s parent rs) ≡ add_box_slot s parent (set_end i e rs)
  set-place empty i e parent rs h = refl
  set-place (comma l t) i e parent rs h = set_boxes l i e parent rs h

  set_boxes : (l : Listed Mailbox) (i e parent : ℕ) (rs : List AddressRecord) → i < length rs → set_end i e (add_boxes l parent rs) ≡ add_boxes l parent (set_end i e rs)
  set_boxes (idle s) i e parent rs h = set-place s i e parent rs h
  set_boxes (full s b) i e parent rs h =
      set-box i e b 1 parent (add_box_slot s parent rs) (omega (arith, longer_place s parent rs)) ∙ ap (add_box b 1 parent) (set-place s i e parent rs h)

-- ";" ends the group's record
group_ends : (r : Slot Address) (p : Phrase) (c : Lexeme) (l : Listed Mailbox) (u : Lexeme)
    → set_end (length (placed r)) u.end (add_boxes l (suc (length (placed r))) (opens_group p c.end (placed r))) ≡ add_address (group p c l u) (placed r)
group_ends r p c l u =
    set_boxes l (length (placed r)) u.end (suc (length (placed r))) (opens_group p c.end (placed r)) (omega (arith, length-append (placed r) (named_record 3 p c.end 0 0 ∷ [])))
    ∙ ap (add_boxes l (suc (length (placed r)))) (set_at (placed r) (named_record 3 p c.end 0 0) u.end)

-- ---- the loop follows every arrow

abbrev Goes : State → Class → (Lexeme → State) → Type 0
Goes s c to = (t : Lexeme) (a b : ℕ) → (a' : ℕ) × (b' : ℕ) × (step_from (walked_in s a b) (of c t) ≡ Some (walked_in (to t) a' b'))

abbrev Follows : State → List (Arrow Class State) → Type 0
Follows s [] = Unit {0}
Follows s (x ∷ others) = Goes s x.class x.to × Follows s others

-- "@" begins the mailbox's record, at the depth of its place
at_depth : (c : Place) (g x : Option ℕ) (rs : List AddressRecord) (l : Local) (t : Lexeme) {depth : ℕ} → one_if g + one_if x ≡ depth
    → Some (walked_by c (local_start l) (local_end l) g x (rs ++ (spec_record l t.end (one_if g + one_if x) (parent_of g x) ∷ []))) ≡ Some (walked_by c (local_start l) (local_end l) g x (rs ++ (spec_record l t.end depth (parent_of g x) ∷ [])))
at_depth c g x rs l t e = rw e

follows : (s : State) → Follows s (arrows s)
follows (place (in_list r)) = (λ t a b. (0, 0, refl), (λ t a b. (0, 0, refl), (λ t a b. (a, b, refl), tt)))
follows (place (in_group r p c empty)) = (λ t a b. (0, 0, refl), (λ t a b. (0, 0, refl), (λ t a b. (a, b, refl), (λ t a b. (a, b, ap (λ rs. Some (walked_by places.GroupClosed a b None None rs)) (group_ends r p c (idle empty) t)), tt))))
follows (place (in_group r p c (comma v o))) = (λ t a b. (0, 0, refl), (λ t a b. (0, 0, refl), (λ t a b. (a, b, refl), (λ t a b. (a, b, ap (λ rs. Some (walked_by places.GroupClosed a b None None rs)) (group_ends r p c (idle (comma v o)) t)), tt))))
follows (word (in_list r) w) = (λ t a b. (0, 0, refl), (λ t a b. (0, 0, refl), (λ t a b. (0, 0, refl), (λ t a b. ((word_lexeme w).start, (word_lexeme w).end, refl), (λ t a b. ((word_lexeme w).start, (word_lexeme w).end, refl), (λ t a b. ((word_lexeme w).start, (word_lexeme w).end, refl), tt))))))
follows (word (in_group r p c s) w) = (λ t a b. (0, 0, refl), (λ t a b. (0, 0, refl), (λ t a b. (0, 0, refl), (λ t a b. ((word_lexeme w).start, (word_lexeme w).end, refl), (λ t a b. ((word_lexeme w).start, (word_lexeme w).end, refl), tt)))))
follows (phrase (in_list r) q) = (λ t a b. (0, 0, refl), (λ t a b. (0, 0, refl), (λ t a b. (phrase_start q, phrase_end q, refl), (λ t a b. (phrase_start q, phrase_end q, refl), tt))))
follows (phrase (in_group r p c s) q) = (λ t a b. (0, 0, refl), (λ t a b. (0, 0, refl), (λ t a b. (phrase_start q, phrase_end q, refl), tt)))
follows (local (bare_in h) l) = (λ t a b. (0, 0, refl), (λ t a b. (local_start l, local_end l, at_depth places.AtSign (group_of h) None (here_records h) l t (omega arith)), tt))
follows (local (angle_in o) (one_word w)) = (λ t a b. (0, 0, refl), (λ t a b. ((word_lexeme w).start, (word_lexeme w).end, at_depth places.AngleAt (group_of (here_of o)) (angle_of o) (open_records o) (one_word w) t (omega arith)), tt))
follows (local (angle_in o) (more_word l i w)) = (λ t a b. (0, 0, refl), (λ t a b. (local_start l, (word_lexeme w).end, at_depth places.AngleAt (group_of (here_of o)) (angle_of o) (open_records o) (more_word l i w) t (omega arith)), tt))
follows (local (route_in o y) (one_word w)) = (λ t a b. (0, 0, refl), (λ t a b. ((word_lexeme w).start, (word_lexeme w).end, at_depth places.AngleAt (group_of (here_of o)) (angle_of o) (open_records o) (one_word w) t (omega arith)), tt))
follows (local (route_in o y) (more_word l i w)) = (λ t a b. (0, 0, refl), (λ t a b. (local_start l, (word_lexeme w).end, at_depth places.AngleAt (group_of (here_of o)) (angle_of o) (open_records o) (more_word l i w) t (omega arith)), tt))
follows (local_dot (bare_in h) l i) = (λ t a b. (0, 0, refl), (λ t a b. (0, 0, refl), tt))
follows (local_dot (angle_in o) l i) = (λ t a b. (0, 0, refl), (λ t a b. (0, 0, refl), tt))
follows (local_dot (route_in o r) l i) = (λ t a b. (0, 0, refl), (λ t a b. (0, 0, refl), tt))
follows (at (of_spec (bare_in h) l i)) = (λ t a b. (a, b, last_step places.AtSign (here_records h) (spec_record l i.end (depth_here h) (group_number h)) t), (λ t a b. (a, b, last_step places.AtSign (here_records h) (spec_record l i.end (depth_here h) (group_number h)) t), tt))
follows (at (of_spec (angle_in o) l i)) = (λ t a b. (a, b, last_step places.AngleAt (open_records o) (spec_record l i.end (suc (depth_here (here_of o))) (angle_number o)) t), (λ t a b. (a, b, last_step places.AngleAt (open_records o) (spec_record l i.end (suc (depth_here (here_of o))) (angle_number o)) t), tt))
follows (at (of_spec (route_in o r) l i)) = (λ t a b. (a, b, last_step places.AngleAt (open_records o) (spec_record l i.end (suc (depth_here (here_of o))) (angle_number o)) t), (λ t a b. (a, b, last_step places.AngleAt (open_records o) (spec_record l i.end (suc (depth_here (here_of o))) (angle_number o)) t), tt))
follows (at (of_hop o f i)) = (λ t a b. (a, b, refl), (λ t a b. (a, b, refl), tt))
follows (domain (of_spec (bare_in (in_list r)) l i) m) = (λ t a b. (a, b, refl), (λ t a b. (a, b, refl), tt))
follows (domain (of_spec (bare_in (in_group r p c s)) l i) m) = (λ t a b. (a, b, refl), (λ t a b. (a, b, refl), (λ t a b. (a, b, ap (λ rs. Some (walked_by places.GroupClosed a b None None rs)) (group_ends r p c (full s (bare (spec l i m))) t)), tt)))
follows (domain (of_spec (angle_in (less h q u)) l i) m) = (λ t a b. (a, b, refl), (λ t a b. (a, b, ap (λ rs. Some (walked_by places.AngleClosed a b (group_of h) None rs)) (box_ends (here_records h) (named_record 2 q u.end (depth_here h) (group_number h)) (spec_record l (end_of_domain m) (suc (depth_here h)) (suc (length (here_records h)))) t.end)), tt))
follows (domain (of_spec (route_in (less h q u) y) l i) m) = (λ t a b. (a, b, refl), (λ t a b. (a, b, ap (λ rs. Some (walked_by places.AngleClosed a b (group_of h) None rs)) (box_ends (here_records h) (named_record 2 q u.end (depth_here h) (group_number h)) (spec_record l (end_of_domain m) (suc (depth_here h)) (suc (length (here_records h)))) t.end)), tt))
follows (domain (of_hop o f i) m) = (λ t a b. (a, b, refl), (λ t a b. (a, b, refl), (λ t a b. (a, b, refl), tt)))
follows (domain_dot (of_spec (bare_in h) l i) m j) = (λ t a b. (a, b, last_step places.DomainDot (here_records h) (spec_record l (end_of_domain m) (depth_here h) (group_number h)) t), (λ t a b. (a, b, last_step places.DomainDot (here_records h) (spec_record l (end_of_domain m) (depth_here h) (group_number h)) t), tt))
follows (domain_dot (of_spec (angle_in o) l i) m j) = (λ t a b. (a, b, last_step places.AngleDomainDot (open_records o) (spec_record l (end_of_domain m) (suc (depth_here (here_of o))) (angle_number o)) t), (λ t a b. (a, b, last_step places.AngleDomainDot (open_records o) (spec_record l (end_of_domain m) (suc (depth_here (here_of o))) (angle_number o)) t), tt))
follows (domain_dot (of_spec (route_in o r) l i) m j) = (λ t a b. (a, b, last_step places.AngleDomainDot (open_records o) (spec_record l (end_of_domain m) (suc (depth_here (here_of o))) (angle_number o)) t), (λ t a b. (a, b, last_step places.AngleDomainDot (open_records o) (spec_record l (end_of_domain m) (suc (depth_here (here_of o))) (angle_number o)) t), tt))
follows (domain_dot (of_hop o f i) m j) = (λ t a b. (a, b, refl), (λ t a b. (a, b, refl), tt))
follows (opened o) = (λ t a b. (0, 0, refl), (λ t a b. (0, 0, refl), (λ t a b. (a, b, refl), (λ t a b. (a, b, refl), tt))))
follows (hop o (first_at g)) = (λ t a b. (a, b, refl), (λ t a b. (a, b, refl), tt))
follows (hop o (next_at h u g)) = (λ t a b. (a, b, refl), (λ t a b. (a, b, refl), (λ t a b. (a, b, refl), tt)))
follows (route o r) = (λ t a b. (0, 0, refl), (λ t a b. (0, 0, refl), tt))
follows (boxed (in_list r) m) = (λ t a b. (a, b, refl), tt)
follows (boxed (in_group r p c s) m) = (λ t a b. (a, b, refl), (λ t a b. (a, b, ap (λ rs. Some (walked_by places.GroupClosed a b None None rs)) (group_ends r p c (full s m) t)), tt))
follows (closed r x) = (λ t a b. (a, b, refl), tt)

-- ---- where no arrow goes on the loop stops

abbrev Quiet : maybe.Option State → Option Walked → Type 0
Quiet none o = o ≡ None
Quiet (some s) o = Unit {0}

abbrev QuietAt : State → ℕ → ℕ → Lexeme → Class → Type 0
QuietAt s a b t c = Quiet (look same_class (arrows s) (of c t)) (step_from (walked_in s a b) (of c t))

quiet : (s : State) (a b : ℕ) (t : Lexeme)
    → QuietAt s a b t Atom × QuietAt s a b t Quoted × QuietAt s a b t At × QuietAt s a b t LessThan × QuietAt s a b t GreaterThan × QuietAt s a b t Comma
    × QuietAt s a b t Semicolon × QuietAt s a b t Colon × QuietAt s a b t Stray × QuietAt s a b t Dot × QuietAt s a b t Literal
quiet (place (in_list r)) a b t = (tt, tt, refl, refl, refl, tt, refl, refl, refl, refl, refl)
quiet (place (in_group r p c empty)) a b t = (tt, tt, refl, refl, refl, tt, tt, refl, refl, refl, refl)
quiet (place (in_group r p c (comma v o))) a b t = (tt, tt, refl, refl, refl, tt, tt, refl, refl, refl, refl)
quiet (word (in_list r) w) a b t = (tt, tt, tt, tt, refl, refl, refl, tt, refl, tt, refl)
quiet (word (in_group r p c s) w) a b t = (tt, tt, tt, tt, refl, refl, refl, refl, refl, tt, refl)
quiet (phrase (in_list r) q) a b t = (tt, tt, refl, tt, refl, refl, refl, tt, refl, refl, refl)
quiet (phrase (in_group r p c s) q) a b t = (tt, tt, refl, tt, refl, refl, refl, refl, refl, refl, refl)
quiet (local (bare_in h) l) a b t = (refl, refl, tt, refl, refl, refl, refl, refl, refl, tt, refl)
quiet (local (angle_in o) (one_word w)) a b t = (refl, refl, tt, refl, refl, refl, refl, refl, refl, tt, refl)
quiet (local (angle_in o) (more_word l i w)) a b t = (refl, refl, tt, refl, refl, refl, refl, refl, refl, tt, refl)
quiet (local (route_in o r) (one_word w)) a b t = (refl, refl, tt, refl, refl, refl, refl, refl, refl, tt, refl)
quiet (local (route_in o r) (more_word l i w)) a b t = (refl, refl, tt, refl, refl, refl, refl, refl, refl, tt, refl)
quiet (local_dot (bare_in h) l i) a b t = (tt, tt, refl, refl, refl, refl, refl, refl, refl, refl, refl)
quiet (local_dot (angle_in o) l i) a b t = (tt, tt, refl, refl, refl, refl, refl, refl, refl, refl, refl)
quiet (local_dot (route_in o r) l i) a b t = (tt, tt, refl, refl, refl, refl, refl, refl, refl, refl, refl)
quiet (at (of_spec (bare_in h) l i)) a b t = (tt, refl, refl, refl, refl, refl, refl, refl, refl, refl, tt)
quiet (at (of_spec (angle_in o) l i)) a b t = (tt, refl, refl, refl, refl, refl, refl, refl, refl, refl, tt)
quiet (at (of_spec (route_in o r) l i)) a b t = (tt, refl, refl, refl, refl, refl, refl, refl, refl, refl, tt)
quiet (at (of_hop o f i)) a b t = (tt, refl, refl, refl, refl, refl, refl, refl, refl, refl, tt)
quiet (domain (of_spec (bare_in (in_list r)) l i) m) a b t = (refl, refl, refl, refl, refl, tt, refl, refl, refl, tt, refl)
quiet (domain (of_spec (bare_in (in_group r p c s)) l i) m) a b t = (refl, refl, refl, refl, refl, tt, tt, refl, refl, tt, refl)
quiet (domain (of_spec (angle_in o) l i) m) a b t = (refl, refl, refl, refl, tt, refl, refl, refl, refl, tt, refl)
quiet (domain (of_spec (route_in o r) l i) m) a b t = (refl, refl, refl, refl, tt, refl, refl, refl, refl, tt, refl)
quiet (domain (of_hop o f i) m) a b t = (refl, refl, refl, refl, refl, tt, refl, tt, refl, tt, refl)
quiet (domain_dot (of_spec (bare_in h) l i) m j) a b t = (tt, refl, refl, refl, refl, refl, refl, refl, refl, refl, tt)
quiet (domain_dot (of_spec (angle_in o) l i) m j) a b t = (tt, refl, refl, refl, refl, refl, refl, refl, refl, refl, tt)
quiet (domain_dot (of_spec (route_in o r) l i) m j) a b t = (tt, refl, refl, refl, refl, refl, refl, refl, refl, refl, tt)
quiet (domain_dot (of_hop o f i) m j) a b t = (tt, refl, refl, refl, refl, refl, refl, refl, refl, refl, tt)
quiet (opened o) a b t = (tt, tt, tt, refl, refl, tt, refl, refl, refl, refl, refl)
quiet (hop o (first_at g)) a b t = (refl, refl, tt, refl, refl, tt, refl, refl, refl, refl, refl)
quiet (hop o (next_at h u g)) a b t = (refl, refl, tt, refl, refl, tt, refl, tt, refl, refl, refl)
quiet (route o r) a b t = (tt, tt, refl, refl, refl, refl, refl, refl, refl, refl, refl)
quiet (boxed (in_list r) m) a b t = (refl, refl, refl, refl, refl, tt, refl, refl, refl, refl, refl)
quiet (boxed (in_group r p c s) m) a b t = (refl, refl, refl, refl, refl, tt, tt, refl, refl, refl, refl)
quiet (closed r x) a b t = (refl, refl, refl, refl, refl, tt, refl, refl, refl, refl, refl)

quiet_at : (s : State) (a b : ℕ) (t : Lexeme) (c : Class) → QuietAt s a b t c
quiet_at s a b t Atom = (quiet s a b t).0
quiet_at s a b t Quoted = (quiet s a b t).1
quiet_at s a b t At = (quiet s a b t).2
quiet_at s a b t LessThan = (quiet s a b t).3
quiet_at s a b t GreaterThan = (quiet s a b t).4
quiet_at s a b t Comma = (quiet s a b t).5
quiet_at s a b t Semicolon = (quiet s a b t).6
quiet_at s a b t Colon = (quiet s a b t).7
quiet_at s a b t Stray = (quiet s a b t).8
quiet_at s a b t Dot = (quiet s a b t).9
quiet_at s a b t Literal = (quiet s a b t).10

-- ---- the loop does what the machine does

abbrev Agrees : maybe.Option State → Option Walked → Type 0
Agrees none o = o ≡ None
Agrees (some s) o = (a : ℕ) × (b : ℕ) × (o ≡ Some (walked_in s a b))

look_follows : (s : State) (a b : ℕ) (x : Sym) (others : List (Arrow Class State)) → Follows s others → Quiet (look same_class others x) (step_from (walked_in s a b) x)
    → Agrees (look same_class others x) (step_from (walked_in s a b) x)
look_follows s a b x [] f q = q
look_follows s a b x (y ∷ others) f q = by (same_class y.class x.class) refl q (look_follows s a b x others f.1)
  where
    by : (same : Bool) → same_class y.class x.class ≡ same → Quiet (pick same (some (y.to x.lexeme)) (look same_class others x)) (step_from (walked_in s a b) x)
        → (Quiet (look same_class others x) (step_from (walked_in s a b) x) → Agrees (look same_class others x) (step_from (walked_in s a b) x))
        → Agrees (pick same (some (y.to x.lexeme)) (look same_class others x)) (step_from (walked_in s a b) x)
    by true e w rest =
        let (a', b', g) = f.0 x.lexeme a b in
        (a', b', ap (λ c. step_from (walked_in s a b) (of c x.lexeme)) (sym (same_class_lem y.class x.class e)) ∙ g)
    by false e w rest = rest w

pub agrees : (s : State) (a b : ℕ) (x : Sym) → Agrees (look same_class (arrows s) x) (step_from (walked_in s a b) x)
agrees s a b x = look_follows s a b x (arrows s) (follows s) (quiet_at s a b x.lexeme x.class)

-- the loop
abbrev pub Matches : Result Class State → WalkEnd → Type 0
Matches (ended s) e = (a : ℕ) × (b : ℕ) × (e ≡ ends (walked_in s a b))
Matches (stopped why rest) e = (why ≡ unfit) × (e ≡ stops rest)

match_step : (n : ℕ) (x : Sym) (xs : List Sym) (o : maybe.Option State) (p : Option Walked) → Agrees o p
    → ((s : State) (a b : ℕ) → Matches (run n s xs) (walk_from (walked_in s a b) xs))
    → Matches (after (taken o) (λ s. run n s xs) (x ∷ xs)) (elim p [ None ↦ stops (x ∷ xs) | Some g ↦ walk_from g xs ])
match_step n x xs none p g f = rw g (refl, refl)
match_step n x xs (some s) p (a, b, e) f = rw e (f s a b)

pub matches : (n : ℕ) (s : State) (a b : ℕ) (xs : List Sym) → Matches (run n s xs) (walk_from (walked_in s a b) xs)
matches n s a b [] = (a, b, refl)
matches n s a b (x ∷ xs) = match_step n x xs (look same_class (arrows s) x) (step_from (walked_in s a b) x) (agrees s a b x) (λ s' a' b'. matches n s' a' b' xs)
