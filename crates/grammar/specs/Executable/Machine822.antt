-- The executable layer: the machine that reads an address list of RFC 822, one symbol at a step, given by the arrows of each state; its state is the derivation so far. Nothing here needs to be believed: what the verdict is `Decides` says, over the grammar alone.
use Rattle.std.specs.Prelude.{ℕ, List, [], ◌∷◌}
use Rattle.std.proofs.Math.Option.{Option, none, some}
use Rattle.grammar.specs.Believed.Grammar.{Forest}
use Rattle.grammar.specs.Believed.Language.{Verdict}
use Rattle.grammar.specs.Believed.Rfc733.{same_class}
use Rattle.grammar.specs.Believed.Rfc822.{Nonterminal}
use Rattle.grammar.specs.Executable.Machines.{Step, Result, run_by, verdict_by, Arrow, on, step_by}
use Rattle.grammar.specs.Executable.Trees822.{Class, Atom, Quoted, At, LessThan, GreaterThan, Comma, Semicolon, Colon, Dot, Literal, Lexeme, Sym, Word, atom_word, quoted_word, Phrase, one, more, Sub, atom_sub, literal_sub, Domain, one_sub, more_sub, Local, one_word, more_word, Spec, spec, Empties, no_empty, one_empty, Hops, first_hop, next_hop, Route, direct, trailing, Mailbox, bare, angle, routed, Slot, empty, comma, Listed, idle, full, Address, box, group, as_forest}

-- ---- states

-- where a mailbox stands: at a place of the list, or at a place of a group whose name and ":" are read
pub data Here : Type 0 where
  in_list : Slot Address → Here
  in_group : Slot Address → Phrase → Lexeme → Slot Mailbox → Here

-- a phrase and "<"
pub data Open : Type 0 where
  less : Here → Phrase → Lexeme → Open

-- where a local-part stands
pub data In : Type 0 where
  bare_in : Here → In
  angle_in : Open → In
  route_in : Open → Route → In

-- a route before "@": empty places so far, or hops, a comma and empty places
pub data Hop : Type 0 where
  first_at : Empties → Hop
  next_at : Hops → Lexeme → Empties → Hop

-- where a domain stands, after its "@"
pub data Behind : Type 0 where
  of_spec : In → Local → Lexeme → Behind
  of_hop : Open → Hop → Lexeme → Behind

pub data State : Type 0 where
  -- nothing of an address; one word, of a phrase or of a local-part; a phrase
  place : Here → State
  word : Here → Word → State
  phrase : Here → Phrase → State
  -- a local-part; a local-part and a dot
  local : In → Local → State
  local_dot : In → Local → Lexeme → State
  -- nothing of a domain; a domain; a domain and a dot
  at : Behind → State
  domain : Behind → Domain → State
  domain_dot : Behind → Domain → Lexeme → State
  -- "<"; a route's empty places; a whole route
  opened : Open → State
  hop : Open → Hop → State
  route : Open → Route → State
  -- a mailbox that ended with ">"; a group
  boxed : Here → Mailbox → State
  closed : Slot Address → Address → State

-- ---- arrows

abbrev Arrows : Type 0
Arrows = List (Arrow Class State)

abbrev pub words : (Word → State) → Arrows → Arrows
words f arrows = on Atom (λ t. f (atom_word t)) ∷ on Quoted (λ t. f (quoted_word t)) ∷ arrows

abbrev pub subs : (Sub → State) → Arrows
subs f = on Atom (λ t. f (atom_sub t)) ∷ on Literal (λ t. f (literal_sub t)) ∷ []

-- after a phrase: "<", and where a group may begin ":"
abbrev after_phrase : Here → Phrase → Arrows
after_phrase (in_list r) p = on LessThan (λ t. opened (less (in_list r) p t)) ∷ on Colon (λ t. place (in_group r p t empty)) ∷ []
after_phrase (in_group r q c s) p = on LessThan (λ t. opened (less (in_group r q c s) p t)) ∷ []

-- after a place of a list, with an address or without
abbrev after_place : Listed Address → Arrows
after_place l = on Comma (λ t. place (in_list (comma l t))) ∷ []

-- .. of a group
abbrev inside : Slot Address → Phrase → Lexeme → Listed Mailbox → Arrows
inside r p c l = on Comma (λ t. place (in_group r p c (comma l t))) ∷ on Semicolon (λ t. closed r (group p c l t)) ∷ []

abbrev after_box : Here → Mailbox → Arrows
after_box (in_list r) b = after_place (full r (box b))
after_box (in_group r p c s) b = inside r p c (full s b)

abbrev pub box_here : Open → Here
box_here (less h p t) = h

abbrev pub angled : Open → Spec → Lexeme → Mailbox
angled (less h p t) s u = angle p t s u

abbrev pub through_route : Open → Route → Spec → Lexeme → Mailbox
through_route (less h p t) r s u = routed p t r s u

abbrev pub hops_with : Hop → Lexeme → Domain → Hops
hops_with (first_at g) t m = first_hop g t m
hops_with (next_at h u g) t m = next_hop h u g t m

abbrev after_domain : Behind → Domain → Arrows
after_domain (of_spec (bare_in h) l t) m = after_box h (bare (spec l t m))
after_domain (of_spec (angle_in o) l t) m = on GreaterThan (λ u. boxed (box_here o) (angled o (spec l t m) u)) ∷ []
after_domain (of_spec (route_in o r) l t) m = on GreaterThan (λ u. boxed (box_here o) (through_route o r (spec l t m) u)) ∷ []
after_domain (of_hop o f t) m =
    on Comma (λ u. hop o (next_at (hops_with f t m) u no_empty)) ∷ on Colon (λ u. route o (direct (hops_with f t m) u)) ∷ []

abbrev pub arrows : State → Arrows
arrows (place (in_list r)) = words (λ w. word (in_list r) w) (after_place (idle r))
arrows (place (in_group r p c s)) = words (λ w. word (in_group r p c s) w) (inside r p c (idle s))
arrows (word h w) =
    words (λ v. phrase h (more (one w) v))
    (on Dot (λ t. local_dot (bare_in h) (one_word w) t) ∷ on At (λ t. at (of_spec (bare_in h) (one_word w) t)) ∷ after_phrase h (one w))
arrows (phrase h p) = words (λ v. phrase h (more p v)) (after_phrase h p)
arrows (local c l) = on Dot (λ t. local_dot c l t) ∷ on At (λ t. at (of_spec c l t)) ∷ []
arrows (local_dot c l t) = words (λ w. local c (more_word l t w)) []
arrows (at d) = subs (λ s. domain d (one_sub s))
arrows (domain d m) = on Dot (λ t. domain_dot d m t) ∷ after_domain d m
arrows (domain_dot d m t) = subs (λ s. domain d (more_sub m t s))
arrows (opened o) =
    words (λ w. local (angle_in o) (one_word w))
    (on At (λ t. at (of_hop o (first_at no_empty) t)) ∷ on Comma (λ t. hop o (first_at (one_empty no_empty t))) ∷ [])
arrows (hop o (first_at g)) = on At (λ t. at (of_hop o (first_at g) t)) ∷ on Comma (λ t. hop o (first_at (one_empty g t))) ∷ []
arrows (hop o (next_at h u g)) =
    on At (λ t. at (of_hop o (next_at h u g) t)) ∷ on Comma (λ t. hop o (next_at h u (one_empty g t))) ∷ on Colon (λ t. route o (trailing h u g t)) ∷ []
arrows (route o r) = words (λ w. local (route_in o r) (one_word w)) []
arrows (boxed h b) = after_box h b
arrows (closed r a) = after_place (full r a)

-- ---- the machine

abbrev pub step : ℕ → State → Sym → Step State
step n s x = step_by same_class arrows n s x

abbrev pub run : ℕ → State → List Sym → Result Class State
run n s xs = run_by step n s xs

abbrev pub box_ends : Here → Mailbox → Option (Forest Class Nonterminal)
box_ends (in_list r) b = some (as_forest (full r (box b)))
box_ends (in_group r p c s) b = none

abbrev pub finish : State → Option (Forest Class Nonterminal)
finish (place (in_list r)) = some (as_forest (idle r))
finish (place (in_group r p c s)) = none
finish (word h w) = none
finish (phrase h p) = none
finish (local c l) = none
finish (local_dot c l t) = none
finish (at d) = none
finish (domain (of_spec (bare_in h) l t) m) = box_ends h (bare (spec l t m))
finish (domain (of_spec (angle_in o) l t) m) = none
finish (domain (of_spec (route_in o r) l t) m) = none
finish (domain (of_hop o f t) m) = none
finish (domain_dot d m t) = none
finish (opened o) = none
finish (hop o f) = none
finish (route o r) = none
finish (boxed h b) = box_ends h b
finish (closed r a) = some (as_forest (full r a))

abbrev pub start : State
start = place (in_list empty)

-- the verdict on these symbols; levels play no part
abbrev pub read : ℕ → List Sym → Verdict Class (Forest Class Nonterminal)
read n xs = verdict_by finish (run n start xs)
