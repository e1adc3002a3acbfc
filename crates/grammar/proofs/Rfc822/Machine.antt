-- The machine of RFC 822: what its states stand for; every arrow keeps it, and what is given at the end is derived. Assumes nothing.
use mathlib.Core.Path.{refl}
use mathlib.Core.List.{List, [], ◌∷◌}
use Rattle.grammar.specs.Executable.Trees822.{At, LessThan, Comma, Colon, Dot, Sym, of, spec, Mailbox, bare, idle, full, box, word_piece, phrase_piece, domain_piece, local_piece, empties_piece, hops_piece, route_piece, mailbox_piece, box_slot_piece, address_piece, slot_piece}
use Rattle.grammar.proofs.Any.Pieces.{seen}
use Rattle.grammar.proofs.Any.Arrows.{Keeps}
use Rattle.grammar.proofs.Any.Sound.{Given}
use Rattle.grammar.proofs.Rfc822.Derivations.{DerivedList, forest_derived}
use Rattle.grammar.specs.Executable.Machine822.{Here, Open, In, Hop, Behind, State, arrows, box_ends, finish, in_list, in_group, less, bare_in, angle_in, route_in, first_at, next_at, of_spec, of_hop, place, word, phrase, local, local_dot, at, domain, domain_dot, opened, hop, route, boxed, closed}

-- ---- what has been read, put before `xs`

abbrev pub here_then : Here → List Sym → List Sym
here_then (in_list r) xs = seen (slot_piece r) xs
here_then (in_group r p t s) xs = seen (slot_piece r) (seen (phrase_piece p) (of Colon t ∷ seen (box_slot_piece s) xs))

abbrev pub open_then : Open → List Sym → List Sym
open_then (less h p t) xs = here_then h (seen (phrase_piece p) (of LessThan t ∷ xs))

abbrev pub in_then : In → List Sym → List Sym
in_then (bare_in h) xs = here_then h xs
in_then (angle_in o) xs = open_then o xs
in_then (route_in o r) xs = open_then o (seen (route_piece r) xs)

abbrev pub hop_then : Hop → List Sym → List Sym
hop_then (first_at g) xs = seen (empties_piece g) xs
hop_then (next_at h t g) xs = seen (hops_piece h) (of Comma t ∷ seen (empties_piece g) xs)

abbrev pub behind_then : Behind → List Sym → List Sym
behind_then (of_spec c l t) xs = in_then c (seen (local_piece l) (of At t ∷ xs))
behind_then (of_hop o f t) xs = open_then o (hop_then f (of At t ∷ xs))

abbrev pub state_then : State → List Sym → List Sym
state_then (place h) xs = here_then h xs
state_then (word h w) xs = here_then h (seen (word_piece w) xs)
state_then (phrase h p) xs = here_then h (seen (phrase_piece p) xs)
state_then (local c l) xs = in_then c (seen (local_piece l) xs)
state_then (local_dot c l t) xs = in_then c (seen (local_piece l) (of Dot t ∷ xs))
state_then (at d) xs = behind_then d xs
state_then (domain d m) xs = behind_then d (seen (domain_piece m) xs)
state_then (domain_dot d m t) xs = behind_then d (seen (domain_piece m) (of Dot t ∷ xs))
state_then (opened o) xs = open_then o xs
state_then (hop o f) xs = open_then o (hop_then f xs)
state_then (route o r) xs = open_then o (seen (route_piece r) xs)
state_then (boxed h b) xs = here_then h (seen (mailbox_piece b) xs)
state_then (closed r a) xs = seen (slot_piece r) (seen (address_piece a) xs)

-- ---- every arrow keeps it

pub kept : (s : State) → Keeps state_then s (arrows s)
kept (place (in_list r)) = (λ t xs. refl, (λ t xs. refl, (λ t xs. refl, tt)))
kept (place (in_group r p c s)) = (λ t xs. refl, (λ t xs. refl, (λ t xs. refl, (λ t xs. refl, tt))))
kept (word (in_list r) w) = (λ t xs. refl, (λ t xs. refl, (λ t xs. refl, (λ t xs. refl, (λ t xs. refl, (λ t xs. refl, tt))))))
kept (word (in_group r p c s) w) = (λ t xs. refl, (λ t xs. refl, (λ t xs. refl, (λ t xs. refl, (λ t xs. refl, tt)))))
kept (phrase (in_list r) p) = (λ t xs. refl, (λ t xs. refl, (λ t xs. refl, (λ t xs. refl, tt))))
kept (phrase (in_group r q c s) p) = (λ t xs. refl, (λ t xs. refl, (λ t xs. refl, tt)))
kept (local c l) = (λ t xs. refl, (λ t xs. refl, tt))
kept (local_dot c l t) = (λ t xs. refl, (λ t xs. refl, tt))
kept (at d) = (λ t xs. refl, (λ t xs. refl, tt))
kept (domain (of_spec (bare_in (in_list r)) l t) m) = (λ t xs. refl, (λ t xs. refl, tt))
kept (domain (of_spec (bare_in (in_group r p c s)) l t) m) = (λ t xs. refl, (λ t xs. refl, (λ t xs. refl, tt)))
kept (domain (of_spec (angle_in (less h p v)) l t) m) = (λ t xs. refl, (λ t xs. refl, tt))
kept (domain (of_spec (route_in (less h p v) r) l t) m) = (λ t xs. refl, (λ t xs. refl, tt))
kept (domain (of_hop o (first_at g) t) m) = (λ t xs. refl, (λ t xs. refl, (λ t xs. refl, tt)))
kept (domain (of_hop o (next_at h u g) t) m) = (λ t xs. refl, (λ t xs. refl, (λ t xs. refl, tt)))
kept (domain_dot d m t) = (λ t xs. refl, (λ t xs. refl, tt))
kept (opened o) = (λ t xs. refl, (λ t xs. refl, (λ t xs. refl, (λ t xs. refl, tt))))
kept (hop o (first_at g)) = (λ t xs. refl, (λ t xs. refl, tt))
kept (hop o (next_at h u g)) = (λ t xs. refl, (λ t xs. refl, (λ t xs. refl, tt)))
kept (route o r) = (λ t xs. refl, (λ t xs. refl, tt))
kept (boxed (in_list r) b) = (λ t xs. refl, tt)
kept (boxed (in_group r p c s) b) = (λ t xs. refl, (λ t xs. refl, tt))
kept (closed r a) = (λ t xs. refl, tt)

-- ---- what is given at the end is derived

box_gives : (h : Here) (b : Mailbox) → Given (λ k. DerivedList k (here_then h (seen (mailbox_piece b) []))) (box_ends h b)
box_gives (in_list r) b = forest_derived (full r (box b)) refl
box_gives (in_group r p c s) b = tt

pub gives : (s : State) → Given (λ k. DerivedList k (state_then s [])) (finish s)
gives (place (in_list r)) = forest_derived (idle r) refl
gives (place (in_group r p c s)) = tt
gives (word h w) = tt
gives (phrase h p) = tt
gives (local c l) = tt
gives (local_dot c l t) = tt
gives (at d) = tt
gives (domain (of_spec (bare_in h) l t) m) = box_gives h (bare (spec l t m))
gives (domain (of_spec (angle_in o) l t) m) = tt
gives (domain (of_spec (route_in o r) l t) m) = tt
gives (domain (of_hop o f t) m) = tt
gives (domain_dot d m t) = tt
gives (opened o) = tt
gives (hop o f) = tt
gives (route o r) = tt
gives (boxed h b) = box_gives h b
gives (closed r a) = forest_derived (full r a) refl
