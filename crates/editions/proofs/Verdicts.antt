-- What the loop of RFC 822 comes to is the machine's verdict, with the records of the derivation. Assumes nothing.
use Prim.Native.Nat.{ℕ}
use mathlib.Core.Path.{◌≡◌, refl, sym, ap, ◌∙◌}
use mathlib.Core.Bool.{true, false}
use mathlib.Core.List.{List}
use mathlib.Core.Option.{Option, none, some}
use Rattle.grammar.specs.Believed.Grammar.{Forest}
use Rattle.grammar.specs.Believed.Language.{unfit, unfinished, too_deep, Verdict, accepted, refused}
use Rattle.grammar.specs.Believed.Records.{records}
use Rattle.grammar.specs.Believed.Rfc822.{Nonterminal}
use Rattle.grammar.specs.Executable.Machines.{Result, ended, stopped, at_end, verdict_by}
use Rattle.grammar.specs.Executable.Trees822.{Class, Sym, bare, spec, empty, comma, idle, full, box, one_word, more_word}
use Rattle.grammar.specs.Executable.Machine822.{in_list, in_group, bare_in, angle_in, route_in, first_at, next_at, of_spec, of_hop, State, place, word, phrase, local, local_dot, at, domain, domain_dot, opened, hop, route, boxed, closed, run, finish, start, read}
use Rattle.editions.specs.Ties.Places.{Walked, WalkEnd, ends, stops, walk_from, may_end}
use Rattle.editions.proofs.Follows.{walked_in, Matches, matches}
use Rattle.editions.proofs.WalkRecords.{list_records_lem}

abbrev DoneIs : Option (Forest Class Nonterminal) → Walked → Type 0
DoneIs none f = may_end f ≡ false
DoneIs (some k) f = (may_end f ≡ true) × (f.records ≡ records k)

done : (s : State) (a b : ℕ) → DoneIs (finish s) (walked_in s a b)
done (place (in_list r)) a b = (refl, sym (list_records_lem (idle r)))
done (place (in_group r p c empty)) a b = refl
done (place (in_group r p c (comma l t))) a b = refl
done (word h w) a b = refl
done (phrase h q) a b = refl
done (local (bare_in h) l) a b = refl
done (local (angle_in o) (one_word w)) a b = refl
done (local (angle_in o) (more_word l t w)) a b = refl
done (local (route_in o r) (one_word w)) a b = refl
done (local (route_in o r) (more_word l t w)) a b = refl
done (local_dot (bare_in h) l t) a b = refl
done (local_dot (angle_in o) l t) a b = refl
done (local_dot (route_in o r) l t) a b = refl
done (at (of_spec (bare_in h) l t)) a b = refl
done (at (of_spec (angle_in o) l t)) a b = refl
done (at (of_spec (route_in o r) l t)) a b = refl
done (at (of_hop o f t)) a b = refl
done (domain (of_spec (bare_in (in_list r)) l t) m) a b = (refl, sym (list_records_lem (full r (box (bare (spec l t m))))))
done (domain (of_spec (bare_in (in_group r p c s)) l t) m) a b = refl
done (domain (of_spec (angle_in o) l t) m) a b = refl
done (domain (of_spec (route_in o r) l t) m) a b = refl
done (domain (of_hop o f t) m) a b = refl
done (domain_dot (of_spec (bare_in h) l t) m u) a b = refl
done (domain_dot (of_spec (angle_in o) l t) m u) a b = refl
done (domain_dot (of_spec (route_in o r) l t) m u) a b = refl
done (domain_dot (of_hop o f t) m u) a b = refl
done (opened o) a b = refl
done (hop o (first_at g)) a b = refl
done (hop o (next_at h u g)) a b = refl
done (route o r) a b = refl
done (boxed (in_list r) m) a b = (refl, sym (list_records_lem (full r (box m))))
done (boxed (in_group r p c s) m) a b = refl
done (closed r x) a b = (refl, sym (list_records_lem (full r x)))

-- ---- the verdict

-- what a verdict says of the loop's end
abbrev pub Says : Verdict Class (Forest Class Nonterminal) → WalkEnd → Type 0
Says (accepted k) e = (f : Walked) × (e ≡ ends f) × (may_end f ≡ true) × (f.records ≡ records k)
Says (refused unfit rest) e = e ≡ stops rest
Says (refused unfinished rest) e = (f : Walked) × (e ≡ ends f) × (may_end f ≡ false)
Says (refused too_deep rest) e = ⊥

says_end : (o : Option (Forest Class Nonterminal)) (f : Walked) (e : WalkEnd) → DoneIs o f → e ≡ ends f → Says (at_end o) e
says_end none f e d q = (f, q, d)
says_end (some k) f e d q = (f, q, d.0, d.1)

says : (r : Result Class State) (e : WalkEnd) → Matches r e → Says (verdict_by finish r) e
says (ended s) e m = let (a, b, q) = m in says_end (finish s) (walked_in s a b) e (done s a b) q
says (stopped unfit rest) e m = m.1
says (stopped unfinished rest) e m = absurd (let q = m.0 in cc)
says (stopped too_deep rest) e m = absurd (let q = m.0 in cc)

-- the loop from the start says what the machine says, whatever the numbers that do not matter
pub loop_says : (n a b : ℕ) (xs : List Sym) → Says (read n xs) (walk_from (walked_in start a b) xs)
loop_says n a b xs = says (run n start xs) (walk_from (walked_in start a b) xs) (matches n start a b xs)

-- ---- from the loop's end to the verdict

listed_by : (v : Verdict Class (Forest Class Nonterminal)) (e : WalkEnd) (f : Walked) → Says v e → e ≡ ends f → may_end f ≡ true → (k : Forest Class Nonterminal) × (v ≡ accepted k) × (f.records ≡ records k)
listed_by (accepted k) e f (g, q, d, r) p t = let h : f ≡ g = cc in (k, refl, ap (λ (z : Walked). z.records) h ∙ r)
listed_by (refused unfit rest) e f s p t = absurd cc
listed_by (refused unfinished rest) e f (g, q, d) p t = absurd cc
listed_by (refused too_deep rest) e f s p t = absurd s

unfinished_by : (v : Verdict Class (Forest Class Nonterminal)) (e : WalkEnd) (f : Walked) → Says v e → e ≡ ends f → may_end f ≡ false → (rest : List Sym) × (v ≡ refused unfinished rest)
unfinished_by (accepted k) e f (g, q, d, r) p t = absurd cc
unfinished_by (refused unfit rest) e f s p t = absurd cc
unfinished_by (refused unfinished rest) e f s p t = (rest, refl)
unfinished_by (refused too_deep rest) e f s p t = absurd s

stopped_by : (v : Verdict Class (Forest Class Nonterminal)) (e : WalkEnd) (rest : List Sym) → Says v e → e ≡ stops rest → v ≡ refused unfit rest
stopped_by (accepted k) e rest (g, q, d, r) p = absurd cc
stopped_by (refused unfit rest') e rest s p = let h : rest' ≡ rest = cc in ap (refused unfit) h
stopped_by (refused unfinished rest') e rest (g, q, d) p = absurd cc
stopped_by (refused too_deep rest') e rest s p = absurd s

pub loop_listed : (n a b : ℕ) (xs : List Sym) (f : Walked) → walk_from (walked_in start a b) xs ≡ ends f → may_end f ≡ true → (k : Forest Class Nonterminal) × (read n xs ≡ accepted k) × (f.records ≡ records k)
loop_listed n a b xs f e t = listed_by (read n xs) (walk_from (walked_in start a b) xs) f (loop_says n a b xs) e t

pub loop_unfinished : (n a b : ℕ) (xs : List Sym) (f : Walked) → walk_from (walked_in start a b) xs ≡ ends f → may_end f ≡ false → (rest : List Sym) × (read n xs ≡ refused unfinished rest)
loop_unfinished n a b xs f e t = unfinished_by (read n xs) (walk_from (walked_in start a b) xs) f (loop_says n a b xs) e t

pub loop_stopped : (n a b : ℕ) (xs rest : List Sym) → walk_from (walked_in start a b) xs ≡ stops rest → read n xs ≡ refused unfit rest
loop_stopped n a b xs rest e = stopped_by (read n xs) (walk_from (walked_in start a b) xs) rest (loop_says n a b xs) e
