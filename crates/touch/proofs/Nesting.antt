-- The records of a list lie in each other like brackets. Assumes nothing.
use Prim.Native.Nat.{ℕ, suc, ◌+◌, max, ◌≤◌, ◌<◌}
use native.Mathlib.Omega.{arith}
use mathlib.Core.Path.{◌≡◌, refl, sym, ap, ◌∙◌}
use mathlib.Core.List.{List, [], ◌∷◌, ◌++◌, append_assoc, append-nil}
use lib.ListN.{length}
use Rattle.grammar.specs.Believed.Grammar.{levels}
use Rattle.records.specs.Believed.AddressRecords.{AddressRecord}
use Rattle.grammar.specs.Believed.Records.{records}
use Rattle.grammar.specs.Believed.Rfc733.{Derivation, DerivedList}
use Rattle.grammar.specs.Executable.Trees733.{LessThan, GreaterThan, Comma, Semicolon, Colon, Sym, of, Slot, empty, comma, AddressList, idle, full, Address, mailbox, angle, group, quoted, typed}
use Rattle.grammar.proofs.Rfc733.Trees.{nodes_then, slot_then, list_then, address_then, slot_levels, list_levels, address_levels}
use Rattle.grammar.proofs.Rfc733.Derivations.{forest_levels, tree_derived}
use Rattle.grammar.proofs.RecordLaws.{inside-length}
use Rattle.grammar.proofs.Rfc733.TreeRecords.{phrase_end, name_start, address_end, address_record, slot_count, list_count, address_count, slot_records, list_records, inside_records, tree_records}
use Rattle.grammar.proofs.Symbols.{InOrder}
use Rattle.grammar.proofs.Rfc733.Order.{phrase_lies, nodes_lies, name_lies}

-- ---- records that lie in each other

-- a record, those that lie in it, and those after
pub data Nest : Type 0 where
  nil : Nest
  node : AddressRecord → Nest → Nest → Nest

abbrev pub flatten : Nest → List AddressRecord
flatten nil = []
flatten (node r inside rest) = r ∷ (flatten inside ++ flatten rest)

-- how many lie in each other at once, at most
abbrev pub height : Nest → ℕ
height nil = 0
height (node r inside rest) = max (suc (height inside)) (height rest)

-- with this parent, from this number on, between two positions
abbrev pub Well : Nest → ℕ → ℕ → ℕ → ℕ → Type 0
Well nil parent i from to = from ≤ to
Well (node r inside rest) parent i from to =
    (r.parent ≡ parent) × (from ≤ r.start) × (r.start < r.end) × Well inside (suc i) (suc i) r.start r.end
    × Well rest parent (suc i + length (flatten inside)) r.end to

pub well_le : (n : Nest) (p i from to : ℕ) → Well n p i from to → from ≤ to
well_le nil p i from to w = w
well_le (node r inside rest) p i from to w = let h = well_le rest p (suc i + length (flatten inside)) r.end to w.4 in omega (arith, w.1, w.2)

well_from : (n : Nest) (p i from from' to : ℕ) → Well n p i from to → from' ≤ from → Well n p i from' to
well_from nil p i from from' to w h = omega arith
well_from (node r inside rest) p i from from' to w h = (w.0, omega (arith, w.1), w.2, w.3, w.4)

-- ---- the addresses of a list are such

abbrev mutual
  -- before those of `n`, at this depth, with this parent, from this number on
  place_nest : Slot → ℕ → ℕ → ℕ → Nest → Nest
  place_nest empty d p i n = n
  place_nest (comma l t) d p i n = list_nest l d p i n

  list_nest : AddressList → ℕ → ℕ → ℕ → Nest → Nest
  list_nest (idle r) d p i n = place_nest r d p i n
  list_nest (full r a) d p i n = place_nest r d p i (node (address_record a d p) (inside_nest a (suc d) (suc (i + slot_count r))) n)

  inside_nest : Address → ℕ → ℕ → Nest
  inside_nest (mailbox p m) d i = nil
  inside_nest (angle o t l u) d i = list_nest l d i i nil
  inside_nest (group o t l u) d i = list_nest l d i i nil
  inside_nest (quoted t) d i = nil
  inside_nest (typed t a u b) d i = node (address_record b d i) (inside_nest b (suc d) (suc i)) nil

mutual
  place_flat : (r : Slot) (d p i : ℕ) (n : Nest) → flatten (place_nest r d p i n) ≡ slot_records r d p i ++ flatten n
  place_flat empty d p i n = refl
  place_flat (comma l t) d p i n = list_flat l d p i n

  list_flat : (l : AddressList) (d p i : ℕ) (n : Nest) → flatten (list_nest l d p i n) ≡ list_records l d p i ++ flatten n
  list_flat (idle r) d p i n = place_flat r d p i n
  list_flat (full r a) d p i n =
      place_flat r d p i _
      ∙ ap (λ z. slot_records r d p i ++ (address_record a d p ∷ (z ++ flatten n))) (inside_flat a (suc d) (suc (i + slot_count r)))
      ∙ sym (append_assoc (slot_records r d p i) (address_record a d p ∷ inside_records a (suc d) (suc (i + slot_count r))) (flatten n))

  inside_flat : (a : Address) (d i : ℕ) → flatten (inside_nest a d i) ≡ inside_records a d i
  inside_flat (mailbox p m) d i = refl
  inside_flat (angle o t l u) d i = list_flat l d i i nil ∙ append-nil _
  inside_flat (group o t l u) d i = list_flat l d i i nil ∙ append-nil _
  inside_flat (quoted t) d i = refl
  inside_flat (typed t a u b) d i = ap (λ z. address_record b d i ∷ z) (append-nil _ ∙ inside_flat b (suc d) (suc i))

-- .. no more than the levels, and one
mutual
  place_height : (r : Slot) (d p i : ℕ) (n : Nest) → height (place_nest r d p i n) ≤ max (suc (slot_levels r)) (height n)
  place_height empty d p i n = omega arith
  place_height (comma l t) d p i n = list_height l d p i n

  list_height : (l : AddressList) (d p i : ℕ) (n : Nest) → height (list_nest l d p i n) ≤ max (suc (list_levels l)) (height n)
  list_height (idle r) d p i n = place_height r d p i n
  list_height (full r a) d p i n = omega (arith, place_height r d p i (node (address_record a d p) (inside_nest a (suc d) (suc (i + slot_count r))) n), inside_height a (suc d) (suc (i + slot_count r)))

  inside_height : (a : Address) (d i : ℕ) → height (inside_nest a d i) ≤ address_levels a
  inside_height (mailbox p m) d i = omega arith
  inside_height (angle o t l u) d i = omega (arith, list_height l d i i nil)
  inside_height (group o t l u) d i = omega (arith, list_height l d i i nil)
  inside_height (quoted t) d i = omega arith
  inside_height (typed t a u b) d i = omega (arith, inside_height b (suc d) (suc i))

own_parent : (a : Address) (d p : ℕ) → (address_record a d p).parent ≡ p
own_parent (mailbox q m) d p = refl
own_parent (angle o t l u) d p = refl
own_parent (group o t l u) d p = refl
own_parent (quoted t) d p = refl
own_parent (typed t a u b) d p = refl

own_end : (a : Address) (d p : ℕ) → (address_record a d p).end ≡ address_end a
own_end (mailbox q m) d p = refl
own_end (angle o t l u) d p = refl
own_end (group o t l u) d p = refl
own_end (quoted t) d p = refl
own_end (typed t a u b) d p = refl

record NestTaken (nest : ℕ → ℕ → ℕ → Nest → Nest) (count from to : ℕ) (xs : List Sym) : Type 0 where
  up_to : ℕ
  le : from ≤ up_to
  rest : InOrder up_to to xs
  well : (d p i end : ℕ) (n : Nest) → Well n p (i + count) up_to end → Well (nest d p i n) p i from end

record NestTakenBy (a : Address) (from to : ℕ) (xs : List Sym) : Type 0 where
  starts : (d p : ℕ) → from ≤ (address_record a d p).start
  ordered : (d p : ℕ) → (address_record a d p).start < address_end a
  rest : InOrder (address_end a) to xs
  well : (d p e i : ℕ) → Well (inside_nest a e i) i i (address_record a d p).start (address_end a)

well_at : (n : Nest) (p i j from to : ℕ) → i ≡ j → Well n p i from to → Well n p j from to
well_at n p i j from to e w = rw e at w

-- an address of a list
node_well : {a : Address} {from to : ℕ} {xs : List Sym} → NestTakenBy a from to xs → (d p i end : ℕ) (n : Nest) → Well n p (i + address_count a) (address_end a) end
    → Well (node (address_record a d p) (inside_nest a (suc d) (suc i)) n) p i from end
node_well {a} {from} b d p i end n w =
    let q : i + address_count a ≡ suc i + length (flatten (inside_nest a (suc d) (suc i))) = omega (arith, inside-length a (suc d) (suc i), ap length (inside_flat a (suc d) (suc i))) in
    (own_parent a d p, b.starts d p, rw (own_end a d p) (b.ordered d p), rw (own_end a d p) (b.well d p (suc d) (suc i)), rw (own_end a d p) (well_at n p (i + address_count a) (suc i + length (flatten (inside_nest a (suc d) (suc i)))) (address_end a) end q w))

mutual
  place_well : (r : Slot) (from to : ℕ) (xs : List Sym) → InOrder from to (slot_then r xs) → NestTaken (place_nest r) (slot_count r) from to xs
  place_well empty from to xs h = record { up_to = from; le = omega arith; rest = h; well = λ d p i end n w. well_at n p (i + 0) i from end (omega arith) w }
  place_well (comma l t) from to xs h =
      let k = list_well l from to (of Comma t ∷ xs) h in
      record {
        up_to = t.end;
        le = omega (arith, k.le, k.rest.0, k.rest.1);
        rest = k.rest.2;
        well = λ d p i end n w. k.well d p i end n (well_from n p (i + list_count l) t.end k.up_to end w (omega (arith, k.rest.0, k.rest.1)));
      }

  list_well : (l : AddressList) (from to : ℕ) (xs : List Sym) → InOrder from to (list_then l xs) → NestTaken (list_nest l) (list_count l) from to xs
  list_well (idle r) from to xs h = place_well r from to xs h
  list_well (full r a) from to xs h =
      let k = place_well r from to (address_then a xs) h in
      let b = address_well a k.up_to to xs k.rest in
      record {
        up_to = address_end a;
        le = omega (arith, k.le, b.starts 0 0, b.ordered 0 0);
        rest = b.rest;
        well = λ d p i end n w. k.well d p i end _ (node_well b d p (i + slot_count r) end n (well_at n p (i + (slot_count r + address_count a)) (i + slot_count r + address_count a) (address_end a) end (omega arith) w));
      }

  address_well : (a : Address) (from to : ℕ) (xs : List Sym) → InOrder from to (address_then a xs) → NestTakenBy a from to xs
  address_well (mailbox p m) from to xs h =
      let f = phrase_lies p from to (nodes_then m xs) h in
      let g = nodes_lies m (phrase_end p) to xs f.2 in
      record { starts = λ d q. f.0; ordered = λ d q. omega (arith, f.1, g.0); rest = g.1; well = λ d q e i. omega (arith, f.1, g.0) }
  address_well (angle o t l u) from to xs h =
      let f = name_lies o from to (of LessThan t) (list_then l (of GreaterThan u ∷ xs)) h in
      let k = list_well l t.end to (of GreaterThan u ∷ xs) f.4 in
      record {
        starts = λ d q. f.0;
        ordered = λ d q. omega (arith, f.1, f.2, f.3, k.le, k.rest.0, k.rest.1);
        rest = k.rest.2;
        well = λ d q e i. well_from (list_nest l e i i nil) i i t.end (name_start o t) u.end (k.well e i i u.end nil (omega (arith, k.rest.0, k.rest.1))) (omega (arith, f.1, f.2, f.3));
      }
  address_well (group o t l u) from to xs h =
      let f = name_lies o from to (of Colon t) (list_then l (of Semicolon u ∷ xs)) h in
      let k = list_well l t.end to (of Semicolon u ∷ xs) f.4 in
      record {
        starts = λ d q. f.0;
        ordered = λ d q. omega (arith, f.1, f.2, f.3, k.le, k.rest.0, k.rest.1);
        rest = k.rest.2;
        well = λ d q e i. well_from (list_nest l e i i nil) i i t.end (name_start o t) u.end (k.well e i i u.end nil (omega (arith, k.rest.0, k.rest.1))) (omega (arith, f.1, f.2, f.3));
      }
  address_well (quoted t) from to xs h = record { starts = λ d q. h.0; ordered = λ d q. omega (arith, h.1); rest = h.2; well = λ d q e i. omega (arith, h.1) }
  address_well (typed t a u b) from to xs h =
      let k = address_well b u.end to xs h.2.2.2 in
      let z : t.start ≤ u.end = omega (arith, h.1, h.2.0, h.2.1, h.2.2.0, h.2.2.1) in
      record {
        starts = λ d q. h.0;
        ordered = λ d q. omega (arith, k.starts 0 0, k.ordered 0 0, h.1, h.2.0, h.2.1, h.2.2.0, h.2.2.1);
        rest = k.rest;
        well = λ d q e i. well_from (inside_nest (typed t a u b) e i) i i u.end t.start (address_end b) (node_well k e i i (address_end b) nil (omega arith)) z;
      }

-- ---- the records of a derivation are such

pub record Nested (from to : ℕ) (rs : List AddressRecord) : Type 0 where
  pub nest : Nest
  pub flat : flatten nest ≡ rs
  pub well : Well nest 0 0 from to

pub nested : {k : Derivation} {xs : List Sym} (from to : ℕ) → DerivedList k xs → InOrder from to xs → Nested from to (records k)
nested {k} {xs} from to d h =
    let (l, e, t) = tree_derived d in
    let y = list_well l from to [] (rw t.yields h) in
    record {
      nest = list_nest l 0 0 0 nil;
      flat = list_flat l 0 0 0 nil ∙ append-nil _ ∙ sym (ap records e ∙ tree_records l);
      well = y.well 0 0 0 to nil y.rest;
    }

pub nested_height : {k : Derivation} {xs : List Sym} (from to : ℕ) (d : DerivedList k xs) (h : InOrder from to xs) → height (nested from to d h).nest ≤ suc (levels k)
unfolding nested
nested_height {k} from to d h = let (l, e, t) = tree_derived d in omega (arith, list_height l 0 0 0 nil, ap levels e, forest_levels l)
