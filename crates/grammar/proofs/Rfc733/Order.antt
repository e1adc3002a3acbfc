-- Records of symbols that stand one after the other in a body: at most half as many as the body has bytes, their starts ascend,
-- and their spans and names lie in the body. Assumes nothing.
use Prim.Native.Nat.{ℕ, suc, ◌+◌, ◌*◌, ◌≤◌, ◌<◌}
use native.Mathlib.Omega.{arith}
use mathlib.Core.Path.{◌≡◌, ap, ◌∙◌}
use mathlib.Core.List.{List, [], ◌∷◌}
use mathlib.Core.Option.{Option, none, some}
use lib.ListN.{length}
use Rattle.records.specs.Believed.AddressRecords.{AddressRecord}
use Rattle.grammar.specs.Believed.Records.{count, records}
use Rattle.grammar.specs.Believed.Rfc733.{Derivation, DerivedList}
use Rattle.grammar.proofs.Symbols.{least_bytes, InOrder}
use Rattle.grammar.proofs.Any.Records.{length-records}
use Rattle.grammar.proofs.Any.Order.{Lies, Ascending, lies_widen, ascending_widen, ascending_append}
use Rattle.grammar.specs.Executable.Trees733.{At, LessThan, GreaterThan, Comma, Semicolon, Colon, Lexeme, Sym, of, Word, atom_word, quoted_word, Phrase, one, more, Nodes, first, next, Slot, empty, comma, AddressList, idle, full, Address, mailbox, angle, group, quoted, typed}
use Rattle.grammar.proofs.Rfc733.Trees.{word_symbol, phrase_then, name_then, nodes_then, slot_then, list_then, address_then}
use Rattle.grammar.proofs.Rfc733.Derivations.{tree_derived}
use Rattle.grammar.proofs.Rfc733.TreeRecords.{word_lexeme, phrase_start, phrase_end, nodes_end, name_start, name_end, address_end, address_record, slot_count, list_count, address_count, slot_records, list_records, inside_records, tree_records, tree_count}

-- ---- the parts of a list in order

word_lies : (w : Word) (from to : ℕ) (xs : List Sym) → InOrder from to (word_symbol w ∷ xs)
    → (from ≤ (word_lexeme w).start) × ((word_lexeme w).start < (word_lexeme w).end) × InOrder (word_lexeme w).end to xs
word_lies (atom_word t) from to xs h = (h.0, omega (arith, h.1), h.2)
word_lies (quoted_word t) from to xs h = (h.0, omega (arith, h.1), h.2)

pub phrase_lies : (p : Phrase) (from to : ℕ) (xs : List Sym) → InOrder from to (phrase_then p xs)
    → (from ≤ phrase_start p) × (phrase_start p < phrase_end p) × InOrder (phrase_end p) to xs
phrase_lies (one w) from to xs h = word_lies w from to xs h
phrase_lies (more p w) from to xs h =
    let f = phrase_lies p from to (word_symbol w ∷ xs) h in
    let g = word_lies w (phrase_end p) to xs f.2 in
    (f.0, omega (arith, f.1, g.0, g.1), g.2)

pub nodes_lies : (m : Nodes) (from to : ℕ) (xs : List Sym) → InOrder from to (nodes_then m xs) → (from + 2 ≤ nodes_end m) × InOrder (nodes_end m) to xs
nodes_lies (first t w) from to xs h =
    let g = word_lies w t.end to xs h.2 in
    (omega (arith, h.0, h.1, g.0, g.1), g.2)
nodes_lies (next m t w) from to xs h =
    let f = nodes_lies m from to (of At t ∷ word_symbol w ∷ xs) h in
    let g = word_lies w t.end to xs f.1.2 in
    (omega (arith, f.0, f.1.0, f.1.1, g.0, g.1), g.2)

-- a name, and the mark after it
pub name_lies : (o : Option Phrase) (from to : ℕ) (x : Sym) (xs : List Sym) → InOrder from to (name_then o (x ∷ xs))
    → (from ≤ name_start o x.lexeme) × (name_start o x.lexeme ≤ name_end o x.lexeme) × (name_end o x.lexeme ≤ x.lexeme.start)
    × (x.lexeme.start + least_bytes x.class ≤ x.lexeme.end) × InOrder x.lexeme.end to xs
name_lies none from to x xs h = (h.0, omega arith, omega arith, h.1, h.2)
name_lies (some p) from to x xs h =
    let f = phrase_lies p from to (x ∷ xs) h in
    (f.0, omega (arith, f.1), f.2.0, f.2.1, f.2.2)

-- some addresses: what they take of the symbols, two bytes or more for each of them, and their records
record Taken (from to n : ℕ) (xs : List Sym) (rs : ℕ → ℕ → ℕ → List AddressRecord) : Type 0 where
  up_to : ℕ
  wide : from + 2 * n ≤ up_to
  rest : InOrder up_to to xs
  ascending : (d par i : ℕ) → Ascending from up_to (rs d par i)

-- .. and one address
record TakenBy (a : Address) (from to : ℕ) (xs : List Sym) : Type 0 where
  wide : from + 2 * address_count a ≤ address_end a
  rest : InOrder (address_end a) to xs
  lies : (d par : ℕ) → Lies from (address_end a) (address_record a d par)
  ascending : (d par e i : ℕ) → Ascending (suc (address_record a d par).start) (address_end a) (inside_records a e i)

-- an address between an opening and a closing mark: the name before the opening one, and the list between them
marked_lies : (from to : ℕ) (o : Option Phrase) (t u : Lexeme) (l : AddressList) (kind : ℕ) (xs : List Sym)
    → (from ≤ name_start o t) → (name_start o t ≤ name_end o t) → (name_end o t ≤ t.start) → (t.start < t.end) → (u.start < u.end)
    → (k : Taken t.end to (list_count l) xs (list_records l)) → (k.up_to ≤ u.start)
    → (d par : ℕ) → Lies from u.end record { kind = kind; depth = d; parent = par; start = name_start o t; end = u.end; name_start = name_start o t; name_end = name_end o t }
marked_lies from to o t u l kind xs a b c e f k g d par =
    record { after_from = a; name_after = omega arith; name_order = b; name_before = omega (arith, k.wide); not_empty = omega (arith, k.wide); before_to = omega arith }

mutual
  slot_taken : (r : Slot) (from to : ℕ) (xs : List Sym) → InOrder from to (slot_then r xs) → Taken from to (slot_count r) xs (slot_records r)
  slot_taken empty from to xs h = record { up_to = from; wide = omega arith; rest = h; ascending = λ d par i. omega arith }
  slot_taken (comma l t) from to xs h =
      let k = list_taken l from to (of Comma t ∷ xs) h in
      record {
        up_to = t.end;
        wide = omega (arith, k.wide, k.rest.0, k.rest.1);
        rest = k.rest.2;
        ascending = λ d par i. ascending_widen from k.up_to from t.end (list_records l d par i) (k.ascending d par i) (omega arith) (omega (arith, k.rest.0, k.rest.1));
      }

  list_taken : (l : AddressList) (from to : ℕ) (xs : List Sym) → InOrder from to (list_then l xs) → Taken from to (list_count l) xs (list_records l)
  list_taken (idle r) from to xs h = slot_taken r from to xs h
  list_taken (full r a) from to xs h =
      let k = slot_taken r from to (address_then a xs) h in
      let b = address_taken a k.up_to to xs k.rest in
      record {
        up_to = address_end a;
        wide = omega (arith, k.wide, b.wide);
        rest = b.rest;
        ascending = λ d par i.
            ascending_append from k.up_to (address_end a) (slot_records r d par i) _ (k.ascending d par i) (b.lies d par, b.ascending d par (suc d) (suc (i + slot_count r)));
      }

  address_taken : (a : Address) (from to : ℕ) (xs : List Sym) → InOrder from to (address_then a xs) → TakenBy a from to xs
  address_taken (mailbox p m) from to xs h =
      let f = phrase_lies p from to (nodes_then m xs) h in
      let g = nodes_lies m (phrase_end p) to xs f.2 in
      record {
        wide = omega (arith, f.0, f.1, g.0);
        rest = g.1;
        lies = λ d par. record { after_from = f.0; name_after = omega arith; name_order = omega (arith, f.1); name_before = omega (arith, g.0); not_empty = omega (arith, f.1, g.0); before_to = omega arith };
        ascending = λ d par e i. omega (arith, f.1, g.0);
      }
  address_taken (angle o t l u) from to xs h =
      let f = name_lies o from to (of LessThan t) (list_then l (of GreaterThan u ∷ xs)) h in
      let k = list_taken l t.end to (of GreaterThan u ∷ xs) f.4 in
      let opened : t.start < t.end = omega (arith, f.3) in
      let closed : u.start < u.end = omega (arith, k.rest.1) in
      record {
        wide = omega (arith, f.0, f.1, f.2, k.wide, k.rest.0);
        rest = k.rest.2;
        lies = marked_lies from to o t u l _ _ f.0 f.1 f.2 opened closed k k.rest.0;
        ascending = λ d par e i. ascending_widen t.end k.up_to (suc (name_start o t)) u.end (list_records l e i i) (k.ascending e i i) (omega (arith, f.1, f.2)) (omega (arith, k.rest.0));
      }
  address_taken (group o t l u) from to xs h =
      let f = name_lies o from to (of Colon t) (list_then l (of Semicolon u ∷ xs)) h in
      let k = list_taken l t.end to (of Semicolon u ∷ xs) f.4 in
      let opened : t.start < t.end = omega (arith, f.3) in
      let closed : u.start < u.end = omega (arith, k.rest.1) in
      record {
        wide = omega (arith, f.0, f.1, f.2, k.wide, k.rest.0);
        rest = k.rest.2;
        lies = marked_lies from to o t u l _ _ f.0 f.1 f.2 opened closed k k.rest.0;
        ascending = λ d par e i. ascending_widen t.end k.up_to (suc (name_start o t)) u.end (list_records l e i i) (k.ascending e i i) (omega (arith, f.1, f.2)) (omega (arith, k.rest.0));
      }
  address_taken (quoted t) from to xs h =
      record {
        wide = omega (arith, h.0, h.1);
        rest = h.2;
        lies = λ d par. record { after_from = h.0; name_after = omega arith; name_order = omega (arith, h.1); name_before = omega arith; not_empty = omega (arith, h.1); before_to = omega arith };
        ascending = λ d par e i. omega (arith, h.1);
      }
  address_taken (typed t a u b) from to xs h =
      let k = address_taken b u.end to xs h.2.2.2 in
      let z : t.start + 3 ≤ u.end = omega (arith, h.1, h.2.0, h.2.1, h.2.2.0, h.2.2.1) in
      record {
        wide = omega (arith, h.0, k.wide);
        rest = k.rest;
        lies = λ d par. record { after_from = h.0; name_after = omega (arith, h.1, h.2.0); name_order = omega (arith, h.2.1); name_before = omega (arith, h.2.2.0, h.2.2.1, k.wide); not_empty = omega (arith, k.wide); before_to = omega arith };
        ascending = λ d par e i. (lies_widen u.end (address_end b) (suc t.start) (address_end b) _ (k.lies e i) (omega arith) (omega arith), k.ascending e i (suc e) (suc i));
      }

-- ---- of a derivation

-- the records lie in the body, in order of start
pub records_ascend : {k : Derivation} {xs : List Sym} (from to : ℕ) → DerivedList k xs → InOrder from to xs → Ascending from to (records k)
records_ascend {k} {xs} from to d h =
    let (l, e, t) = tree_derived d in
    let y = list_taken l from to [] (rw t.yields h) in
    let q : records k ≡ list_records l 0 0 0 = ap records e ∙ tree_records l in
    rw q (ascending_widen from y.up_to from to (list_records l 0 0 0) (y.ascending 0 0 0) (omega arith) y.rest)

-- there are at most half as many addresses as bytes
pub count_half : {k : Derivation} {xs : List Sym} (from to : ℕ) → DerivedList k xs → InOrder from to xs → from + 2 * count k ≤ to
count_half {k} {xs} from to d h =
    let (l, e, t) = tree_derived d in
    let y = list_taken l from to [] (rw t.yields h) in
    let q : count k ≡ list_count l = ap count e ∙ tree_count l in
    omega (arith, y.wide, y.rest)

-- .. and so many records
pub records_half : {k : Derivation} {xs : List Sym} (from to : ℕ) → DerivedList k xs → InOrder from to xs → from + 2 * length (records k) ≤ to
records_half {k} from to d h = omega (arith, length-records k, count_half from to d h)
