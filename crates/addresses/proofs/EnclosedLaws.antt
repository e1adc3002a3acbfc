-- Addresses that hold a list or an address: angle lists, groups and typed addresses. Assumes nothing.
use mathlib.Core.Path.{◌≡◌, refl, sym, ap, subst, ◌∙◌}
use mathlib.Core.Bool.{Bool, true, false, true≢false}
use mathlib.Core.List.{List, [], ◌∷◌}
use mathlib.Core.Option.{Option, none, some}
use Prim.Native.Nat.{ℕ, suc, ◌+◌, ◌*◌, ◌-◌, ◌≤◌, ◌<◌}
use native.Mathlib.Omega.{arith}
use lib.ListN.{length}
use lib.Seq.{sets}
use Rattle.octets.specs.Believed.Numbers.{ends_too_soon, too_many_levels, level_limit}
use Rattle.octets.specs.Believed.Text.{part}
use Rattle.records.specs.Believed.AddressRecords.{AddressRecord, record_by, record_bytes, table_bytes, address_record_size, address_layout}
use Rattle.records.proofs.TableLaws.{stored_in_front}
use Rattle.scanner.specs.declared.Next.{Next}
use Rattle.scanner.specs.Believed.Answers.{found_at}
use Rattle.scanner.specs.declared.Next.TheVariants.{Found, Ended, Fault}
use Rattle.grammar.specs.Believed.Language.{unfit, unfinished, too_deep, refused, number}
use Rattle.grammar.specs.Believed.Rfc733.{same_class, kind_number, typed_kind}
use Rattle.grammar.proofs.Symbols.{same_class_lem, each_of}
use Rattle.grammar.specs.Executable.Trees733.{Class, Atom, GreaterThan, Semicolon, Colon, Lexeme, Sym, of, Phrase, AddressList, empty, idle, angle, group, typed}
use Rattle.grammar.proofs.Rfc733.Trees.{name_then, atom_colon}
use Rattle.grammar.specs.Executable.Machine733.{Here, in_typed, in_angle, in_group, list, want, levels_here, levels_at, nameless, fresh, run, judge}
use Rattle.grammar.proofs.Rfc733.Complete.{begin, done_address, done_list, Clear, complete_done_list, run_angle, run_group}
use Rattle.grammar.proofs.Rfc733.Readers.{ListEnds, ends_address, ends_list, deep_angle, deep_group, closed_unfit, clear_colon, run_typed}
use Rattle.grammar.proofs.Rfc733.TreeRecords.{name_start, name_end, address_end, address_records, list_records}
use Rattle.addresses.specs.Ties.Steps.{ends_address_next, closes_next, refused_next, opening, closing, enclosure_kind, level_in, enclosed, House, symbols_from, lexeme_at, symbols_on, symbols_ahead, Standing, AddressRead, AddressStops, AddressIs, Opening, Opened, ListRead, ListStops, inner, TypedFirst}
use Rattle.addresses.specs.declared.Frame.{Frame}
use Rattle.records.specs.declared.Span.{Span}
use Rattle.addresses.specs.declared.Enclosure.{Enclosure}
use Rattle.addresses.specs.declared.Enclosure.TheVariants.{Angle, Group}
use Rattle.addresses.proofs.NextLaws.{NextIs}
use Rattle.addresses.proofs.AddressLaws.{ends_next}

-- ---- both enclosures alike

levels_in : (e : Enclosure) (h : Here) (o : Option Phrase) (t : Lexeme) → levels_at (level_in e h o t) ≡ suc (levels_here h)
levels_in Angle h o t = refl
levels_in Group h o t = refl

-- the machine opens a level
run_enclosed : (e : Enclosure) (n : ℕ) (h : Here) (o : Option Phrase) (t : Lexeme) (xs ys : List Sym) → xs ≡ name_then o (of (opening e) t ∷ ys) → levels_here h < n → Clear (fresh h) (atom_colon xs)
    → run n (begin h) xs ≡ run n (list (level_in e h o t) (idle empty)) ys
run_enclosed Angle n h o t xs ys e l c = ap (run n (begin h)) e ∙ run_angle n h o t ys l
run_enclosed Group n h o t xs ys e l c = ap (run n (begin h)) e ∙ run_group n h o t ys l (clear_colon h o t xs ys e c)

deep_enclosed : (e : Enclosure) (h : Here) (o : Option Phrase) (t : Lexeme) (xs ys : List Sym) → xs ≡ name_then o (of (opening e) t ∷ ys) → Clear (fresh h) (atom_colon xs)
    → judge (run (levels_here h + 0) (begin h) xs) ≡ refused too_deep (of (opening e) t ∷ ys)
deep_enclosed Angle h o t xs ys e c = ap (λ zs. judge (run (levels_here h + 0) (begin h) zs)) e ∙ deep_angle h o t ys
deep_enclosed Group h o t xs ys e c = ap (λ zs. judge (run (levels_here h + 0) (begin h) zs)) e ∙ deep_group h o t ys (clear_colon h o t xs ys e c)

clear_inside : (e : Enclosure) (h : Here) (o : Option Phrase) (t : Lexeme) (ys : List Sym) → House e o ys → Clear (nameless (level_in e h o t)) (atom_colon ys)
clear_inside Angle h o t ys v = tt
clear_inside Group h none t ys v = v
clear_inside Group h (some p) t ys v = tt

-- the closing mark
run_close : (e : Enclosure) (n : ℕ) (h : Here) (o : Option Phrase) (t : Lexeme) (l : AddressList) (u : Lexeme) (ys : List Sym)
    → run n (done_list (level_in e h o t) l) (of (closing e) u ∷ ys) ≡ run n (done_address h (enclosed e o t l u)) ys
run_close Angle n h o t l u ys = rw (complete_done_list (in_angle h o t) l)
run_close Group n h o t l u ys = rw (complete_done_list (in_group h o t) l)

-- any other mark that may stand after a list
run_other : (e : Enclosure) (n : ℕ) (h : Here) (o : Option Phrase) (t : Lexeme) (l : AddressList) (class : Class) (u : Lexeme) (ys : List Sym) → ListEnds (of class u ∷ ys) → same_class (closing e) class ≡ false
    → judge (run n (done_list (level_in e h o t) l) (of class u ∷ ys)) ≡ refused unfit (of class u ∷ ys)
run_other e n h o t l class u ys v f =
    each_of (λ c. same_class (closing e) c ≡ false → judge (run n (done_list (level_in e h o t) l) (of c u ∷ ys)) ≡ refused unfit (of c u ∷ ys)) ends_list (greater e, (semicolon e, tt)) class v f
  where
    greater : (e : Enclosure) → same_class (closing e) GreaterThan ≡ false → judge (run n (done_list (level_in e h o t) l) (of GreaterThan u ∷ ys)) ≡ refused unfit (of GreaterThan u ∷ ys)
    greater Angle f = absurd (true≢false f)
    greater Group f = rw (complete_done_list (in_group h o t) l)

    semicolon : (e : Enclosure) → same_class (closing e) Semicolon ≡ false → judge (run n (done_list (level_in e h o t) l) (of Semicolon u ∷ ys)) ≡ refused unfit (of Semicolon u ∷ ys)
    semicolon Angle f = rw (complete_done_list (in_angle h o t) l)
    semicolon Group f = absurd (true≢false f)

run_unclosed : (e : Enclosure) (n : ℕ) (h : Here) (o : Option Phrase) (t : Lexeme) (l : AddressList) → judge (run n (done_list (level_in e h o t) l) []) ≡ refused unfinished []
run_unclosed Angle n h o t l = rw (complete_done_list (in_angle h o t) l)
run_unclosed Group n h o t l = rw (complete_done_list (in_group h o t) l)

-- after the closing mark
run_behind : (e : Enclosure) (n : ℕ) (h : Here) (o : Option Phrase) (t : Lexeme) (l : AddressList) (u : Lexeme) (class : Class) (v : Lexeme) (ys : List Sym) → ends_address class ≡ false
    → judge (run n (done_address h (enclosed e o t l u)) (of class v ∷ ys)) ≡ refused unfit (of class v ∷ ys)
run_behind Angle n h o t l u class v ys f = ap judge (closed_unfit h n (angle o t l u) class v ys f)
run_behind Group n h o t l u class v ys f = ap judge (closed_unfit h n (group o t l u) class v ys f)

-- its record, and those inside
record_of : (e : Enclosure) (o : Option Phrase) (t : Lexeme) (l : AddressList) (u : Lexeme) (depth parent i : ℕ)
    → address_records (enclosed e o t l u) depth parent i ≡ record_by (enclosure_kind e) depth parent (name_start o t) u.end (name_start o t) (name_end o t) ∷ list_records l (suc depth) (suc i) (suc i)
record_of Angle o t l u depth parent i = refl
record_of Group o t l u depth parent i = refl

end_of : (e : Enclosure) (o : Option Phrase) (t : Lexeme) (l : AddressList) (u : Lexeme) → address_end (enclosed e o t l u) ≡ u.end
end_of Angle o t l u = refl
end_of Group o t l u = refl

count_of : (e : Enclosure) (o : Option Phrase) (t : Lexeme) (l : AddressList) (u : Lexeme) → Rattle.grammar.proofs.Rfc733.TreeRecords.address_count (enclosed e o t l u) ≡ suc (Rattle.grammar.proofs.Rfc733.TreeRecords.list_count l)
count_of Angle o t l u = refl
count_of Group o t l u = refl

-- ---- a record that is written after those which lie in its address

stored_in : (table between after : List ℕ) (i levels : ℕ) (r : AddressRecord) (rs : ℕ → ℕ → List AddressRecord) → (levels ≡ 0 → ⊥) → levels ≤ level_limit
    → between ≡ sets table ((i + 1) * address_record_size) (table_bytes (rs (level_limit - (levels - 1)) (i + 1))) → after ≡ sets between (i * address_record_size) (record_bytes r)
    → after ≡ sets table (i * address_record_size) (table_bytes (r ∷ rs (suc (level_limit - levels)) (suc i)))
stored_in table between after i levels r rs n h e f =
    let d : level_limit - (levels - 1) ≡ suc (level_limit - levels) = omega arith in
    let p : i + 1 ≡ suc i = omega arith in
    stored_in_front address_layout table i r (rs (suc (level_limit - levels)) (suc i)) (e ∙ rw (d, p)) f

module _ (classes text : List ℕ) where
  -- ---- angle lists and groups

  pub deep_stops : (e : Enclosure) {xs : List Sym} {a b : ℕ} {span : Span} (frame : Frame) → Opening classes text e xs a b span → frame.level.left ≡ 0 → AddressStops classes text xs frame too_many_levels a
  deep_stops e {xs} {a} {b} frame o z =
      record {
        why = too_deep;
        rest = symbols_on classes text (opening e) a b o.apart;
        number_is = refl;
        place_is = refl;
        stops = λ h c. rw z (deep_enclosed e h o.name (lexeme_at classes text (opening e) a b o.apart) xs (symbols_from classes text b) o.yields c);
      }

  module _ (e : Enclosure) {xs : List Sym} {a b : ℕ} {span : Span} (frame : Frame) (o : Opening classes text e xs a b span) (n : frame.level.left ≡ 0 → ⊥) where
    abbrev mark : Lexeme
    mark = lexeme_at classes text (opening e) a b o.apart

    -- the machine comes to the list
    comes_in : (h : Here) → Clear (fresh h) (atom_colon xs) → run (levels_here h + frame.level.left) (begin h) xs ≡ run (levels_at (level_in e h o.name mark) + (inner classes text frame).level.left) (list (level_in e h o.name mark) (idle empty)) (symbols_from classes text b)
    comes_in h c =
        let q : levels_at (level_in e h o.name mark) + (frame.level.left - 1) ≡ levels_here h + frame.level.left = omega (arith, levels_in e h o.name mark) in
        rw q (run_enclosed e (levels_here h + frame.level.left) h o.name mark xs (symbols_from classes text b) o.yields (omega arith) c)

    clear_in : (h : Here) → Clear (nameless (level_in e h o.name mark)) (atom_colon (symbols_from classes text b))
    clear_in h = clear_inside e h o.name mark (symbols_from classes text b) o.house

    -- a refusal in the list
    pub inside_stops : {number-told place : ℕ} → ListStops classes text b (inner classes text frame) number-told place → AddressStops classes text xs frame number-told place
    inside_stops s =
        record { why = s.why; rest = s.rest; number_is = s.number_is; place_is = s.place_is; stops = λ h c. ap judge (comes_in h c) ∙ s.stops (level_in e h o.name mark) (clear_in h) }

    module _ {table between : List ℕ} {ahead : Next} {low free : ℕ} (l : ListRead classes text b (inner classes text frame) table between ahead low free) where
      -- .. and through it
      comes_through : (h : Here) → Clear (fresh h) (atom_colon xs) → run (levels_here h + frame.level.left) (begin h) xs ≡ run (levels_here h + frame.level.left) (done_list (level_in e h o.name mark) l.tree) (symbols_ahead classes text ahead)
      comes_through h c =
          let q : levels_at (level_in e h o.name mark) + (frame.level.left - 1) ≡ levels_here h + frame.level.left = omega (arith, levels_in e h o.name mark) in
          comes_in h c ∙ l.reads (level_in e h o.name mark) (clear_in h) ∙ ap (λ (i : ℕ). run i (done_list (level_in e h o.name mark) l.tree) (symbols_ahead classes text ahead)) q

  -- no symbol is left that could close the list
  never_closed : (e : Enclosure) {xs : List Sym} {a b : ℕ} {span : Span} (frame : Frame) → Opening classes text e xs a b span → (frame.level.left ≡ 0 → ⊥) → {table between : List ℕ} {ahead : Next} {low free : ℕ}
      → ListRead classes text b (inner classes text frame) table between ahead low free → symbols_ahead classes text ahead ≡ [] → AddressStops classes text xs frame ends_too_soon (length text)
  never_closed e {xs} {a} {b} frame o n l z =
      record {
        why = unfinished;
        rest = [];
        number_is = refl;
        place_is = refl;
        stops = λ h c. ap judge (comes_through e frame o n l h c ∙ ap (run (levels_here h + frame.level.left) _) z) ∙ run_unclosed e (levels_here h + frame.level.left) h o.name (lexeme_at classes text (opening e) a b o.apart) l.tree;
      }

  -- the list is not closed
  pub unclosed_stops : (e : Enclosure) {xs : List Sym} {a b : ℕ} {span : Span} (frame : Frame) → Opening classes text e xs a b span → (frame.level.left ≡ 0 → ⊥) → {table between : List ℕ} (ahead : Next) {low free : ℕ}
      → ListRead classes text b (inner classes text frame) table between ahead low free → (start : ℕ) (after : List ℕ) → closes_next e ahead ≡ false
      → AddressIs classes text xs frame start table after (refused_next (length text) ahead)
  unclosed_stops e {xs} {a} {b} frame o n (Found x) l start after f =
      record {
        why = unfit;
        rest = symbols_ahead classes text (Found x);
        number_is = refl;
        place_is = refl;
        stops = λ h c. ap judge (comes_through e frame o n l h c)
            ∙ run_other e (levels_here h + frame.level.left) h o.name (lexeme_at classes text (opening e) a b o.apart) l.tree x.class (lexeme_at classes text x.class x.start x.end x.apart) (symbols_from classes text x.end) l.ends f;
      }
  unclosed_stops e frame o n Ended l start after f = never_closed e frame o n l refl
  unclosed_stops e frame o n (Fault number p) l start after f = never_closed e frame o n l refl

  module _ (e : Enclosure) {xs : List Sym} {a b : ℕ} {span : Span} (frame : Frame) (o : Opening classes text e xs a b span) (n : frame.level.left ≡ 0 → ⊥)
      {table between : List ℕ} {class : Class} {i j size low free : ℕ} {apart : Bool} (l : ListRead classes text b (inner classes text frame) table between (found_at class i j size apart) low free) (q : same_class (closing e) class ≡ true) where
    abbrev closed_by : Lexeme
    closed_by = lexeme_at classes text class i j apart

    -- the machine comes after the closing mark
    comes_behind : (h : Here) → Clear (fresh h) (atom_colon xs)
        → run (levels_here h + frame.level.left) (begin h) xs ≡ run (levels_here h + frame.level.left) (done_address h (enclosed e o.name (lexeme_at classes text (opening e) a b o.apart) l.tree closed_by)) (symbols_from classes text j)
    comes_behind h c =
        comes_through e frame o n l h c
        ∙ ap (λ (k : Class). run (levels_here h + frame.level.left) (done_list (level_in e h o.name (lexeme_at classes text (opening e) a b o.apart)) l.tree) (of k closed_by ∷ symbols_from classes text j)) (sym (same_class_lem (closing e) class q))
        ∙ run_close e (levels_here h + frame.level.left) h o.name (lexeme_at classes text (opening e) a b o.apart) l.tree closed_by (symbols_from classes text j)

    -- something after it that does not end the address
    pub behind_stops : (behind : Next) → NextIs classes text j behind → ends_address_next behind ≡ false → (start : ℕ) (after : List ℕ) → AddressIs classes text xs frame start table after (refused_next (length text) behind)
    behind_stops (Found y) x f start after =
        record {
          why = unfit;
          rest = symbols_ahead classes text (Found y);
          number_is = refl;
          place_is = refl;
          stops = λ h c. ap judge (comes_behind h c ∙ ap (run (levels_here h + frame.level.left) _) x.same)
              ∙ run_behind e (levels_here h + frame.level.left) h o.name (lexeme_at classes text (opening e) a b o.apart) l.tree closed_by y.class (lexeme_at classes text y.class y.start y.end y.apart) (symbols_from classes text y.end) f;
        }
    behind_stops Ended x f start after = absurd (true≢false f)
    behind_stops (Fault number p) x f start after = absurd (true≢false f)

    -- the address
    pub enclosed_read : (behind : Next) (after : List ℕ) → NextIs classes text j behind → ends_address_next behind ≡ true → Opened classes text a b span frame
        → after ≡ sets between (frame.number * address_record_size) (record_bytes (record_by (enclosure_kind e) (level_limit - frame.level.left) frame.level.parent span.start j span.start span.end))
        → AddressRead classes text xs frame span.start table after behind j free
    enclosed_read behind after x f p w =
        let t = lexeme_at classes text (opening e) a b o.apart in
        let s : Standing classes text i j = l.ahead_ok.1 in
        let its-records : record_by (enclosure_kind e) (level_limit - frame.level.left) frame.level.parent span.start j span.start span.end ∷ list_records l.tree (suc (level_limit - frame.level.left)) (suc frame.number) (suc frame.number)
        ≡ address_records (enclosed e o.name t l.tree closed_by) (level_limit - frame.level.left) frame.level.parent frame.number =
        rw (o.start_is, o.end_is) (sym (record_of e o.name t l.tree closed_by (level_limit - frame.level.left) frame.level.parent frame.number)) in
        record {
          tree = enclosed e o.name t l.tree closed_by;
          reads = λ h c. comes_behind h c ∙ ap (run (levels_here h + frame.level.left) _) x.same;
          ends = ends_next classes text j behind x.ok f;
          ahead_ok = x.ok;
          last_is = sym (end_of e o.name t l.tree closed_by);
          count = omega (arith, l.count, count_of e o.name t l.tree closed_by);
          stored =
              stored_in table between after frame.number frame.level.left _ (λ d m. list_records l.tree d m m) n p.ready.levels_low l.stored w
              ∙ ap (λ rs. sets table (frame.number * address_record_size) (table_bytes rs)) its-records;
          from = omega (arith, p.behind, p.stands.starts, l.from, l.ahead_ok.0, s.starts);
          within = s.within;
          free_low = omega (arith, l.free_low, l.ahead_ok.0, s.starts);
        }

  -- ---- typed addresses

  module _ {start end behind : ℕ} (apart : Bool) {atom : Span} {frame : Frame} (t : TypedFirst classes text start end atom behind frame) where
    abbrev first_colon : Lexeme
    first_colon = lexeme_at classes text Colon start end apart

    abbrev the_atom : Lexeme
    the_atom = lexeme_at classes text Atom atom.start atom.end t.follows.atom_apart

    pub typed_deep : frame.level.left ≡ 0 → AddressStops classes text (symbols_on classes text Colon start end apart) frame too_many_levels start
    typed_deep z =
        record {
          why = too_deep;
          rest = symbols_on classes text Colon start end apart;
          number_is = refl;
          place_is = refl;
          stops = λ h c. subst (λ (m : ℕ). judge (run (levels_here h + m) (begin h) (symbols_on classes text Colon start end apart)) ≡ refused too_deep (symbols_on classes text Colon start end apart)) (sym z)
              (deep_enclosed Group h none first_colon (symbols_on classes text Colon start end apart) (symbols_from classes text end) refl c);
        }

    module _ (n : frame.level.left ≡ 0 → ⊥) where
      -- the machine comes after the second colon
      comes_typed : (h : Here) → run (levels_here h + frame.level.left) (begin h) (symbols_on classes text Colon start end apart)
          ≡ run (levels_here (in_typed h first_colon the_atom t.follows.colon) + (inner classes text frame).level.left) (want h first_colon the_atom t.follows.colon) (symbols_from classes text behind)
      comes_typed h =
          let q : levels_here h + suc (frame.level.left - 1) ≡ levels_here h + frame.level.left = omega arith in
          let p : suc (levels_here h) + (frame.level.left - 1) ≡ levels_here h + frame.level.left = omega arith in
          ap (λ (ys : List Sym). run (levels_here h + frame.level.left) (begin h) (of Colon first_colon ∷ ys)) t.follows.yields
          ∙ ap (λ (m : ℕ). run m (begin h) (of Colon first_colon ∷ of Atom the_atom ∷ of Colon t.follows.colon ∷ symbols_from classes text behind)) (sym q)
          ∙ run_typed (frame.level.left - 1) first_colon the_atom t.follows.colon (symbols_from classes text behind) h
          ∙ ap (λ (m : ℕ). run m (want h first_colon the_atom t.follows.colon) (symbols_from classes text behind)) (q ∙ sym p)

      want_ends : (k : Class) → ends_address k ≡ true → (u : Lexeme) (ys : List Sym) (h : Here)
          → judge (run (levels_here (in_typed h first_colon the_atom t.follows.colon) + (inner classes text frame).level.left) (want h first_colon the_atom t.follows.colon) (of k u ∷ ys)) ≡ refused unfit (of k u ∷ ys)
      want_ends k e u ys h =
          each_of (λ c. judge (run (levels_here (in_typed h first_colon the_atom t.follows.colon) + (inner classes text frame).level.left) (want h first_colon the_atom t.follows.colon) (of c u ∷ ys)) ≡ refused unfit (of c u ∷ ys)) ends_address
          (refl, (refl, (refl, tt))) k e

      typed_ends : symbols_from classes text behind ≡ [] → AddressStops classes text (symbols_on classes text Colon start end apart) frame ends_too_soon (length text)
      typed_ends e =
          record {
            why = unfinished;
            rest = [];
            number_is = refl;
            place_is = refl;
            stops = λ h c. ap judge (comes_typed h ∙ ap (run _ (want h first_colon the_atom t.follows.colon)) e);
          }

      -- what is wanted does not begin
      pub typed_wanted : (ahead : Next) → NextIs classes text behind ahead → (start' : ℕ) (table after : List ℕ) → ends_address_next ahead ≡ true
          → AddressIs classes text (symbols_on classes text Colon start end apart) frame start' table after (refused_next (length text) ahead)
      typed_wanted (Found y) x start' table after f =
          record {
            why = unfit;
            rest = symbols_ahead classes text (Found y);
            number_is = refl;
            place_is = refl;
            stops = λ h c. ap judge (comes_typed h ∙ ap (run _ (want h first_colon the_atom t.follows.colon)) x.same) ∙ want_ends y.class f (lexeme_at classes text y.class y.start y.end y.apart) (symbols_from classes text y.end) h;
          }
      typed_wanted Ended x start' table after f = typed_ends x.same
      typed_wanted (Fault number p) x start' table after f = typed_ends x.same

      module _ {class : Class} {i j size : ℕ} {apart' : Bool} (x : NextIs classes text behind (found_at class i j size apart')) where
        pub typed_stops : {number-told place : ℕ} → AddressStops classes text (symbols_on classes text class i j apart') (inner classes text frame) number-told place
            → AddressStops classes text (symbols_on classes text Colon start end apart) frame number-told place
        typed_stops s =
            record {
              why = s.why;
              rest = s.rest;
              number_is = s.number_is;
              place_is = s.place_is;
              stops = λ h c. ap judge (comes_typed h ∙ ap (run _ (want h first_colon the_atom t.follows.colon)) x.same) ∙ s.stops (in_typed h first_colon the_atom t.follows.colon) tt;
            }

        pub typed_read : {ahead : Next} {last free : ℕ} (table between after : List ℕ) → AddressRead classes text (symbols_on classes text class i j apart') (inner classes text frame) i table between ahead last free
            → after ≡ sets between (frame.number * address_record_size) (record_bytes (record_by (kind_number (typed_kind (part text atom.start atom.end))) (level_limit - frame.level.left) frame.level.parent start last atom.start atom.end))
            → AddressRead classes text (symbols_on classes text Colon start end apart) frame start table after ahead last free
        typed_read {ahead} {last} {free} table between after r w =
            let p : (h : Here) → suc (levels_here h) + (frame.level.left - 1) ≡ levels_here h + frame.level.left = λ h. omega arith in
            record {
              tree = typed first_colon the_atom t.follows.colon r.tree;
              reads = λ h c. comes_typed h ∙ ap (run _ (want h first_colon the_atom t.follows.colon)) x.same ∙ r.reads (in_typed h first_colon the_atom t.follows.colon) tt
                  ∙ ap (λ (m : ℕ). run m (done_address h (typed first_colon the_atom t.follows.colon r.tree)) (symbols_ahead classes text ahead)) (p h);
              ends = r.ends;
              ahead_ok = r.ahead_ok;
              last_is = r.last_is;
              count = omega (arith, r.count);
              stored =
                  rw (← r.last_is)
                  (stored_in table between after frame.number frame.level.left _ (λ d m. address_records r.tree d m m) n t.ready.levels_low r.stored w);
              from = omega (arith, t.stands.starts, t.follows.from, t.follows.atom_starts, t.follows.end_before, x.ok.0, r.from);
              within = r.within;
              free_low = r.free_low;
            }
