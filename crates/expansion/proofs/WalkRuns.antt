-- The walk, stage by stage, as the code goes. Assumes nothing.
use Prim.Native.Nat.{ℕ, zero, suc, ◌+◌, ◌*◌, ◌≤◌}
use native.Mathlib.Omega.{arith}
use mathlib.Core.Path.{◌≡◌, refl, sym, ap, ◌∙◌}
use mathlib.Core.Bool.{Bool, true, false}
use mathlib.Core.List.{List, [], ◌∷◌}
use Rattle.std.specs.Prelude.{Option, None, Some, Result, Ok, Err}
use lib.ListN.{length}
use Rattle.octets.specs.Believed.Choice.{pick}
use Rattle.octets.specs.Believed.Classes.{class_table}
use Rattle.octets.specs.Believed.Numbers.{message_limit, opening_limit, store_record_size, leads_nowhere}
use Rattle.octets.proofs.Writes.{wrote_both}
use Rattle.scanner.specs.Believed.Scanning.{scan, scan_by, symbols_of}
use Rattle.scanner.specs.Believed.Answers.{found_at, next_of}
use Rattle.scanner.specs.declared.Class.{Class}
use Rattle.scanner.specs.declared.Next.{Next}
use Rattle.scanner.specs.declared.Next.TheVariants.{Found, Ended, Fault as fault_next}
use Rattle.scanner.specs.Ties.Meanings.{meaning_at}
use Rattle.scanner.proofs.Unfolding.{SymbolAt, found}
use Rattle.grammar.proofs.Rfc733.Readers.{ends_address}
use Rattle.plain.specs.Ties.Walking.{symbol_text, after, after_comma, colon_next}
use Rattle.plain.specs.Ties.Writing.{is_colon}
use Rattle.plain.specs.declared.places.Place.{Place}
use Rattle.plain.proofs.WalkSteps.{colon_of, behind, behind_falls}
use Rattle.expansion.specs.Believed.Store.{list_in}
use Rattle.expansion.specs.Ties.Walk.{Sym, Trail, halted, before, include_here, after_one, in_typed, levels_after, inner_after, WalkOpening, writing, skipping, sought, include_trail, walk, walk_within}
use Rattle.addresses.specs.Ties.Steps.{symbols_from}
use Rattle.expansion.specs.Ties.Steps.{LevelsAre, LevelsAfter, skip_to, IncludeBegins, OpenedIs, place_of, levels_around, spot, joined_stage, WriteOnIs, Continuation, walk_symbols, RecordOpens, VerdictIs, Onward, symbol_share, text_share, Goes, Halts, RecordWalked, TextWalked}
use Rattle.expansion.specs.declared.Spot.{Spot}
use Rattle.expansion.specs.declared.levels.Levels.{Levels}
use Rattle.octets.specs.declared.answers.Fault.{Fault}
use Rattle.expansion.specs.declared.Stage.{Stage}
use Rattle.expansion.specs.declared.Stopped.{Stopped}
use Rattle.expansion.proofs.SeekSteps.{NotFound, no_symbols, next_symbol, sought_in}
use Rattle.expansion.proofs.Seeking.{Ending, at_greater, at_comma, at_semicolon, ending}
use Rattle.expansion.proofs.StoreLaws.{InStore}
use Rattle.expansion.proofs.WalkThrough.{twice, unmoved}

-- ---- trails one after the other

onward_none : (trail : Continuation → Trail) (out : List ℕ) (n : ℕ) → Onward trail trail out n out n
onward_none trail out n = record { put = λ r. r; same = λ k. sym (unmoved (trail k)); wrote = record { same = λ rest. refl; count = λ rest. refl } }

onward_then : {a b c : Continuation → Trail} {o o' o'' : List ℕ} {n n' n'' : ℕ} → Onward a b o n o' n' → Onward b c o' n' o'' n'' → Onward a c o n o'' n''
onward_then {c = c} x y =
    record { put = λ r. x.put (y.put r); same = λ k. x.same k ∙ ap (before x.put) (y.same k) ∙ twice x.put y.put (c k); wrote = wrote_both {f = x.put} {g = y.put} x.wrote y.wrote }

-- ---- an Include that is skipped

-- where an address ends no Include begins
no_include : {c : Class} (place : Place) (xs : List Sym) → Ending c → include_here c place xs ≡ false
no_include place xs at_greater = refl
no_include place xs at_comma = refl
no_include place xs at_semicolon = refl

outside : (inner e : Bool) → pick inner false e ≡ true → e ≡ true
outside true e h = cc
outside false e h = h

module _ (store : List ℕ) (opening : WalkOpening) (place_of : ℕ → ℕ) (base : ℕ) where
  skip_by : (x : Sym) (xs rest : List Sym) (place : Place) (s : List Bool) (u : ℕ) (k : Continuation) (t : Trail) (inner z : Bool) → pick inner false (ends_address x.class) ≡ z
      → t ≡ walk store opening place_of base writing place s rest u k
      → pick z (before (λ r. symbol_text x.class x.lexeme.meaning place (colon_next xs) r) (walk store opening place_of base writing (after x.class place (colon_next xs)) (levels_after x.class place (colon_next xs) s) xs u k)) t
      ≡ walk store opening place_of base writing place s (pick z (x ∷ xs) rest) u k
  skip_by x xs rest place s u k t inner true e h =
      sym
      (ap
      (λ z. pick z (include_trail store opening (in_typed s) (place_of x.lexeme.start) (base + length s) place xs u (λ p v. walk store opening place_of base (skipping false) p s xs v k))
      (before (λ r. symbol_text x.class x.lexeme.meaning place (colon_next xs) r) (walk store opening place_of base writing (after x.class place (colon_next xs)) (levels_after x.class place (colon_next xs) s) xs u k)))
      (no_include place xs (ending x.class (outside inner (ends_address x.class) e))))
  skip_by x xs rest place s u k t inner false e h = h

  pub skip_walk : (inner : Bool) (place : Place) (s : List Bool) (xs : List Sym) (u : ℕ) (k : Continuation)
      → walk store opening place_of base (skipping inner) place s xs u k ≡ walk store opening place_of base writing place s (skip_to inner xs) u k
  skip_walk inner place s [] u k = refl
  skip_walk inner place s (x ∷ xs) u k =
      skip_by x xs (skip_to (inner_after x.class inner) xs) place s u k (walk store opening place_of base (skipping (inner_after x.class inner)) place s xs u k) inner _ refl (skip_walk (inner_after x.class inner) place s xs u k)

-- ---- a record

module _ (store : List ℕ) (i position depth : ℕ) (stage : Stage) (out : List ℕ) where
  pub record_faulty : {f : Fault} → VerdictIs store i position depth stage.openings (Err f) → RecordWalked store i position depth stage out out (Err (record { fault = f; openings = stage.openings }))
  record_faulty f deep following h = f deep (after_comma stage.place) following h

  module _ (classes : List ℕ) (same : classes ≡ class_table) (o : RecordOpens store i position depth stage.openings) where
    symbols_are : symbols_from classes (list_in store i) 0 ≡ symbols_of (scan (list_in store i) 0)
    symbols_are = ap (λ c. symbols_from c (list_in store i) 0) same

    steps : (deep : ℕ) (k : Continuation)
        → walk_within store (suc deep) i position depth (after_comma stage.place) stage.openings k ≡ walk_symbols store deep (Some (spot position depth)) (after_comma stage.place) [] (symbols_from classes (list_in store i) 0) (stage.openings + 1) k
    steps deep k = o.walks deep (after_comma stage.place) k ∙ ap (λ xs. walk_symbols store deep (Some (spot position depth)) (after_comma stage.place) [] xs (stage.openings + 1) k) (sym symbols_are)

    went : {out' : List ℕ} {r : Stage} (g : Goes (λ deep k. walk_symbols store deep (Some (spot position depth)) (after_comma stage.place) [] (symbols_from classes (list_in store i) 0) (stage.openings + 1) k) 1 (joined_stage stage (stage.openings + 1)) out out' r) (deep : ℕ) → opening_limit ≤ deep + stage.openings
        → Onward (λ k. walk_within store deep i position depth (after_comma stage.place) stage.openings k) (λ k. k r.place r.openings) out stage.written out' r.written
    went g zero h = absurd (omega (arith, h, o.few))
    went g (suc deep) h = let y = g.onward deep (omega (arith, h)) in record { put = y.put; same = λ k. steps deep k ∙ y.same k; wrote = y.wrote }

    halts : (n p u : ℕ) → Halts (λ deep k. walk_symbols store deep (Some (spot position depth)) (after_comma stage.place) [] (symbols_from classes (list_in store i) 0) (stage.openings + 1) k) (stage.openings + 1) n p u
        → Halts (λ deep k. walk_within store deep i position depth (after_comma stage.place) stage.openings k) stage.openings n p u
    halts n p u f zero k h = absurd (omega (arith, h, o.few))
    halts n p u f (suc deep) k h = steps deep k ∙ f deep k (omega (arith, h))

    pub record_walked : (out' : List ℕ) (r : Result Stage Stopped) → TextWalked classes store (list_in store i) 0 (Some (spot position depth)) (joined_stage stage (stage.openings + 1)) out out' r → RecordWalked store i position depth stage out out' r
    record_walked out' (Ok r) g = record { from = omega (arith, g.from); few = g.few; counted = omega (arith, g.counted); onward = went g }
    record_walked out' (Err s) f = halts s.fault.number s.fault.position s.openings f

-- ---- the loop

-- no more is left than the text and one
behind_low : (l : ℕ) (n : Next) → behind l n ≤ suc l
behind_low l (Found symbol) = omega arith
behind_low l Ended = omega arith
behind_low l (fault_next number p) = omega arith

module _ (classes store text : List ℕ) (start : ℕ) (around : Option Spot) (stage : Stage) (out₀ : List ℕ) where
  abbrev trails : ℕ → Continuation → Trail
  trails deep k = walk_symbols store deep around stage.place [] (symbols_from classes text start) stage.openings k

  -- the walk has come to a position from which `coming` is next, with these levels open: what is written, and what is left to be walked
  pub record Walking (out : List ℕ) (here : Stage) (levels : Levels) (coming : Next) : Type 0 where
    pub at : ℕ
    pub is : coming ≡ next_of (scan_by classes text at)
    pub s : List Bool
    pub levels_are : LevelsAre levels s
    pub from : stage.openings ≤ here.openings
    pub few : here.openings ≤ opening_limit
    pub counted : here.written + symbol_share * behind (length text) coming + text_share * stage.openings ≤ stage.written + text_share * (here.openings + 1)
    pub same_length : length out ≡ length out₀
    pub onward : (deep : ℕ) → opening_limit ≤ deep + stage.openings
        → Onward (trails deep) (λ k. walk_symbols store deep around here.place s (symbols_from classes text at) here.openings k) out₀ stage.written out here.written

  pub walking_first : {coming : Next} (levels : Levels) → length text ≤ message_limit → stage.openings ≤ opening_limit → LevelsAre levels [] → coming ≡ next_of (scan_by classes text start) → Walking out₀ stage levels coming
  walking_first {coming} levels short few n e =
      record {
        at = start;
        is = e;
        s = [];
        levels_are = n;
        from = omega arith;
        few = few;
        counted = omega (arith, behind_low (length text) coming, short);
        same_length = refl;
        onward = λ deep h. onward_none (trails deep) out₀ stage.written;
      }

  module _ {out : List ℕ} {here : Stage} {levels : Levels} {coming : Next} (l : Walking out here levels coming) where
    -- the walk ends
    pub walking_none : NotFound coming → Goes trails 1 stage out₀ out (joined_stage here here.openings)
    walking_none h =
        record {
          from = l.from;
          few = l.few;
          counted = omega (arith, l.counted);
          onward = λ deep d. rw (no_symbols classes text coming l.at l.is h) at (l.onward deep d);
        }

    -- the symbol that comes
    pub comes : {class : Class} {first end size : ℕ} {apart : Bool} → coming ≡ found_at class first end size apart → SymbolAt classes text l.at class first end
    comes e = found classes text l.at (sym e ∙ l.is)

    -- what is written so far has room in a count
    pub room : stage.written ≤ text_share * stage.openings → here.written ≤ text_share * (here.openings + 1)
    room h = omega (arith, h, l.counted, l.from)

    module _ {class : Class} {first end size : ℕ} {apart : Bool} (e : coming ≡ found_at class first end size apart) where
      abbrev x : SymbolAt classes text l.at class first end
      x = comes e

      abbrev written' : ℕ → Continuation → Bool → Trail
      written' deep k colon =
          before (λ r. symbol_text class (meaning_at classes text class first end) here.place colon r)
          (walk_symbols store deep around (after class here.place colon) (levels_after class here.place colon l.s) (symbols_from classes text end) here.openings k)

      abbrev included : ℕ → Continuation → Trail
      included deep k =
          include_trail store (λ i p b q u n. walk_within store deep i p b q u n) (in_typed l.s) (place_of around first) (levels_around around + length l.s) here.place (symbols_from classes text end) here.openings
          (λ p u. walk store (λ i p b q u n. walk_within store deep i p b q u n) (place_of around) (levels_around around) (skipping false) p l.s (symbols_from classes text end) u k)

      at_symbol : (deep : ℕ) (k : Continuation) (z : Bool) → include_here class here.place (symbols_from classes text end) ≡ z
          → walk_symbols store deep around here.place l.s (symbols_from classes text l.at) here.openings k ≡ pick z (included deep k) (written' deep k (colon_next (symbols_from classes text end)))
      at_symbol deep k z f =
          ap (λ ys. walk_symbols store deep around here.place l.s ys here.openings k) (next_symbol classes text (comes e))
          ∙ ap (λ y. pick y (included deep k) (written' deep k (colon_next (symbols_from classes text end)))) f

      -- it is written
      pub walking_symbol : {later : Next} {colon : Bool} {levels' : Levels} {out' : List ℕ} {here' : Stage} → length text ≤ message_limit → include_here class here.place (symbols_from classes text end) ≡ false
          → later ≡ next_of (scan_by classes text end) → colon ≡ is_colon later → LevelsAfter class here.place colon levels levels' → length out' ≡ length out → WriteOnIs classes text class first end colon here out out' here'
          → Walking out' here' levels' later
      walking_symbol {later} {colon} {levels'} {out'} {here'} short f g c v q w =
          let colon_is : colon ≡ colon_next (symbols_from classes text end) = c ∙ ap is_colon g ∙ colon_of (scan_by classes text end) in
          let less = behind_falls end (comes e) (omega arith) e g in
          record {
            at = end;
            is = g;
            s = levels_after class here.place colon l.s;
            levels_are = v l.s l.levels_are;
            from = omega (arith, l.from, w.openings_is);
            few = omega (arith, l.few, w.openings_is);
            counted = omega (arith, l.counted, w.counted, w.openings_is, less, short);
            same_length = q ∙ l.same_length;
            onward = λ deep d.
                onward_then (l.onward deep d)
                (record {
                  put = symbol_text class (meaning_at classes text class first end) here.place colon;
                  same = λ k.
                      at_symbol deep k false f ∙ ap (written' deep k) (sym colon_is)
                      ∙ ap (before (symbol_text class (meaning_at classes text class first end) here.place colon))
                      (ap (λ p. walk_symbols store deep around p (levels_after class here.place colon l.s) (symbols_from classes text end) here.openings k) (sym w.place_is)
                      ∙ ap (λ u. walk_symbols store deep around here'.place (levels_after class here.place colon l.s) (symbols_from classes text end) u k) (sym w.openings_is));
                  wrote = w.wrote;
                });
          }

      -- an Include begins
      module _ {behind' position : ℕ} (b : IncludeBegins classes text class here.place end behind') (q : position ≡ place_of around first) where
        abbrev led : List Sym → Option ℕ
        led xs = pick (in_typed l.s) None (sought store xs)

        at_include : (deep : ℕ) (k : Continuation) {o : Option ℕ} → led (symbols_from classes text behind') ≡ o
            → walk_symbols store deep around here.place l.s (symbols_from classes text l.at) here.openings k
            ≡ elim o [
              | None ↦ halted leads_nowhere position here.openings
              | Some i ↦ walk_within store deep i position (levels_around around + length l.s) (after_comma here.place) here.openings
                  (λ p u. walk store (λ i p b q u n. walk_within store deep i p b q u n) (place_of around) (levels_around around) (skipping false) p l.s (symbols_from classes text end) u k)
            ]
        at_include deep k {o} g =
            at_symbol deep k true b.is
            ∙ ap
            (λ (z : Option ℕ × ℕ). elim z.0 [
              | None ↦ halted leads_nowhere z.1 here.openings
              | Some i ↦ walk_within store deep i z.1 (levels_around around + length l.s) (after_comma here.place) here.openings
                  (λ p u. walk store (λ i p b q u n. walk_within store deep i p b q u n) (place_of around) (levels_around around) (skipping false) p l.s (symbols_from classes text end) u k)
            ])
            (ap (λ n. (led (after_one (after_one (symbols_from classes text end))), n)) (sym q) ∙ ap (λ n. (n, position)) (ap led (sym b.rest) ∙ g))

        -- it leads nowhere
        pub walking_nowhere : OpenedIs classes text behind' levels store None → Halts trails stage.openings leads_nowhere position here.openings
        walking_nowhere o deep k d =
            let g : led (symbols_from classes text behind') ≡ None = sym (o l.s l.levels_are) in
            (l.onward deep d).same k ∙ ap (before (l.onward deep d).put) (at_include deep k g)

        -- it leads to a record
        module _ {i : ℕ} (o : OpenedIs classes text behind' levels store (Some i)) where
          leads : led (symbols_from classes text behind') ≡ Some i
          leads = sym (o l.s l.levels_are)

          pub record_inside : i * store_record_size + store_record_size ≤ length store
          record_inside = rw leads at (by (in_typed l.s))
            where
              by : (z : Bool) → InStore store (pick z None (sought store (symbols_from classes text behind')))
              by true = tt
              by false = sought_in store (symbols_from classes text behind')

          module _ {depth : ℕ} (m : depth ≡ levels_around around + levels.many) where
            depth_is : depth ≡ levels_around around + length l.s
            depth_is = omega (arith, m, l.levels_are.many_is)

            opened : (deep : ℕ) (k : Continuation)
                → walk_symbols store deep around here.place l.s (symbols_from classes text l.at) here.openings k
                ≡ walk_within store deep i position depth (after_comma here.place) here.openings
                (λ p u. walk store (λ i p b q u n. walk_within store deep i p b q u n) (place_of around) (levels_around around) (skipping false) p l.s (symbols_from classes text end) u k)
            opened deep k = rw depth_is (at_include deep k leads)

            pub walking_stopped : {n p u : ℕ} → Halts (λ deep k. walk_within store deep i position depth (after_comma here.place) here.openings k) here.openings n p u → Halts trails stage.openings n p u
            walking_stopped f deep k d = (l.onward deep d).same k ∙ ap (before (l.onward deep d).put) (opened deep k ∙ f deep _ (omega (arith, d, l.from)))

            pub walking_opened : {out' : List ℕ} {further : Stage} {r : ℕ} {later : Next} → RecordWalked store i position depth here out out' (Ok further) → length out' ≡ length out
                → (symbols_from classes text r ≡ skip_to false (symbols_from classes text end)) × (end ≤ r) → later ≡ next_of (scan_by classes text r) → Walking out' further levels later
            walking_opened {out'} {further} {r} {later} g q' (same, less) v =
                let falls = behind_falls r (comes e) less e v in
                record {
                  at = r;
                  is = v;
                  s = l.s;
                  levels_are = l.levels_are;
                  from = omega (arith, l.from, g.from);
                  few = g.few;
                  counted = omega (arith, l.counted, g.counted, falls, g.from, l.from);
                  same_length = q' ∙ l.same_length;
                  onward = λ deep d.
                      let y = g.onward deep (omega (arith, d, l.from)) in
                      onward_then (l.onward deep d)
                      (record {
                        put = y.put;
                        same = λ k.
                            opened deep k ∙ y.same _
                            ∙ ap (before y.put)
                            (skip_walk store (λ i p b q u n. walk_within store deep i p b q u n) (place_of around) (levels_around around) false further.place l.s (symbols_from classes text end) further.openings k
                            ∙ ap (λ ys. walk_symbols store deep around further.place l.s ys further.openings k) (sym same));
                        wrote = y.wrote;
                      });
                }
