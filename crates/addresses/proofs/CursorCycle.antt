-- What a walk tells in the functions that call each other. Assumes nothing.
use mathlib.Core.Path.{◌≡◌, refl, ap, ◌∙◌}
use mathlib.Core.Bool.{Bool, true, false, true≢false}
use mathlib.Core.List.{List}
use mathlib.Core.Option.{none}
use Prim.Native.Nat.{ℕ, suc, ◌+◌, ◌*◌, ◌-◌, ◌≤◌, ◌<◌}
use native.Mathlib.Omega.{arith}
use lib.ListN.{length}
use lib.Seq.{sets}
use Rattle.std.specs.Prelude.{Result, Ok, Err}
use Rattle.octets.specs.Believed.Numbers.{level_limit}
use Rattle.octets.specs.Believed.Text.{part}
use Rattle.octets.specs.declared.answers.Answer.{Answer}
use Rattle.addresses.specs.declared.Refusal.{Refusal}
use Rattle.addresses.specs.declared.Refusal.TheVariants.{TooDeep}
use Rattle.records.specs.Believed.AddressRecords.{record_by, record_bytes, address_record_size}
use Rattle.records.specs.declared.Span.{Span}
use Rattle.scanner.specs.Believed.Answers.{found_at}
use Rattle.scanner.specs.Ties.Cursors.{next_from, apart_in, next_in}
use Rattle.scanner.specs.declared.Next.{Next}
use Rattle.scanner.specs.declared.Next.TheVariants.{Found, Ended, Fault}
use Rattle.scanner.specs.declared.cursor.Ahead.{Ahead}
use Rattle.scanner.specs.declared.cursor.Ahead.TheVariants.{Symbol, End, Faulty}
use Rattle.grammar.specs.Believed.Rfc733.{kind_number, typed_kind}
use Rattle.grammar.specs.Executable.Trees733.{Class, Quoted, At, LessThan, Comma, Colon}
use Rattle.grammar.proofs.Rfc733.Readers.{ListEnds, ends_address}
use Rattle.addresses.specs.declared.Enclosure.{Enclosure}
use Rattle.addresses.specs.declared.Enclosure.TheVariants.{Angle, Group}
use Rattle.addresses.specs.declared.Level.{Level as Left}
use Rattle.addresses.specs.declared.Walk.{Walk}
use Rattle.addresses.specs.Ties.Steps.{coming, told, is_ahead, ends_ahead, refused_next, opening, frame_at, reading, symbols_on, symbols_ahead, fault_from, fault_ahead, Onward, Comes, PhraseIs, NoMark, LoneAhead, LoneIs, Ready, MarkAhead, MailboxIs, EnclosedIs, CloseIs, inner, AddressIs, AddressAhead, NamedFirst, ColonFirst, TypedFirst, TypedAhead, TypedIs, TypedOn, NamelessOn, ListIs, Entered, BeginsAddress}
use Rattle.addresses.proofs.NextLaws.{NextIs}
use Rattle.addresses.proofs.ClassCases.{begins_none}
use Rattle.addresses.proofs.CursorSteps.{with_cursor, with_free, found_in, ends_in, Stepped, met}
use Rattle.addresses.proofs.CursorReads.{as_told}
use Rattle.addresses.proofs.NamedLaws.{no_mark_found, named_is, named_lone, named_opening, named_before}
use Rattle.addresses.proofs.AddressLaws.{none_begins}
use Rattle.addresses.proofs.EnclosedLaws.{deep_stops, inside_stops, typed_deep, typed_wanted, typed_stops, typed_read}
use Rattle.addresses.proofs.ListLaws.{ListSoFar, list_start, list_comma, list_address, list_stops, list_end}

module _ (classes text : List ℕ) where
  -- what goes on from one fault goes on from an equal one
  pub onward_from : {first other : Answer} → first ≡ other → (r : Result Unit Refusal) (walk : Walk) → Onward classes text other r walk → Onward classes text first r walk
  onward_from e (Ok u) walk o = e ∙ o
  onward_from e (Err why) walk o = tt

  -- ---- an address

  -- no address begins with what stands ahead
  pub none_ahead : (before : Walk) (level : Left) {class : Class} → before.cursor.ahead ≡ Symbol class → begins_none class ≡ true → (table : List ℕ) (why : Refusal) (after : Walk) → told (length text) why after ≡ refused_next (length text) (coming before)
      → AddressAhead classes text before level table table (Err why) after
  none_ahead before level {class} e b table why after q = (
    as_told classes text (symbols_ahead classes text (coming before)) (frame_at level before) before.cursor.start table table q (rw (found_in before.cursor e) (none_begins classes text class before.cursor.start before.cursor.end (apart_in before.cursor) (frame_at level before) b)),
    tt,
  )

  -- an angle list without a name
  pub angle_ahead : (before : Walk) (level : Left) → before.cursor.ahead ≡ Symbol (opening Angle) → (table after : List ℕ) (r : Result Unit Refusal) (walk : Walk)
      → EnclosedIs classes text before level Angle record { start = before.cursor.start; end = before.cursor.start } table after r walk → AddressAhead classes text before level table after r walk
  angle_ahead before level e table after r walk x = (rw (found_in before.cursor e) (x.0 _ record { name = none; apart = apart_in before.cursor; yields = refl; start_is = refl; end_is = refl; house = tt }), x.1)

  -- no symbol stands ahead: none that follows a phrase, and none after a list
  end_from : (a : Ahead) → ((class : Class) → a ≡ Symbol class → ⊥) → (s e n : ℕ) (b : Bool) → NoMark classes text (next_from a s e n b) × ListEnds (symbols_ahead classes text (next_from a s e n b))
  end_from (Symbol class) o = absurd (o class refl)
  end_from End o = λ s e n b. (tt, tt)
  end_from (Faulty f) o = λ s e n b. (tt, tt)

  pub end_ahead : (walk : Walk) → ((class : Class) → walk.cursor.ahead ≡ Symbol class → ⊥) → NoMark classes text (coming walk) × ListEnds (symbols_ahead classes text (coming walk))
  unfolding next_in
  end_ahead walk o = let c = walk.cursor in end_from c.ahead o c.start c.end c.length (apart_in c)

  -- ---- an address that begins with a word

  module _ (before now : Walk) {level : Left} {quoted lone : Bool} (p : NamedFirst classes text before level) (q : quoted ≡ is_ahead Quoted before.cursor.ahead) (w : PhraseIs classes text before quoted lone now) where
    abbrev the_name : Span
    the_name = record { start = before.cursor.start; end = now.last }

    ready_still : Ready classes text (frame_at level now) before.cursor.start
    ready_still = record { short = p.ready.short; levels_low = p.ready.levels_low; number_low = omega (arith, w.free_kept, p.ready.number_low) }

    pub lone_ahead : NoMark classes text (coming now) → LoneAhead classes text now level the_name
    lone_ahead n =
        record {
          lone = record { no_mark = n; ahead_ok = w.words.ahead_ok; not_empty = omega (arith, p.first.stands.starts, w.words.from); within = w.words.within; ready = ready_still };
          last_is = refl;
        }

    comes_mark : {mark : Class} → now.cursor.ahead ≡ Symbol mark → Comes classes text now.last (found_at mark now.cursor.start now.cursor.end now.cursor.length (apart_in now.cursor))
    comes_mark e = rw (found_in now.cursor e) at w.words.ahead_ok

    pub mark_ahead : {mark : Class} → now.cursor.ahead ≡ Symbol mark → MarkAhead classes text now level the_name
    mark_ahead e =
        let x = comes_mark e in
        record { stands = x.1; behind = omega (arith, p.first.stands.starts, w.words.from, x.0); ready = ready_still }

    -- what follows stands after the first word
    pub mark_later : {mark : Class} → now.cursor.ahead ≡ Symbol mark → before.cursor.end < now.cursor.end
    mark_later e = let x = comes_mark e in omega (arith, w.words.from, x.0, x.1.starts)

    -- a symbol that is no mark
    pub no_mark_ahead : {mark : Class} → now.cursor.ahead ≡ Symbol mark → (mark ≡ At → ⊥) → (mark ≡ LessThan → ⊥) → (mark ≡ Colon → ⊥) → NoMark classes text (coming now)
    no_mark_ahead {mark} e a l c = rw (found_in now.cursor e) (no_mark_found classes text mark a l c (rw (found_in now.cursor e) at w.words.no_word))

    pub from_lone : (table after : List ℕ) (r : Result Unit Refusal) (walk : Walk) → LoneIs classes text now level lone the_name table after r walk → AddressAhead classes text before level table after r walk
    from_lone table after r walk x = (
      rw (found_in before.cursor p.ahead_is, ← w.free_kept)
          (x.0 _ _ (named_is classes text p.class (apart_in before.cursor) p.first w.words) (named_lone classes text p.class before.cursor.start before.cursor.end (apart_in before.cursor) (q ∙ ap (is_ahead Quoted) p.ahead_is) w.words)),
      onward_from w.goes_on r walk x.1,
    )

    pub from_mailbox : now.cursor.ahead ≡ Symbol At → (table after : List ℕ) (r : Result Unit Refusal) (walk : Walk) → MailboxIs classes text now level the_name table after r walk → AddressAhead classes text before level table after r walk
    from_mailbox e table after r walk x = (
      rw (found_in before.cursor p.ahead_is, ← w.free_kept) (x.0 _ _ (named_before classes text (named_is classes text p.class (apart_in before.cursor) p.first w.words) (found_in now.cursor e))),
      onward_from (w.goes_on ∙ ap (fault_ahead classes text) (found_in now.cursor e)) r walk x.1,
    )

    pub from_enclosed : (enclosure : Enclosure) → now.cursor.ahead ≡ Symbol (opening enclosure) → (table after : List ℕ) (r : Result Unit Refusal) (walk : Walk) → EnclosedIs classes text now level enclosure the_name table after r walk
        → AddressAhead classes text before level table after r walk
    from_enclosed enclosure e table after r walk x = (
      rw (found_in before.cursor p.ahead_is, ← w.free_kept) (x.0 _ (named_opening classes text enclosure (named_before classes text (named_is classes text p.class (apart_in before.cursor) p.first w.words) (found_in now.cursor e)))),
      onward_from (w.goes_on ∙ ap (fault_ahead classes text) (found_in now.cursor e)) r walk x.1,
    )

  -- ---- an enclosed list

  -- the level of what lies in an address whose record is the next free one
  abbrev pub inside : Left → Walk → Left
  inside level walk = record { left = level.left - 1; parent = walk.free + 1 }

  -- its number is taken
  abbrev pub entering : Walk → Walk
  entering walk = with_free walk (walk.free + 1)

  module _ (before : Walk) (level : Left) (enclosure : Enclosure) (name : Span) (p : MarkAhead classes text before level name) where
    pub enclosed_deep : level.left ≡ 0 → (table : List ℕ) → EnclosedIs classes text before level enclosure name table table (Err TooDeep) before
    enclosed_deep z table = (λ xs o. deep_stops classes text enclosure (frame_at level before) o z, tt)

    pub entered_in : (level.left ≡ 0 → ⊥) → Entered classes text (entering before) (inside level before)
    entered_in n =
        record {
          inside = p.stands.within;
          ready = record { short = p.ready.short; levels_low = omega (arith, p.ready.levels_low); number_low = omega (arith, p.ready.number_low, p.behind, p.stands.starts) };
        }

    pub enclosed_inside : (level.left ≡ 0 → ⊥) → (table after : List ℕ) (why : Refusal) (walk : Walk) → ListIs classes text (entering before) (inside level before) table after (Err why) walk → EnclosedIs classes text before level enclosure name table after (Err why) walk
    enclosed_inside n table after why walk x = (λ xs o. inside_stops classes text enclosure (frame_at level before) o n x.0, tt)

    pub enclosed_done : (level.left ≡ 0 → ⊥) → (table between after : List ℕ) (now : Walk) (r : Result Unit Refusal) (walk : Walk) → ListIs classes text (entering before) (inside level before) table between (Ok tt) now
        → CloseIs classes text now (frame_at level before) enclosure name between after r walk → EnclosedIs classes text before level enclosure name table after r walk
    enclosed_done n table between after now r walk l x = (
      λ xs o. x.0 xs before.cursor.start before.cursor.end l.0.last table o p n l.0.read,
      onward_from l.1 r walk x.1,
    )

  -- ---- ":"

  module _ (before now : Walk) {level : Left} (p : ColonFirst classes text before level) where
    module _ {atom : Span} (w : TypedOn classes text before atom now) where
      typed_first : TypedFirst classes text before.cursor.start before.cursor.end atom now.cursor.end (frame_at level now)
      typed_first = record { stands = p.stands; ready = record { short = p.ready.short; levels_low = p.ready.levels_low; number_low = omega (arith, w.free_kept, p.ready.number_low) }; follows = w.follows }

      pub typed_ahead : TypedAhead classes text now level before.cursor.start atom
      typed_ahead = record { end = before.cursor.end; first = typed_first }

      pub from_typed : (table after : List ℕ) (r : Result Unit Refusal) (walk : Walk) → TypedIs classes text now level before.cursor.start atom table after r walk → AddressAhead classes text before level table after r walk
      from_typed table after r walk x = (
        rw (found_in before.cursor p.ahead_is, ← w.free_kept) (x.0 before.cursor.end (apart_in before.cursor) typed_first),
        onward_from w.faults r walk x.1,
      )

    -- the ":" is ahead again
    module _ (w : NamelessOn classes text before now) where
      abbrev pub back : Walk
      back = with_cursor now before.cursor

      abbrev pub no_name : Span
      no_name = record { start = before.cursor.start; end = before.cursor.start }

      pub nameless_ahead : MarkAhead classes text back level no_name
      nameless_ahead =
          record { stands = p.stands; behind = omega arith; ready = record { short = p.ready.short; levels_low = p.ready.levels_low; number_low = omega (arith, w.free_kept, p.ready.number_low) } }

      pub from_nameless : (table after : List ℕ) (r : Result Unit Refusal) (walk : Walk) → EnclosedIs classes text back level Group no_name table after r walk → AddressAhead classes text before level table after r walk
      from_nameless table after r walk x = (
        rw (found_in before.cursor p.ahead_is, ← w.free_kept) (x.0 _ record { name = none; apart = apart_in before.cursor; yields = refl; start_is = refl; end_is = refl; house = w.no_atom }),
        x.1,
      )

  -- ---- a typed address

  -- what does not end an address is a symbol
  begins_from : (a : Ahead) → ends_ahead a ≡ false → (class : Class) × (a ≡ Symbol class)
  begins_from (Symbol class) e = (class, refl)
  begins_from End e = absurd (true≢false e)
  begins_from (Faulty f) e = absurd (true≢false e)

  module _ (before : Walk) (level : Left) (start : ℕ) (atom : Span) (p : TypedAhead classes text before level start atom) where
    pub typed_too_deep : level.left ≡ 0 → (table : List ℕ) (after : Walk) → after.cursor.start ≡ start → TypedIs classes text before level start atom table table (Err TooDeep) after
    typed_too_deep z table after e = (λ end apart t. rw e (typed_deep classes text apart t z), tt)

    module _ (n : level.left ≡ 0 → ⊥) (now : Walk) (x : Stepped classes text before now) where
      pub typed_refused : ends_ahead now.cursor.ahead ≡ true → (table : List ℕ) (why : Refusal) (after : Walk) → told (length text) why after ≡ refused_next (length text) (coming now) → TypedIs classes text before level start atom table table (Err why) after
      typed_refused e table why after q = (λ end apart t. as_told classes text (symbols_on classes text Colon start end apart) (frame_at level before) start table table q (typed_wanted classes text apart t n (coming now) x.next start table table (ends_in now.cursor e)), tt)

      module _ (e : ends_ahead now.cursor.ahead ≡ false) where
        abbrev the_class : Class
        the_class = (begins_from now.cursor.ahead e).0

        first : NextIs classes text before.cursor.end (found_at the_class now.cursor.start now.cursor.end now.cursor.length (apart_in now.cursor))
        first = met classes text x (begins_from now.cursor.ahead e).1

        pub child_begins : BeginsAddress classes text (entering now) (inside level now)
        child_begins =
            let t = p.first in
            record {
              begins = e;
              stands = first.ok.1;
              ready =
                  record {
                    short = t.ready.short;
                    levels_low = omega (arith, t.ready.levels_low);
                    number_low = omega (arith, x.free_kept, t.ready.number_low, t.stands.starts, t.follows.from, t.follows.atom_starts, t.follows.end_before, first.ok.0);
                  };
            }

        -- it stands further on
        pub child_later : before.cursor.end ≤ now.cursor.start
        child_later = first.ok.0

        -- the address in it, told of the symbol that was met
        child_is : (table between : List ℕ) (r : Result Unit Refusal) (walk : Walk) → AddressAhead classes text (entering now) (inside level now) table between r walk
            → AddressIs classes text (symbols_ahead classes text (found_at the_class now.cursor.start now.cursor.end now.cursor.length (apart_in now.cursor))) (inner classes text (frame_at level before)) now.cursor.start table between (reading (length text) r walk)
        child_is table between r walk a = rw (found_in now.cursor (begins_from now.cursor.ahead e).1, x.free_kept) at a.0

        pub typed_inside : (table between : List ℕ) (why : Refusal) (walk : Walk) → AddressAhead classes text (entering now) (inside level now) table between (Err why) walk → TypedIs classes text before level start atom table between (Err why) walk
        typed_inside table between why walk a = (λ end apart t. typed_stops classes text apart t n first (child_is table between (Err why) walk a), tt)

        pub typed_done : (table between after : List ℕ) (walk : Walk) → AddressAhead classes text (entering now) (inside level now) table between (Ok tt) walk
            → after ≡ sets between (now.free * address_record_size) (record_bytes (record_by (kind_number (typed_kind (part text atom.start atom.end))) (level_limit - level.left) level.parent start walk.last atom.start atom.end))
            → TypedIs classes text before level start atom table after (Ok tt) walk
        typed_done table between after walk a w = (
          λ end apart t. typed_read classes text apart t n first table between after (child_is table between (Ok tt) walk a) (rw x.free_kept at w),
          first.faults ∙ a.1,
        )

  -- ---- a list

  -- what is left of the text from what comes next on
  abbrev pub left_of : Next → ℕ
  left_of (Found symbol) = suc (length text - symbol.start)
  left_of Ended = 0
  left_of (Fault number p) = 0

  pub left_falls : {start last : ℕ} (ahead : Next) → start < last → last ≤ length text → Comes classes text last ahead → left_of ahead < suc (length text - start)
  left_falls (Found symbol) h k c = omega (arith, c.0, c.1.starts, c.1.within)
  left_falls Ended h k c = omega arith
  left_falls (Fault number p) h k c = omega arith

  -- the list so far, up to some last symbol
  pub record ListGoes (before : Walk) (level : Left) (table after : List ℕ) (walk : Walk) : Type 0 where
    pub last : ℕ
    pub so_far : ListSoFar classes text before.cursor.end (frame_at level before) table after (coming walk) last walk.free
    pub goes_on : fault_from classes text before.cursor.end ≡ fault_ahead classes text (coming walk)

  module _ {before : Walk} {level : Left} where
    pub goes_start : Entered classes text before level → (table : List ℕ) {now : Walk} → Stepped classes text before now → ListGoes before level table table now
    goes_start p table {now} x =
        record { last = before.cursor.end; so_far = rw x.free_kept (list_start classes text table (coming now) p.inside p.ready.number_low x.next); goes_on = x.next.faults }

    module _ {table between : List ℕ} {walk : Walk} (w : ListGoes before level table between walk) where
      -- the symbol ahead
      at_symbol : {class : Class} → walk.cursor.ahead ≡ Symbol class → ListSoFar classes text before.cursor.end (frame_at level before) table between (found_at class walk.cursor.start walk.cursor.end walk.cursor.length (apart_in walk.cursor)) w.last walk.free
      at_symbol e = rw (found_in walk.cursor e) at w.so_far

      at_fault : {class : Class} → walk.cursor.ahead ≡ Symbol class → fault_from classes text before.cursor.end ≡ fault_from classes text walk.cursor.end
      at_fault e = w.goes_on ∙ ap (fault_ahead classes text) (found_in walk.cursor e)

      pub goes_comma : walk.cursor.ahead ≡ Symbol Comma → {now : Walk} → Stepped classes text walk now → ListGoes before level table between now
      goes_comma e {now} x =
          record { last = walk.cursor.end; so_far = rw x.free_kept (list_comma classes text (coming now) (at_symbol e) x.next); goes_on = at_fault e ∙ x.next.faults }

      pub comma_less : walk.cursor.ahead ≡ Symbol Comma → {now : Walk} → Stepped classes text walk now → left_of (coming now) < left_of (coming walk)
      comma_less e {now} x =
          let y = (at_symbol e).ahead_ok.1 in
          rw (found_in walk.cursor e) (left_falls (coming now) y.starts y.within x.next.ok)

      module _ {class : Class} (e : walk.cursor.ahead ≡ Symbol class) (f : ends_address class ≡ false) where
        pub address_begins : Entered classes text before level → BeginsAddress classes text walk level
        address_begins p =
            let y = at_symbol e in
            record {
              begins = ap ends_ahead e ∙ f;
              stands = y.ahead_ok.1;
              ready = record { short = p.ready.short; levels_low = p.ready.levels_low; number_low = omega (arith, y.free_low, y.ahead_ok.0) };
            }

        pub address_later : before.cursor.end ≤ walk.cursor.start
        address_later = let y = at_symbol e in omega (arith, y.from, y.ahead_ok.0)

        address_is : (after : List ℕ) (r : Result Unit Refusal) (now : Walk) → AddressAhead classes text walk level between after r now
            → AddressIs classes text (symbols_on classes text class walk.cursor.start walk.cursor.end (apart_in walk.cursor)) (frame_at level walk) walk.cursor.start between after (reading (length text) r now)
        address_is after r now a = rw (found_in walk.cursor e) at a.0

        pub goes_stops : (after : List ℕ) (why : Refusal) (now : Walk) → AddressAhead classes text walk level between after (Err why) now → ListIs classes text before level table after (Err why) now
        goes_stops after why now a = (list_stops classes text (at_symbol e) f (address_is after (Err why) now a), tt)

        pub goes_address : (after : List ℕ) (now : Walk) → AddressAhead classes text walk level between after (Ok tt) now → ListGoes before level table after now
        goes_address after now a =
            record { last = now.last; so_far = list_address classes text after (coming now) (at_symbol e) f (address_is after (Ok tt) now a); goes_on = at_fault e ∙ a.1 }

        pub address_less : (after : List ℕ) (now : Walk) → AddressAhead classes text walk level between after (Ok tt) now → left_of (coming now) < left_of (coming walk)
        address_less after now a =
            let y = address_is after (Ok tt) now a in
            rw (found_in walk.cursor e) (left_falls (coming now) y.from y.within y.ahead_ok)

      pub goes_end : ListEnds (symbols_ahead classes text (coming walk)) → ListIs classes text before level table between (Ok tt) walk
      goes_end z = (record { last = w.last; read = list_end classes text (coming walk) w.so_far z }, w.goes_on)
