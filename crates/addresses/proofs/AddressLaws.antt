-- Addresses without a list of their own: a mailbox, and one quoted-string alone. Assumes nothing.
use mathlib.Core.Path.{◌≡◌, refl, sym, ap, ◌∙◌}
use mathlib.Core.Logic.{◌⊎◌, inl, inr}
use mathlib.Core.Bool.{Bool, true, false, true≢false}
use mathlib.Core.List.{List, [], ◌∷◌}
use mathlib.Core.Option.{none}
use Prim.Native.Nat.{ℕ, ◌+◌, ◌*◌, ◌-◌}
use native.Mathlib.Omega.{arith}
use lib.ListN.{length}
use lib.Seq.{sets}
use Rattle.octets.specs.Believed.Numbers.{no_list_goes_on, ends_too_soon, level_limit}
use Rattle.records.specs.Believed.AddressRecords.{record_by, record_bytes, address_record_size}
use Rattle.scanner.specs.declared.Next.{Next}
use Rattle.scanner.specs.Believed.Answers.{found_at}
use Rattle.scanner.specs.declared.Next.TheVariants.{Found, Ended, Fault}
use Rattle.grammar.specs.Believed.Language.{unfit, unfinished, refused, number}
use Rattle.grammar.specs.Executable.Trees733.{Class, At, GreaterThan, Comma, Semicolon, Lexeme, Sym, of, atom_word, quoted_word, Phrase, one, more, mailbox, quoted}
use Rattle.grammar.proofs.Rfc733.Trees.{phrase_then}
use Rattle.addresses.proofs.ClassCases.{begins_none}
use Rattle.grammar.specs.Executable.Machine733.{Here, phrase, first_at, lone, levels_here, run, judge}
use Rattle.grammar.proofs.Rfc733.Complete.{begin, run_phrase, run_mailbox}
use Rattle.grammar.proofs.Symbols.{each_of, each_other}
use Rattle.grammar.proofs.Rfc733.Readers.{AddressEnds, ends_address, at_unfit}
use Rattle.addresses.specs.Ties.Steps.{ends_address_next, refused_next, lone_quoted, symbols_from, lexeme_at, symbols_on, symbols_ahead, Comes, NodesEnd, Stops, NodesContext, AddressRead, AddressStops, AddressIs, Opened, Named, NoMark, follows_phrase, Lone}
use Rattle.addresses.specs.declared.Frame.{Frame}
use Rattle.records.specs.declared.Span.{Span}

-- what ends an address, of what comes next
pub ends_next : (classes text : List ℕ) (low : ℕ) (ahead : Next) → Comes classes text low ahead → ends_address_next ahead ≡ true → AddressEnds (symbols_ahead classes text ahead)
ends_next classes text low (Found symbol) o e = e
ends_next classes text low Ended o e = tt
ends_next classes text low (Fault number p) o e = tt

module _ (classes text : List ℕ) where
  -- ---- a mailbox

  pub mailbox_read : {xs : List Sym} {p : Phrase} {a b size last : ℕ} {apart : Bool} {span : Span} {frame : Frame} (table after : List ℕ) (ahead : Next) → Named classes text xs span p (found_at At a b size apart) → NodesEnd classes text a b apart ahead last
      → Opened classes text a b span frame → after ≡ sets table (frame.number * address_record_size) (record_bytes (record_by 1 (level_limit - frame.level.left) frame.level.parent span.start last span.start span.end))
      → AddressRead classes text xs frame span.start table after ahead last (frame.number + 1)
  mailbox_read {xs} {p} {a} {b} {last} {span} {frame} table after ahead n m o e =
      record {
        tree = mailbox p m.nodes;
        reads = λ h c. ap (run (levels_here h + frame.level.left) (begin h)) (n.yields ∙ ap (phrase_then p) m.yields) ∙ run_mailbox (levels_here h + frame.level.left) h p m.nodes (symbols_ahead classes text ahead);
        ends = m.ends;
        ahead_ok = m.ahead_ok;
        last_is = sym m.end_is;
        count = refl;
        stored = rw (n.start_is, n.end_is, m.end_is) e;
        from = omega (arith, o.behind, o.stands.starts, m.from);
        within = m.within;
        free_low = omega (arith, o.behind, o.stands.starts, m.from, o.ready.number_low);
      }

  pub mailbox_stops : {xs : List Sym} {p : Phrase} {a b size number-told place : ℕ} {apart : Bool} {span : Span} (frame : Frame) → Named classes text xs span p (found_at At a b size apart)
      → Stops classes text (λ (c : NodesContext classes text) why rest. judge (run c.limit (first_at c.here c.phrase (lexeme_at classes text At a b apart)) (symbols_from classes text b)) ≡ refused why rest) number-told place
      → AddressStops classes text xs frame number-told place
  mailbox_stops {xs} {p} frame n s =
      record {
        why = s.why;
        rest = s.rest;
        number_is = s.number_is;
        place_is = s.place_is;
        stops = λ h c. ap judge (ap (run (levels_here h + frame.level.left) (begin h)) n.yields ∙ run_phrase (levels_here h + frame.level.left) h p _) ∙ s.stops record { limit = levels_here h + frame.level.left; here = h; phrase = p };
      }

  -- ---- one quoted-string alone

  pub lone_read : {xs : List Sym} (p : Phrase) {span : Span} {frame : Frame} (table after : List ℕ) (ahead : Next) → Named classes text xs span p ahead → lone_quoted p ≡ true → ends_address_next ahead ≡ true → Lone classes text ahead span frame
      → after ≡ sets table (frame.number * address_record_size) (record_bytes (record_by 4 (level_limit - frame.level.left) frame.level.parent span.start span.end span.start span.end))
      → AddressRead classes text xs frame span.start table after ahead span.end (frame.number + 1)
  lone_read (one (atom_word t)) table after ahead n q z o e = absurd (true≢false (sym q))
  lone_read {xs} (one (quoted_word t)) {span} {frame} table after ahead n q z o e =
      record {
        tree = quoted t;
        reads = λ h c. ap (run (levels_here h + frame.level.left) (begin h)) n.yields ∙ run_phrase (levels_here h + frame.level.left) h (one (quoted_word t)) (symbols_ahead classes text ahead);
        ends = ends_next classes text span.end ahead o.ahead_ok z;
        ahead_ok = o.ahead_ok;
        last_is = sym n.end_is;
        count = refl;
        stored = rw (n.start_is, n.end_is) e;
        from = o.not_empty;
        within = o.within;
        free_low = omega (arith, o.not_empty, o.ready.number_low);
      }
  lone_read (more p w) table after ahead n q z o e = absurd (true≢false (sym q))

  not_lone : (h : Here) (p : Phrase) → lone_quoted p ≡ false → lone h p ≡ none
  not_lone h (one (atom_word t)) e = refl
  not_lone h (one (quoted_word t)) e = absurd (true≢false e)
  not_lone h (more p w) e = refl

  -- a phrase with nothing after it that goes on, and no lone quoted-string, or with something that fits no rule
  behind_phrase : (n : ℕ) (h : Here) (p : Phrase) (class : Class) (t : Lexeme) (ys : List Sym) → follows_phrase classes text class ≡ false → (lone_quoted p ≡ false) ⊎ (ends_address class ≡ false)
      → judge (run n (phrase h p) (of class t ∷ ys)) ≡ refused unfit (of class t ∷ ys)
  behind_phrase n h p class t ys f o =
      each_other (λ c. (lone_quoted p ≡ false) ⊎ (ends_address c ≡ false) → judge (run n (phrase h p) (of c t ∷ ys)) ≡ refused unfit (of c t ∷ ys)) (follows_phrase classes text)
      (ended GreaterThan refl (λ e. rw e), (ended Comma refl (λ e. rw e), (ended Semicolon refl (λ e. rw e), (λ o. refl, (λ o. refl, (λ o. refl, tt)))))) class f o
    where
      ended : (c : Class) → ends_address c ≡ true → (lone h p ≡ none → judge (run n (phrase h p) (of c t ∷ ys)) ≡ refused unfit (of c t ∷ ys)) → (lone_quoted p ≡ false) ⊎ (ends_address c ≡ false)
          → judge (run n (phrase h p) (of c t ∷ ys)) ≡ refused unfit (of c t ∷ ys)
      ended c y g (inl e) = g (not_lone h p e)
      ended c y g (inr e) = absurd (true≢false (sym y ∙ e))

  end_phrase : (n : ℕ) (h : Here) (p : Phrase) → lone_quoted p ≡ false → judge (run n (phrase h p) []) ≡ refused unfinished []
  end_phrase n h p e = rw (not_lone h p e)

  -- .. with no symbol after it
  lone_ends : {xs : List Sym} (p : Phrase) (frame : Frame) → xs ≡ phrase_then p [] → lone_quoted p ≡ false → AddressStops classes text xs frame ends_too_soon (length text)
  lone_ends p frame y e =
      record {
        why = unfinished;
        rest = [];
        number_is = refl;
        place_is = refl;
        stops = λ h c. ap judge (ap (run (levels_here h + frame.level.left) (begin h)) y ∙ run_phrase (levels_here h + frame.level.left) h p []) ∙ end_phrase (levels_here h + frame.level.left) h p e;
      }

  pub lone_stops : {xs : List Sym} (p : Phrase) {span : Span} (frame : Frame) (start : ℕ) (table after : List ℕ) (ahead : Next) → Named classes text xs span p ahead → NoMark classes text ahead
      → (lone_quoted p ≡ false) ⊎ (ends_address_next ahead ≡ false) → AddressIs classes text xs frame start table after (refused_next (length text) ahead)
  lone_stops {xs} p frame start table after (Found x) n f o =
      record {
        why = unfit;
        rest = symbols_ahead classes text (Found x);
        number_is = refl;
        place_is = refl;
        stops = λ h c. ap judge (ap (run (levels_here h + frame.level.left) (begin h)) n.yields ∙ run_phrase (levels_here h + frame.level.left) h p _)
            ∙ behind_phrase (levels_here h + frame.level.left) h p x.class (lexeme_at classes text x.class x.start x.end x.apart) (symbols_from classes text x.end) f o;
      }
  lone_stops p frame start table after Ended n f (inr e) = absurd (true≢false e)
  lone_stops p frame start table after Ended n f (inl e) = lone_ends p frame n.yields e
  lone_stops p frame start table after (Fault number q) n f (inr e) = absurd (true≢false e)
  lone_stops p frame start table after (Fault number q) n f (inl e) = lone_ends p frame n.yields e

  -- ---- a symbol that begins no address

  -- "at", or what fits no rule
  begins_none_lem : (n : ℕ) (h : Here) (class : Class) (t : Lexeme) (ys : List Sym) → begins_none class ≡ true → judge (run n (begin h) (of class t ∷ ys)) ≡ refused unfit (of class t ∷ ys)
  begins_none_lem n h class t ys o =
      each_of (λ c. judge (run n (begin h) (of c t ∷ ys)) ≡ refused unfit (of c t ∷ ys)) begins_none (ap judge (at_unfit n t ys h), (refl, (refl, (refl, tt)))) class o

  pub none_begins : (class : Class) (a b : ℕ) (apart : Bool) (frame : Frame) → begins_none class ≡ true → AddressStops classes text (symbols_on classes text class a b apart) frame no_list_goes_on a
  none_begins class a b apart frame o =
      record {
        why = unfit;
        rest = symbols_on classes text class a b apart;
        number_is = refl;
        place_is = refl;
        stops = λ h c. begins_none_lem (levels_here h + frame.level.left) h class (lexeme_at classes text class a b apart) (symbols_from classes text b) o;
      }
