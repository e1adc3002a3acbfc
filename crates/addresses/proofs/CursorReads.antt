-- What a walk tells of what was read: phrases, nodes, typed atoms, and addresses without a list of their own. Assumes nothing.
use mathlib.Core.Path.{◌≡◌, refl, sym, ap, subst, ◌∙◌}
use mathlib.Core.Bool.{Bool, true, false, true≢false}
use mathlib.Core.Logic.{◌⊎◌, inl, inr}
use mathlib.Core.List.{List}
use Prim.Native.Nat.{ℕ, ◌+◌, ◌*◌, ◌-◌}
use lib.ListN.{length}
use lib.Seq.{sets}
use Rattle.std.specs.Prelude.{Ok, Err}
use Rattle.octets.specs.Believed.Numbers.{level_limit}
use Rattle.addresses.specs.declared.Refusal.{Refusal}
use Rattle.records.specs.Believed.AddressRecords.{record_by, record_bytes, address_record_size}
use Rattle.records.specs.declared.Span.{Span}
use Rattle.scanner.specs.Believed.Answers.{found_at}
use Rattle.scanner.specs.Ties.Cursors.{next_from, apart_in, next_in}
use Rattle.scanner.specs.declared.Next.{Next}
use Rattle.scanner.specs.declared.Next.TheVariants.{Found, Ended, Fault}
use Rattle.scanner.specs.declared.cursor.Ahead.{Ahead}
use Rattle.scanner.specs.declared.cursor.Ahead.TheVariants.{Symbol, End, Faulty}
use Rattle.scanner.specs.declared.cursor.Cursor.{Cursor}
use Rattle.grammar.specs.Believed.Rfc733.{same_class}
use Rattle.grammar.specs.Executable.Trees733.{Class, Sym, Atom, Quoted, At, LessThan, GreaterThan, Comma, Semicolon, Colon, Stray, Dot, Literal}
use Rattle.grammar.proofs.Rfc733.Readers.{ends_address}
use Rattle.grammar.proofs.Rfc733.Trees.{atom_colon}
use Rattle.addresses.specs.declared.Enclosure.{Enclosure}
use Rattle.addresses.specs.declared.Frame.{Frame}
use Rattle.addresses.specs.declared.Level.{Level as Left}
use Rattle.addresses.specs.declared.Walk.{Walk}
use Rattle.addresses.specs.Ties.Steps.{Reading, Read, Refused, NodesRead, Stopped, coming, told, is_word, is_ahead, word_ahead, ends_ahead, refused_next, frame_at, symbols_from, fault_ahead, AddressIs, NodesIs, NodesAre, PhraseIs, TypedOn, NamelessOn, MarkAhead, MailboxIs, LoneAhead, LoneIs, closes_ahead, enclosure_kind, CloseIs}
use Rattle.addresses.proofs.NextLaws.{NextIs}
use Rattle.addresses.proofs.CursorSteps.{with_last, with_free, by_ahead, found_in, ends_in, closes_in, closing_in, no_word_in, Stepped, met}
use Rattle.addresses.proofs.PhraseLaws.{WordsSoFar, words_done}
use Rattle.addresses.proofs.NodesLaws.{follows_node, NodesSoFar, NodeRead, nodes_end_lem, stops_no_node, stops_node_wanted, stops_behind_node}
use Rattle.addresses.proofs.TypedLaws.{no_atom, nothing, no_colon, nothing_behind, typed_follows}
use Rattle.addresses.proofs.EnclosedLaws.{unclosed_stops, behind_stops, enclosed_read}
use Rattle.addresses.proofs.AddressLaws.{ends_next, mailbox_read, mailbox_stops, lone_read, lone_stops}

-- the refusal of nodes
abbrev pub stopped_by : Reading → NodesRead
stopped_by (Read ahead last free) = Stopped 0 0
stopped_by (Refused number place) = Stopped number place

-- what comes next is a word
abbrev pub word_next : Next → Bool
word_next (Found symbol) = is_word symbol.class
word_next Ended = false
word_next (Fault number p) = false

-- the symbol of a class
abbrev is_next : Class → Next → Bool
is_next wanted (Found symbol) = same_class wanted symbol.class
is_next wanted Ended = false
is_next wanted (Fault number p) = false

is_from : (wanted : Class) (a : Ahead) (s e n : ℕ) (b : Bool) → is_next wanted (next_from a s e n b) ≡ is_ahead wanted a
is_from wanted (Symbol class) s e n b = refl
is_from wanted End s e n b = refl
is_from wanted (Faulty f) s e n b = refl

is_in : (wanted : Class) (cursor : Cursor) {b : Bool} → is_ahead wanted cursor.ahead ≡ b → is_next wanted (next_in cursor) ≡ b
is_in wanted cursor e = by_ahead (is_next wanted) (is_ahead wanted) (is_from wanted) cursor ∙ e

word_of : (a : Ahead) (s e n : ℕ) (b : Bool) → word_next (next_from a s e n b) ≡ word_ahead a
word_of (Symbol class) s e n b = refl
word_of End s e n b = refl
word_of (Faulty f) s e n b = refl

pub word_next_lem : (cursor : Cursor) {b : Bool} → word_ahead cursor.ahead ≡ b → word_next (next_in cursor) ≡ b
word_next_lem cursor e = by_ahead word_next word_ahead word_of cursor ∙ e

-- a symbol that does not end an address, and is not "at", does not follow a node
follows_not : (class : Class) → ends_address class ≡ false → same_class At class ≡ false → follows_node class ≡ false
follows_not Atom e n = refl
follows_not Quoted e n = refl
follows_not At e n = n
follows_not LessThan e n = refl
follows_not GreaterThan e n = e
follows_not Comma e n = e
follows_not Semicolon e n = e
follows_not Colon e n = refl
follows_not Stray e n = refl
follows_not Dot e n = refl
follows_not Literal e n = refl

behind_from : (a : Ahead) → ends_ahead a ≡ false → is_ahead At a ≡ false → (class : Class) × (a ≡ Symbol class) × (follows_node class ≡ false)
behind_from (Symbol class) e n = (class, refl, follows_not class e n)
behind_from End e n = absurd (true≢false e)
behind_from (Faulty f) e n = absurd (true≢false e)

module _ (classes text : List ℕ) where
  -- what is told of a refusal is that of what comes next
  pub as_told : (xs : List Sym) (frame : Frame) (start : ℕ) (table after : List ℕ) {r other : Reading} → r ≡ other → AddressIs classes text xs frame start table after other → AddressIs classes text xs frame start table after r
  as_told xs frame start table after e x = subst (λ (z : Reading). AddressIs classes text xs frame start table after z) (sym e) x

  -- ---- a phrase

  pub phrase_done : {before now after : Walk} {first lone : Bool} → WordsSoFar classes text before.cursor.end first now.cursor.end lone → now.free ≡ before.free → Stepped classes text now after → word_ahead after.cursor.ahead ≡ false
      → PhraseIs classes text before first lone (with_last after now.cursor.end)
  phrase_done {before} {now} {after} w f x n =
      record {
        words = words_done classes text (coming after) w x.next (no_word_in classes text after.cursor n);
        goes_on = w.faults ∙ x.next.faults;
        free_kept = x.free_kept ∙ f;
      }

  -- ---- nodes

  pub nodes_done : (before now after : Walk) → NodeRead classes text before.cursor.start before.cursor.end (apart_in before.cursor) now.cursor.end → now.free ≡ before.free → Stepped classes text now after → ends_ahead after.cursor.ahead ≡ true
      → NodesAre classes text before (Ok tt) (with_last after now.cursor.end)
  nodes_done before now after w f x e = (
    nodes_end_lem classes text (coming after) w x.next (ends_next classes text now.cursor.end (coming after) x.next.ok (ends_in after.cursor e)),
    record { goes_on = w.faults ∙ x.next.faults; free_kept = x.free_kept ∙ f },
  )

  -- a refusal where a node is wanted
  pub nodes_refused : {start at p : ℕ} {apart : Bool} (ahead : Next) → NodesSoFar classes text start at apart p → NextIs classes text p ahead → word_next ahead ≡ false → NodesIs classes text start at apart (stopped_by (refused_next (length text) ahead))
  nodes_refused (Found symbol) w x e = stops_no_node classes text w x e
  nodes_refused Ended w x e = stops_node_wanted classes text w x.same
  nodes_refused (Fault number p) w x e = stops_node_wanted classes text w x.same

  -- .. told by a walk
  pub nodes_told : (before after : Walk) (why : Refusal) (ahead : Next) → NodesIs classes text before.cursor.start before.cursor.end (apart_in before.cursor) (stopped_by (refused_next (length text) ahead)) → told (length text) why after ≡ refused_next (length text) ahead → NodesAre classes text before (Err why) after
  nodes_told before after why ahead s e = (rw (← (ap stopped_by e)) at s, tt)

  -- a refusal after a node
  pub nodes_behind : (before now then : Walk) (why : Refusal) → NodeRead classes text before.cursor.start before.cursor.end (apart_in before.cursor) now.cursor.end → Stepped classes text now then → ends_ahead then.cursor.ahead ≡ false → is_ahead At then.cursor.ahead ≡ false
      → told (length text) why then ≡ refused_next (length text) (coming then) → NodesAre classes text before (Err why) then
  nodes_behind before now then why w x e n q =
      let s = behind_from then.cursor.ahead e n in
      let y = met classes text x s.1 in
      nodes_told before then why (found_at s.0 then.cursor.start then.cursor.end then.cursor.length (apart_in then.cursor)) (stops_behind_node classes text w y s.2) (q ∙ ap (refused_next (length text)) (found_in then.cursor s.1))

  -- ---- an atom and ":"

  -- the first symbol after the ":" is the atom, and the next the second ":"
  pub typed_done : {before now after : Walk} → Stepped classes text before now → now.cursor.ahead ≡ Symbol Atom → Stepped classes text now after → after.cursor.ahead ≡ Symbol Colon
      → TypedOn classes text before record { start = now.cursor.start; end = now.cursor.end } after
  typed_done x e y f =
      record { follows = typed_follows classes text (met classes text x e) (met classes text y f); faults = (met classes text x e).faults ∙ (met classes text y f).faults; free_kept = y.free_kept ∙ x.free_kept }

  no_atom_next : {at : ℕ} (ahead : Next) → NextIs classes text at ahead → is_next Atom ahead ≡ false → atom_colon (symbols_from classes text at) ≡ false
  no_atom_next (Found symbol) x e = no_atom classes text x e
  no_atom_next {at} Ended x e = nothing classes text at x.same
  no_atom_next {at} (Fault number p) x e = nothing classes text at x.same

  no_colon_next : {at a b size : ℕ} {apart : Bool} (ahead : Next) → NextIs classes text at (found_at Atom a b size apart) → NextIs classes text b ahead → is_next Colon ahead ≡ false → atom_colon (symbols_from classes text at) ≡ false
  no_colon_next (Found symbol) x y e = no_colon classes text x y e
  no_colon_next Ended x y e = nothing_behind classes text x y.same
  no_colon_next (Fault number p) x y e = nothing_behind classes text x y.same

  -- no atom follows
  pub no_atom_done : {before after : Walk} → Stepped classes text before after → is_ahead Atom after.cursor.ahead ≡ false → NamelessOn classes text before after
  no_atom_done {after = after} x e = record { no_atom = no_atom_next (coming after) x.next (is_in Atom after.cursor e); free_kept = x.free_kept }

  -- no ":" follows the atom
  pub no_colon_done : {before now after : Walk} → Stepped classes text before now → now.cursor.ahead ≡ Symbol Atom → Stepped classes text now after → is_ahead Colon after.cursor.ahead ≡ false → NamelessOn classes text before after
  no_colon_done {after = after} x e y f =
      record { no_atom = no_colon_next (coming after) (met classes text x e) y.next (is_in Colon after.cursor f); free_kept = y.free_kept ∙ x.free_kept }

  -- ---- a mailbox

  module _ {before now : Walk} {level : Left} {name : Span} where
    pub mailbox_done : MarkAhead classes text before level name → NodesAre classes text before (Ok tt) now → (table after : List ℕ)
        → after ≡ sets table (now.free * address_record_size) (record_bytes (record_by 1 (level_limit - level.left) level.parent name.start now.last name.start name.end))
        → MailboxIs classes text before level name table after (Ok tt) (with_free now (now.free + 1))
    mailbox_done m n table after e =
        let f = n.1.free_kept in
        (λ xs phrase p. rw f (mailbox_read classes text table after (coming now) p n.0 m (rw f at e)), n.1.goes_on)

  pub mailbox_refused : (before now : Walk) (level : Left) (name : Span) (why : Refusal) → NodesAre classes text before (Err why) now → (table : List ℕ) → MailboxIs classes text before level name table table (Err why) now
  mailbox_refused before now level name why n table = (λ xs phrase p. mailbox_stops classes text (frame_at level before) p n.0, tt)

  -- ---- one quoted-string alone

  module _ {before : Walk} {level : Left} {name : Span} (m : LoneAhead classes text before level name) where
    pub lone_done : {lone : Bool} → lone ≡ true → ends_ahead before.cursor.ahead ≡ true → (table after : List ℕ)
        → after ≡ sets table (before.free * address_record_size) (record_bytes (record_by 4 (level_limit - level.left) level.parent name.start name.end name.start name.end))
        → LoneIs classes text before level lone name table after (Ok tt) (with_free before (before.free + 1))
    lone_done l z table after e = (λ xs phrase p q. rw m.last_is (lone_read classes text phrase table after (coming before) p (sym q ∙ l) (ends_in before.cursor z) m.lone e), refl)

    pub lone_refused : {lone : Bool} → (lone ≡ false) ⊎ (ends_ahead before.cursor.ahead ≡ false) → (table : List ℕ) (why : Refusal) (after : Walk) → told (length text) why after ≡ refused_next (length text) (coming before)
        → LoneIs classes text before level lone name table table (Err why) after
    lone_refused o table why after e = (
      λ xs phrase p q. as_told xs (frame_at level before) name.start table table e (lone_stops classes text phrase (frame_at level before) name.start table table (coming before) p m.lone.no_mark (elim o [ inl g ↦ inl (sym q ∙ g) | inr g ↦ inr (ends_in before.cursor g) ])),
      tt,
    )

  -- ---- the end of an enclosed list

  module _ (before : Walk) (frame : Frame) (e : Enclosure) (name : Span) where
    -- it is not closed
    pub close_refused : closes_ahead e before.cursor.ahead ≡ false → (between : List ℕ) (why : Refusal) (after : Walk) → told (length text) why after ≡ refused_next (length text) (coming before) → CloseIs classes text before frame e name between between (Err why) after
    close_refused g between why after q = (λ xs a b low table o p n l. as_told xs frame name.start table between q (unclosed_stops classes text e frame o n (coming before) l name.start between (closes_in e before.cursor g)), tt)

    module _ (now : Walk) (f : closes_ahead e before.cursor.ahead ≡ true) (x : Stepped classes text before now) where
      -- what follows it may not
      pub behind_refused : ends_ahead now.cursor.ahead ≡ false → (between : List ℕ) (why : Refusal) (after : Walk) → told (length text) why after ≡ refused_next (length text) (coming now) → CloseIs classes text before frame e name between between (Err why) after
      behind_refused g between why after q = (
        λ xs a b low table o p n l. as_told xs frame name.start table between q (behind_stops classes text e frame o n (rw (found_in before.cursor (closing_in e before.cursor f).ahead_is) at l) (closing_in e before.cursor f).passes (coming now) x.next (ends_in now.cursor g) name.start between),
        tt,
      )

      pub close_done : ends_ahead now.cursor.ahead ≡ true → (between after : List ℕ)
          → after ≡ sets between (frame.number * address_record_size) (record_bytes (record_by (enclosure_kind e) (level_limit - frame.level.left) frame.level.parent name.start before.cursor.end name.start name.end))
          → CloseIs classes text before frame e name between after (Ok tt) (with_last now before.cursor.end)
      close_done g between after w = (
        λ xs a b low table o p n l. rw x.free_kept (enclosed_read classes text e frame o n (rw (found_in before.cursor (closing_in e before.cursor f).ahead_is) at l) (closing_in e before.cursor f).passes (coming now) after x.next (ends_in now.cursor g) p w),
        ap (fault_ahead classes text) (found_in before.cursor (closing_in e before.cursor f).ahead_is) ∙ x.next.faults,
      )
