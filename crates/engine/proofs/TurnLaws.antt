-- One law for each thing that a turn does. Assumes nothing.
use Prim.Native.Nat.{ℕ, suc, ◌+◌, ◌-◌, ◌*◌, ◌≤◌, ◌<◌}
use mathlib.Core.Path.{◌≡◌, refl, sym, ap, ◌∙◌}
use mathlib.Core.Bool.{Bool, true, false}
use mathlib.Core.List.{List, [], ◌∷◌, append-nil}
use mathlib.Core.Option.{Option}
use native.Mathlib.Omega.{arith}
use lib.ListN.{set, length-set}
use lib.Seq.{sets}
use Rattle.octets.specs.Believed.Numbers.{level_limit}
use Rattle.octets.specs.Believed.Text.{part}
use Rattle.records.specs.Believed.AddressRecords.{address_record_size, AddressRecord, record_by, record_bytes, table_bytes, address_layout}
use Rattle.records.proofs.TableLaws.{stored_in_front}
use Rattle.grammar.specs.Believed.Rfc733.{kind_number, typed_kind, group}
use Rattle.grammar.specs.Executable.Machines.{go}
use Rattle.grammar.specs.Executable.Trees733.{Class, Atom, Quoted, Lexeme, Word, atom_word, quoted_word, Phrase, one, more, empty, comma, AddressList, idle, Address, mailbox, angle, quoted}
use Rattle.grammar.specs.Executable.Trees733 as trees
use Rattle.grammar.specs.Executable.Machine733.{Here, in_list, in_typed, Level, top, in_angle, in_group, State, list, phrase, want, as_list, close, enter, levels_here, levels_at, step_on}
use Rattle.grammar.proofs.Rfc733.Complete.{begin, enter_within}
use Rattle.grammar.proofs.Rfc733.TreeRecords.{list_count, address_count, address_record, list_records, name_start, name_end, word_lexeme}
use Rattle.engine.specs.declared.actions.Mode.{Mode}
use Rattle.engine.specs.declared.actions.Mode.TheVariants.{AfterAddress, AtWords, AtPlace}
use Rattle.engine.specs.Ties.Stands.{mode_of, open_by, level_at, Ordered, number_here, parent_at, parent_here, Entry, HoldsHere, HoldsLevel, stored_here, stored_list, FirstAtom, NameIs, Stands}
use Rattle.engine.specs.Ties.Turns.{span, engine_by, kind_if, level_if, end_if, lone_kind, kind_at, Pushed, Ended, lone, boxed, OpenHere, LevelAt, Closing, Closed, Follows, GoesTo, Opening, AtClose, AtTyped}
use Rattle.records.specs.declared.Span.{Span}
use Rattle.engine.specs.declared.OpenLevel.{OpenLevel}
use Rattle.engine.specs.declared.Stack.{Stack}
use Rattle.engine.specs.declared.Engine.{Engine}
use Rattle.engine.proofs.LevelLaws.{kind_of_level, level_kind, kind_deep, close_free, close_holds, close_mode, close_depth}
use Rattle.engine.proofs.ArrayLaws.{holds_agrees, entry_as, set_under, set_entry}
use Rattle.engine.proofs.MachineLaws.{WordIs, atom_is, quoted_is, Keeps, to_at, to_next_at, to_node, to_next_node, to_place}

-- ---- where an address may begin

pub begin_open : {text lent : List ℕ} {e : Engine} {stack : Stack} {table : List ℕ} (h : Here) → Stands text lent (begin h) e stack table → OpenHere stack.levels h stack.depth × (e.free ≡ number_here h) × (table ≡ stored_here lent h)
begin_open (in_list k r) s = (record { depth_is = s.depth_is; holds = s.holds; deep = s.ordered.deep }, s.free_is, s.stored)
begin_open (in_typed h t a u) s = (record { depth_is = s.depth_is; holds = s.holds; deep = s.ordered.deep }, s.free_is, s.stored)

-- ---- words and marks that open and close nothing

first_atom : {text : List ℕ} {at start end : ℕ} (c : Class) (t : Lexeme) (w : Word) → Follows text at c t start end → WordIs c t w → FirstAtom text (one w)
first_atom c t w f atom_is =
    let a = f.start_is in
    let b = f.end_is in
    record { ordered = omega (arith, f.starts); within = omega (arith, f.within); meaning = f.meaning refl ∙ rw (a, b) }
first_atom c t w f quoted_is = tt

word_is : (c : Class) (t : Lexeme) (w : Word) → WordIs c t w → word_lexeme w ≡ t
word_is c t w atom_is = refl
word_is c t w quoted_is = refl

-- the end of a word
word_end : {end : ℕ} (c : Class) (t : Lexeme) (w : Word) → end ≡ t.end → WordIs c t w → end ≡ (word_lexeme w).end
word_end c t w e i = e ∙ sym (ap (λ (z : Lexeme). z.end) (word_is c t w i))

-- only the mode changes
abbrev pub passed : Engine → Mode → ℕ → Engine
passed e mode end = engine_by mode e.free e.name end

room_on : {text : List ℕ} {at : ℕ} {c : Class} {t : Lexeme} {start end : ℕ} → Follows text at c t start end → {n : ℕ} → n ≤ at → n ≤ end
room_on f h = omega (arith, f.from, f.starts)

-- a symbol lies after the last one
module _ {text : List ℕ} {e : Engine} {c : Class} {t : Lexeme} {start end : ℕ} (f : Follows text e.at c t start end) where
  ordered_on : {stack : Stack} (mode : Mode) (name : Span) → name.start ≤ end → name.end ≤ end → Ordered text e stack → Ordered text (engine_by mode e.free name end) stack
  ordered_on mode name p q x = record { start_low = p; name_low = q; inside = f.within; deep = x.deep; short = x.short; tall = x.tall }

  keep : {stack : Stack} (mode : Mode) → Ordered text e stack → Ordered text (passed e mode end) stack
  keep mode x = ordered_on mode e.name (room_on f x.start_low) (room_on f x.name_low) x

same_name : {p : Phrase} {e : Engine} (mode : Mode) (end : ℕ) → NameIs p e → NameIs p (passed e mode end)
same_name mode end n = record { start_is = n.start_is; name_is = n.name_is }

module _ {text lent table : List ℕ} {stack : Stack} {e : Engine} {c : Class} {t : Lexeme} {start end : ℕ} (f : Follows text e.at c t start end) where
  -- a word begins an address
  pub goes_begin : {next : Mode} {s : State} (h : Here) (w : Word) → s ≡ begin h → Stands text lent s e stack table → WordIs c t w → step_on level_limit s c t ≡ go (phrase h (one w)) → next ≡ mode_of (phrase h (one w))
      → GoesTo text lent (step_on level_limit s c t) end (engine_by next e.free (span start end) end) stack table
  goes_begin {next} h w q x i g m =
      let o = begin_open h (rw q at x) in
      let a : start ≡ (word_lexeme w).start = f.start_is ∙ sym (ap (λ (z : Lexeme). z.start) (word_is c t w i)) in
      let b = word_end c t w f.end_is i in
      record {
        state = phrase h (one w);
        steps = g;
        stands = record {
          ordered = ordered_on f next (span start end) (omega (arith, f.starts)) (omega arith) x.ordered;
          mode_is = m;
          depth_is = o.0.depth_is;
          free_is = o.1;
          room = omega (arith, x.room, f.from, f.starts);
          holds = o.0.holds;
          current = (record { start_is = a; name_is = b }, b, first_atom c t w f i);
          stored = o.2;
        };
        at_is = refl;
      }

  -- a further word
  pub goes_add : {next : Mode} {s : State} (h : Here) (p : Phrase) (w : Word) → s ≡ phrase h p → Stands text lent s e stack table → WordIs c t w → step_on level_limit s c t ≡ go (phrase h (more p w)) → next ≡ AtWords
      → GoesTo text lent (step_on level_limit s c t) end (engine_by next e.free (span e.name.start end) end) stack table
  goes_add {next} h p w q y i g m =
      let x : Stands text lent (phrase h p) e stack table = rw q at y in
      let b = word_end c t w f.end_is i in
      record {
        state = phrase h (more p w);
        steps = g;
        stands = record {
          ordered = ordered_on f next (span e.name.start end) (room_on f x.ordered.start_low) (omega arith) x.ordered;
          mode_is = m;
          depth_is = x.depth_is;
          free_is = x.free_is;
          room = room_on f x.room;
          holds = x.holds;
          current = (record { start_is = x.current.0.start_is; name_is = b }, b, tt);
          stored = x.stored;
        };
        at_is = refl;
      }

  kept : {next : Mode} {s s' : State} → Keeps t s s' → Stands text lent s e stack table → next ≡ mode_of s' → Stands text lent s' (passed e next end) stack table
  kept {next} to_at x m =
      record { ordered = keep f next x.ordered; mode_is = m; depth_is = x.depth_is; free_is = x.free_is; room = room_on f x.room; holds = x.holds; current = same_name next end x.current.0; stored = x.stored }
  kept {next} to_next_at x m =
      record { ordered = keep f next x.ordered; mode_is = m; depth_is = x.depth_is; free_is = x.free_is; room = room_on f x.room; holds = x.holds; current = same_name next end x.current.0; stored = x.stored }
  kept {next} (to_node d {w} i) x m =
      record { ordered = keep f next x.ordered; mode_is = m; depth_is = x.depth_is; free_is = x.free_is; room = room_on f x.room; holds = x.holds; current = (same_name next end x.current, word_end d t w f.end_is i); stored = x.stored }
  kept {next} (to_next_node d {w} i) x m =
      record { ordered = keep f next x.ordered; mode_is = m; depth_is = x.depth_is; free_is = x.free_is; room = room_on f x.room; holds = x.holds; current = (same_name next end x.current, word_end d t w f.end_is i); stored = x.stored }
  kept {next} to_place x m =
      record { ordered = keep f next x.ordered; mode_is = m; depth_is = x.depth_is; free_is = x.free_is; room = room_on f x.room; holds = x.holds; current = tt; stored = x.stored }

  -- only the mode changes
  pub goes_pass : {next : Mode} {s s' : State} → Keeps t s s' → Stands text lent s e stack table → step_on level_limit s c t ≡ go s' → next ≡ mode_of s' → GoesTo text lent (step_on level_limit s c t) end (passed e next end) stack table
  goes_pass {s' = s'} k x g m = record { state = s'; steps = g; stands = kept k x m; at_is = refl }

-- ---- levels are opened

-- the level that is opened
module _ (h : Here) (o : Option Phrase) (t : Lexeme) where
  pub level_depth : (angle : Bool) → levels_at (level_if angle h o t) ≡ suc (levels_here h)
  level_depth true = refl
  level_depth false = refl

  level_parent : (angle : Bool) → parent_at (level_if angle h o t) ≡ suc (number_here h)
  level_parent true = refl
  level_parent false = refl

  level_stored : (lent : List ℕ) (angle : Bool) → stored_list lent (level_if angle h o t) (idle empty) ≡ stored_here lent h
  level_stored lent true = refl
  level_stored lent false = refl

  level_holds : (levels : List OpenLevel) (angle : Bool) → Entry levels (levels_here h) (number_here h) (name_start o t) (kind_if angle) (name_start o t) (name_end o t) → HoldsHere levels h → HoldsLevel levels (level_if angle h o t)
  level_holds levels true en x = (en, x)
  level_holds levels false en x = (en, x)

-- the machine opens the level ..
module _ {text lent table : List ℕ} {stack : Stack} {t : Lexeme} {e : Engine} {kind end : ℕ} {next : Mode} (angle : Bool) (h : Here) (o : Option Phrase) (x : Opening text lent h o t angle e kind next end stack table) where
  abbrev put : OpenLevel
  put = open_by e.free e.name.start kind e.name.start e.name.end

  abbrev levels_then : List OpenLevel
  levels_then = set stack.levels stack.depth put

  pub opened : {after : Stack} → Pushed stack put after
      → GoesTo text lent (enter level_limit (level_if angle h o t)) end (engine_by next (e.free + 1) e.name end) after table
  opened {after} p =
      let entry = set_entry stack.levels stack.depth e.free e.name.start kind e.name.start e.name.end (omega (arith, x.tall, p.room)) in
      record {
        state = list (level_if angle h o t) (idle empty);
        steps = enter_within level_limit (level_if angle h o t) (omega (arith, p.room, x.is_open.depth_is, level_depth h o t angle));
        stands = record {
          ordered = record { start_low = x.fits.start_low; name_low = x.fits.name_low; inside = x.within; deep = omega (arith, p.room, p.depth_is); short = x.short; tall = rw p.levels_are (simp length-set x.tall) };
          mode_is = x.next_is;
          depth_is = omega (arith, p.depth_is, x.is_open.depth_is, level_depth h o t angle);
          free_is = omega (arith, x.free_is, level_parent h o t angle);
          room = omega (arith, x.fits.free_low);
          holds = rw p.levels_are (level_holds h o t levels_then angle
              (entry_as (levels_here h) (number_here h) (name_start o t) (kind_if angle) (name_start o t) (name_end o t) entry x.is_open.depth_is x.free_is x.start_is x.kind_is x.start_is x.name_is)
              (holds_agrees h (set_under stack.levels stack.depth put) (omega (arith, x.is_open.depth_is)) x.is_open.holds));
          current = tt;
          stored = x.stored ∙ sym (level_stored h o t lent angle);
        };
        at_is = refl;
      }

-- ---- the nameless group turns typed

module _ {text lent table : List ℕ} {stack : Stack} {h : Here} {colon atom : Lexeme} {e : Engine} {next : Mode} {end : ℕ} (t : Lexeme) (x : AtTyped text lent h colon atom e next end stack table) where
  -- the level then
  abbrev pub typed_then : ℕ → ℕ → OpenLevel
  typed_then level kind = let o = level_at stack.levels level in open_by o.number o.start kind e.name.start e.name.end

  pub turned_typed : (level kind : ℕ) → level + 1 ≡ stack.depth → kind ≡ kind_number (typed_kind (part text e.name.start e.name.end))
      → GoesTo text lent (go (want h colon atom t)) end (engine_by next e.free e.name end) (record { levels = set stack.levels level (typed_then level kind); depth = stack.depth }) table
  turned_typed level kind q k =
      let y = x.stands in
      let l : level ≡ levels_here h = omega (arith, y.depth_is) in
      let old : Entry stack.levels level (number_here h) colon.start (kind_number group) colon.start colon.start = rw l y.holds.0 in
      let m : kind ≡ kind_number (typed_kind atom.meaning) = k ∙ ap (λ z. kind_number (typed_kind z)) (rw (y.current.0.start_is, y.current.0.name_is) (sym y.current.2.meaning)) in
      let o = level_at stack.levels level in
      let entry = set_entry stack.levels level o.number o.start kind e.name.start e.name.end (omega (arith, y.ordered.deep, y.ordered.tall)) in
      record {
        state = want h colon atom t;
        steps = refl;
        stands = record {
          ordered = record {
            start_low = omega (arith, y.ordered.start_low, x.from);
            name_low = omega (arith, y.ordered.name_low, x.from);
            inside = x.within;
            deep = y.ordered.deep;
            short = y.ordered.short;
            tall = simp length-set y.ordered.tall;
          };
          mode_is = x.next_is;
          depth_is = y.depth_is;
          free_is = omega (arith, y.free_is);
          room = omega (arith, y.room, x.from);
          holds = (
            entry_as (levels_here h) (number_here h) colon.start (kind_number (typed_kind atom.meaning)) atom.start atom.end entry l (ap (λ (z : OpenLevel). z.number) old.is) (ap (λ (z : OpenLevel). z.start) old.is) m y.current.0.start_is y.current.0.name_is,
            holds_agrees h (set_under stack.levels level (typed_then level kind)) (omega arith) y.holds.1,
          );
          current = tt;
          stored = y.stored;
        };
        at_is = refl;
      }

-- ---- an address ends

pub ended_open : {text lent table : List ℕ} {stack : Stack} {e : Engine} (s : State) (h : Here) (a : Address) → Stands text lent s e stack table → Ended s h a → OpenHere stack.levels h stack.depth
ended_open s h a x lone = record { depth_is = x.depth_is; holds = x.holds; deep = x.ordered.deep }
ended_open s h a x boxed = record { depth_is = x.depth_is; holds = x.holds; deep = x.ordered.deep }

pub ended_free : {text lent table : List ℕ} {stack : Stack} {e : Engine} (s : State) (h : Here) (a : Address) → Stands text lent s e stack table → Ended s h a → (e.free ≡ number_here h) × (address_count a ≡ 1) × (e.free + 1 ≤ e.at)
ended_free s h a x lone = (x.free_is, refl, x.room)
ended_free s h a x boxed = (x.free_is, refl, x.room)

lone_stored : (lent : List ℕ) (h : Here) (r : AddressRecord) (table : List ℕ) → table ≡ stored_here lent h → sets table (number_here h * address_record_size) (record_bytes r) ≡ sets (stored_here lent h) (number_here h * address_record_size) (table_bytes (r ∷ []))
lone_stored lent h r table e = rw e (ap (sets (stored_here lent h) (number_here h * address_record_size)) (sym (append-nil (record_bytes r))))

same_record : {k k' s s' e e' ns ns' ne ne' : ℕ} (d d' par : ℕ) → k ≡ k' → d ≡ d' → s ≡ s' → e ≡ e' → ns ≡ ns' → ne ≡ ne' → record_by k d par s e ns ne ≡ record_by k' d' par s' e' ns' ne'
same_record d d' par a z b c f g = cc

-- its record is written
pub ended_closing : {text lent table after : List ℕ} {stack : Stack} {e : Engine} (s : State) (h : Here) (a : Address) → Stands text lent s e stack table → Ended s h a
    → after ≡ sets table (e.free * address_record_size) (record_bytes (record_by (lone_kind e.mode) stack.depth (parent_here h) e.name.start e.at e.name.start e.name.end))
    → Closing lent stack.levels after stack.depth e.at h a
ended_closing {lent = lent} {table = table} {stack = stack} {e = e} s h a x lone g =
    record {
      is_open = ended_open s h a x lone;
      end_is = x.current.1;
      stored = g ∙ ap (λ i. sets table (i * address_record_size) (record_bytes (record_by (lone_kind e.mode) stack.depth (parent_here h) e.name.start e.at e.name.start e.name.end))) x.free_is
          ∙ ap (λ r. sets table (number_here h * address_record_size) (record_bytes r)) (same_record stack.depth (levels_here h) (parent_here h) (ap lone_kind x.mode_is) x.depth_is x.current.0.start_is x.current.1 x.current.0.start_is x.current.0.name_is)
          ∙ lone_stored lent h _ table x.stored;
    }
ended_closing {lent = lent} {table = table} {stack = stack} {e = e} s h a x boxed g =
    record {
      is_open = ended_open s h a x boxed;
      end_is = x.current.1;
      stored = g ∙ ap (λ i. sets table (i * address_record_size) (record_bytes (record_by (lone_kind e.mode) stack.depth (parent_here h) e.name.start e.at e.name.start e.name.end))) x.free_is
          ∙ ap (λ r. sets table (number_here h * address_record_size) (record_bytes r)) (same_record stack.depth (levels_here h) (parent_here h) (ap lone_kind x.mode_is) x.depth_is x.current.0.start_is x.current.1 x.current.0.start_is x.current.0.name_is)
          ∙ lone_stored lent h _ table x.stored;
    }

-- ---- a level is closed

abbrev pub address_if : Bool → Option Phrase → Lexeme → AddressList → Lexeme → Address
address_if true o t l u = angle o t l u
address_if false o t l u = trees.group o t l u

-- the level that the mark closes
pub record RightMark (levels : List OpenLevel) (level : ℕ) (b : Bool) (k : Level) : Type 0 where
  pub here : Here
  pub name : Option Phrase
  pub mark : Lexeme
  pub is : k ≡ level_if b here name mark
  pub at : LevelAt levels level here (name_start name mark) (kind_if b) (name_start name mark) (name_end name mark)

pub kind_told : (b : Bool) → 0 < kind_if b
kind_told true = omega arith
kind_told false = omega arith

pub kind_below : (b : Bool) → kind_if b < 256
kind_below true = omega arith
kind_below false = omega arith

level_of : {levels : List OpenLevel} (b : Bool) (h : Here) (o : Option Phrase) (v : Lexeme) (level : ℕ) → levels_here h ≡ level → level < level_limit
    → Entry levels (levels_here h) (number_here h) (name_start o v) (kind_if b) (name_start o v) (name_end o v) → HoldsHere levels h
    → LevelAt levels level h (name_start o v) (kind_if b) (name_start o v) (name_end o v)
level_of b h o v level q d en x =
    record {
      entry = entry_as level (number_here h) (name_start o v) (kind_if b) (name_start o v) (name_end o v) en q refl refl refl refl refl;
      is_open = record { depth_is = sym q; holds = x; deep = omega arith };
      kind_low = kind_below b;
      below = d;
    }

right_mark : {levels : List OpenLevel} (b : Bool) (k : Level) (level : ℕ) → kind_of_level k ≡ kind_if b → HoldsLevel levels k → level + 1 ≡ levels_at k → level < level_limit → RightMark levels level b k
right_mark true top level e x q d = absurd (omega arith)
right_mark false top level e x q d = absurd (omega arith)
right_mark true (in_angle h o v) level e x q d = record { here = h; name = o; mark = v; is = refl; at = level_of true h o v level (omega arith) d x.0 x.1 }
right_mark false (in_angle h o v) level e x q d = absurd (omega arith)
right_mark true (in_group h o v) level e x q d = absurd (omega arith)
right_mark false (in_group h o v) level e x q d = record { here = h; name = o; mark = v; is = refl; at = level_of false h o v level (omega arith) d x.0 x.1 }

mark_steps : (t : Lexeme) (b : Bool) (h : Here) (o : Option Phrase) (v : Lexeme) (l : AddressList) → end_if b (level_if b h o v) l t ≡ go (as_list (close h (address_if b o v l t)))
mark_steps t true h o v l = refl
mark_steps t false h o v l = refl

mark_count : (t : Lexeme) (b : Bool) (o : Option Phrase) (v : Lexeme) (l : AddressList) → address_count (address_if b o v l t) ≡ suc (list_count l)
mark_count t true o v l = refl
mark_count t false o v l = refl

module _ {text lent table : List ℕ} {levels : List OpenLevel} {t : Lexeme} {depth free kind end : ℕ} {next : Mode} where
  close_kind : (b : Bool) (k : Level) (l : AddressList) → AtClose text lent k l t b depth free kind next end levels table → kind_at levels depth ≡ kind_of_level k
  close_kind b k l x = level_kind levels depth k x.holds x.depth_is

  pub close_deep : (b : Bool) (k : Level) (l : AddressList) → AtClose text lent k l t b depth free kind next end levels table → kind_at levels depth ≡ kind → 0 < depth
  close_deep b k l x e = kind_deep levels depth (omega (arith, x.kind_is, kind_told b))

  pub close_right : (b : Bool) (k : Level) (l : AddressList) → AtClose text lent k l t b depth free kind next end levels table → kind_at levels depth ≡ kind → RightMark levels (depth - 1) b k
  close_right b k l x e =
      right_mark b k (depth - 1) (sym (close_kind b k l x) ∙ e ∙ x.kind_is) x.holds (omega (arith, x.depth_is, close_deep b k l x e)) (omega (arith, x.deep, close_deep b k l x e))

  -- its record is written
  pub mark_closing : (b : Bool) (h : Here) (o : Option Phrase) (v : Lexeme) (l : AddressList) → AtClose text lent (level_if b h o v) l t b depth free kind next end levels table
      → (level : ℕ) → level ≡ levels_here h → OpenHere levels h level → (after : List ℕ)
      → after ≡ sets table (number_here h * address_record_size) (record_bytes (record_by (kind_if b) level (parent_here h) (name_start o v) end (name_start o v) (name_end o v)))
      → Closing lent levels after level end h (address_if b o v l t)
  mark_closing true h o v l x level q op after g =
      record {
        is_open = op;
        end_is = x.end_is;
        stored = stored_in_front address_layout (stored_here lent h) (number_here h) (address_record (angle o v l t) (levels_here h) (parent_here h)) (list_records l (suc (levels_here h)) (suc (number_here h)) (suc (number_here h))) x.stored
            (g ∙ ap (λ r. sets table (number_here h * address_record_size) (record_bytes r)) (same_record level (levels_here h) (parent_here h) refl q refl x.end_is refl refl));
      }
  mark_closing false h o v l x level q op after g =
      record {
        is_open = op;
        end_is = x.end_is;
        stored = stored_in_front address_layout (stored_here lent h) (number_here h) (address_record (trees.group o v l t) (levels_here h) (parent_here h)) (list_records l (suc (levels_here h)) (suc (number_here h)) (suc (number_here h))) x.stored
            (g ∙ ap (λ r. sets table (number_here h * address_record_size) (record_bytes r)) (same_record level (levels_here h) (parent_here h) refl q refl x.end_is refl refl));
      }

  -- and the reader goes on after it
  pub mark_closed : (b : Bool) (h : Here) (o : Option Phrase) (v : Lexeme) (l : AddressList) → AtClose text lent (level_if b h o v) l t b depth free kind next end levels table
      → HoldsHere levels h → levels_here h ≤ level_limit → (left : ℕ) (after : List ℕ) → Closed lent (close h (address_if b o v l t)) after left
      → GoesTo text lent (end_if b (level_if b h o v) l t) end (engine_by next free (span end end) end) (record { levels = levels; depth = left }) after
  mark_closed b h o v l x op d left after c =
      let a = address_if b o v l t in
      record {
        state = as_list (close h a);
        steps = mark_steps t b h o v l;
        stands = record {
          ordered = record { start_low = omega arith; name_low = omega arith; inside = x.within; deep = omega (arith, c.depth_is, close_depth h a); short = x.short; tall = x.tall };
          mode_is = x.next_is ∙ sym (close_mode h a);
          depth_is = c.depth_is;
          free_is = omega (arith, x.free_is, close_free h a, level_parent h o v b, mark_count t b o v l);
          room = omega (arith, x.room);
          holds = close_holds levels h a op;
          current = tt;
          stored = c.stored;
        };
        at_is = refl;
      }

-- ---- an address has ended, with the levels that it closes: "," after it

module _ {text lent table after : List ℕ} {stack : Stack} {e : Engine} {t : Lexeme} {start end left : ℕ} {next : Mode} (c : Class) (s : State) (h : Here) (a : Address)
    (x : Stands text lent s e stack table) (f : Follows text e.at c t start end) (g : Ended s h a) (d : Closed lent (close h a) after left) where
  pub ended_comma : next ≡ AtPlace → GoesTo text lent (go (list (close h a).level (idle (comma (close h a).sofar t)))) end (engine_by next (e.free + 1) (span end end) end) (record { levels = stack.levels; depth = left }) after
  ended_comma m =
      let op = ended_open s h a x g in
      let fr = ended_free s h a x g in
      record {
        state = list (close h a).level (idle (comma (close h a).sofar t));
        steps = refl;
        stands = record {
          ordered = record {
            start_low = omega arith;
            name_low = omega arith;
            inside = f.within;
            deep = omega (arith, d.depth_is, close_depth h a, op.depth_is, op.deep);
            short = x.ordered.short;
            tall = x.ordered.tall;
          };
          mode_is = m;
          depth_is = d.depth_is;
          free_is = omega (arith, close_free h a, fr.0, fr.1);
          room = omega (arith, fr.2, f.from, f.starts);
          holds = close_holds stack.levels h a op.holds;
          current = tt;
          stored = d.stored;
        };
        at_is = refl;
      }

  -- .. or a mark that closes a level
  pub ended_close : {kind : ℕ} (b : Bool) → kind ≡ kind_if b → next ≡ AfterAddress
      → AtClose text lent (close h a).level (close h a).sofar t b left (e.free + 1) kind next end stack.levels after
  ended_close b k m =
      let op = ended_open s h a x g in
      let fr = ended_free s h a x g in
      record {
        depth_is = d.depth_is;
        deep = omega (arith, d.depth_is, close_depth h a, op.depth_is, op.deep);
        free_is = omega (arith, close_free h a, fr.0, fr.1);
        holds = close_holds stack.levels h a op.holds;
        stored = d.stored;
        kind_is = k;
        next_is = m;
        end_is = f.end_is;
        room = omega (arith, fr.2, f.from, f.starts);
        within = f.within;
        short = x.ordered.short;
        tall = x.ordered.tall;
      }

-- a mark after a list
pub list_close : {text lent table : List ℕ} {stack : Stack} {e : Engine} {t : Lexeme} {start end kind : ℕ} {next : Mode} (c : Class) (k : Level) (l : AddressList) → Stands text lent (list k l) e stack table → Follows text e.at c t start end
    → (b : Bool) → kind ≡ kind_if b → next ≡ AfterAddress → AtClose text lent k l t b stack.depth e.free kind next end stack.levels table
list_close c k l x f b q m =
    record {
      depth_is = x.depth_is;
      deep = x.ordered.deep;
      free_is = x.free_is;
      holds = x.holds;
      stored = x.stored;
      kind_is = q;
      next_is = m;
      end_is = f.end_is;
      room = omega (arith, x.room, f.from, f.starts);
      within = f.within;
      short = x.ordered.short;
      tall = x.ordered.tall;
    }
