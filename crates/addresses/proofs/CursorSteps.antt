-- What a cursor tells as the walk moves it on. Assumes nothing.
use mathlib.Core.Path.{◌≡◌, refl, sym, ap, ◌∙◌}
use mathlib.Core.Bool.{Bool, true, false, true≢false}
use mathlib.Core.List.{List}
use Prim.Native.Nat.{ℕ}
use Rattle.scanner.specs.Believed.Scanning.{scan_by}
use Rattle.scanner.specs.Believed.Answers.{found_at, next_of}
use Rattle.scanner.specs.Ties.Cursors.{next_from, apart_in, next_in, moved}
use Rattle.scanner.specs.declared.Next.{Next}
use Rattle.scanner.specs.declared.cursor.Ahead.{Ahead}
use Rattle.scanner.specs.declared.cursor.Ahead.TheVariants.{Symbol, End, Faulty}
use Rattle.scanner.specs.declared.cursor.Cursor.{Cursor}
use Rattle.scanner.proofs.CursorMoves.{tells_next}
use Rattle.grammar.specs.Believed.Rfc733.{same_class}
use Rattle.grammar.specs.Executable.Trees733.{Class}
use Rattle.grammar.proofs.Symbols.{same_class_lem}
use Rattle.addresses.specs.declared.Enclosure.{Enclosure}
use Rattle.addresses.specs.declared.Refusal.{Refusal}
use Rattle.addresses.specs.declared.Walk.{Walk}
use Rattle.addresses.specs.Ties.Steps.{coming, told, refusal_ahead, refused_next, is_word, is_ahead, word_ahead, ends_ahead, closing, closes_ahead, ends_address_next, closes_next, symbols_ahead, NoWord}
use Rattle.addresses.proofs.NextLaws.{NextIs, next_is}

-- a walk with another cursor, another last end or another free number
abbrev pub with_cursor : Walk → Cursor → Walk
with_cursor walk cursor = record { cursor = cursor; free = walk.free; last = walk.last }

abbrev pub with_last : Walk → ℕ → Walk
with_last walk n = record { cursor = walk.cursor; free = walk.free; last = n }

abbrev pub with_free : Walk → ℕ → Walk
with_free walk n = record { cursor = walk.cursor; free = n; last = walk.last }

-- what was asked of what stands ahead
pub asked : {A : Type 0} {r x b : A} → r ≡ x → r ≡ b → x ≡ b
asked e f = sym e ∙ f

-- a symbol stands ahead
pub found_in : (cursor : Cursor) {class : Class} → cursor.ahead ≡ Symbol class → next_in cursor ≡ found_at class cursor.start cursor.end cursor.length (apart_in cursor)
unfolding next_in
found_in cursor e = ap (λ (a : Ahead). next_from a cursor.start cursor.end cursor.length (apart_in cursor)) e

-- what stands ahead, refused
refused_from : (size : ℕ) (a : Ahead) (s e n : ℕ) (b : Bool) (walk : Walk) → walk.cursor.start ≡ s → told size (refusal_ahead a) walk ≡ refused_next size (next_from a s e n b)
refused_from size (Symbol class) s e n b walk q = rw q
refused_from size End s e n b walk q = refl
refused_from size (Faulty number) s e n b walk q = refl

pub refused_as : (size : ℕ) (walk : Walk) {why : Refusal} → why ≡ refusal_ahead walk.cursor.ahead → told size why walk ≡ refused_next size (coming walk)
unfolding next_in
refused_as size walk e = let c = walk.cursor in rw e (refused_from size c.ahead c.start c.end c.length (apart_in c) walk refl)

-- what is asked of what stands ahead is asked of what comes next
pub by_ahead : {A : Type 0} (f : Next → A) (g : Ahead → A) → ((a : Ahead) (s e n : ℕ) (b : Bool) → f (next_from a s e n b) ≡ g a) → (cursor : Cursor) → f (next_in cursor) ≡ g cursor.ahead
unfolding next_in
by_ahead f g h cursor = h cursor.ahead cursor.start cursor.end cursor.length (apart_in cursor)

ends_from : (a : Ahead) (s e n : ℕ) (b : Bool) → ends_address_next (next_from a s e n b) ≡ ends_ahead a
ends_from (Symbol class) s e n b = refl
ends_from End s e n b = refl
ends_from (Faulty f) s e n b = refl

pub ends_in : (cursor : Cursor) {b : Bool} → ends_ahead cursor.ahead ≡ b → ends_address_next (next_in cursor) ≡ b
ends_in cursor e = by_ahead ends_address_next ends_ahead ends_from cursor ∙ e

closes_from : (enclosure : Enclosure) (a : Ahead) (s e n : ℕ) (b : Bool) → closes_next enclosure (next_from a s e n b) ≡ closes_ahead enclosure a
closes_from enclosure (Symbol class) s e n b = refl
closes_from enclosure End s e n b = refl
closes_from enclosure (Faulty f) s e n b = refl

pub closes_in : (enclosure : Enclosure) (cursor : Cursor) {b : Bool} → closes_ahead enclosure cursor.ahead ≡ b → closes_next enclosure (next_in cursor) ≡ b
closes_in enclosure cursor e = by_ahead (closes_next enclosure) (closes_ahead enclosure) (closes_from enclosure) cursor ∙ e

-- a symbol of which something holds stands ahead
pub record Stands (cursor : Cursor) (test : Class → Bool) : Type 0 where
  pub class : Class
  pub ahead_is : cursor.ahead ≡ Symbol class
  pub passes : test class ≡ true

closing_from : (e : Enclosure) (a : Ahead) → closes_ahead e a ≡ true → (class : Class) × (a ≡ Symbol class) × (same_class (closing e) class ≡ true)
closing_from e (Symbol class) h = (class, refl, h)
closing_from e End h = absurd (true≢false (sym h))
closing_from e (Faulty f) h = absurd (true≢false (sym h))

pub closing_in : (e : Enclosure) (cursor : Cursor) → closes_ahead e cursor.ahead ≡ true → Stands cursor (same_class (closing e))
closing_in e cursor h = let x = closing_from e cursor.ahead h in record { class = x.0; ahead_is = x.1; passes = x.2 }

class_from : (wanted : Class) (a : Ahead) → is_ahead wanted a ≡ true → a ≡ Symbol wanted
class_from wanted (Symbol class) h = ap Symbol (sym (same_class_lem wanted class h))
class_from wanted End h = absurd (true≢false (sym h))
class_from wanted (Faulty f) h = absurd (true≢false (sym h))

-- a symbol of a class stands ahead
pub class_in : (wanted : Class) (cursor : Cursor) {r : Bool} → r ≡ is_ahead wanted cursor.ahead → r ≡ true → cursor.ahead ≡ Symbol wanted
class_in wanted cursor e f = class_from wanted cursor.ahead (sym e ∙ f)

word_from : (a : Ahead) → word_ahead a ≡ true → (class : Class) × (a ≡ Symbol class) × (is_word class ≡ true)
word_from (Symbol class) e = (class, refl, e)
word_from End e = absurd (true≢false (sym e))
word_from (Faulty f) e = absurd (true≢false (sym e))

pub word_in : (cursor : Cursor) → word_ahead cursor.ahead ≡ true → Stands cursor is_word
word_in cursor e = let x = word_from cursor.ahead e in record { class = x.0; ahead_is = x.1; passes = x.2 }

module _ (classes text : List ℕ) where
  no_word_from : (a : Ahead) (s e n : ℕ) (b : Bool) → word_ahead a ≡ false → NoWord classes text (symbols_ahead classes text (next_from a s e n b))
  no_word_from (Symbol class) s e n b h = h
  no_word_from End s e n b h = tt
  no_word_from (Faulty f) s e n b h = tt

  pub no_word_in : (cursor : Cursor) → word_ahead cursor.ahead ≡ false → NoWord classes text (symbols_ahead classes text (next_in cursor))
  unfolding next_in
  no_word_in cursor h = no_word_from cursor.ahead cursor.start cursor.end cursor.length (apart_in cursor) h

  -- ---- moving on

  pub record Stepped (before after : Walk) : Type 0 where
    pub next : NextIs classes text before.cursor.end (coming after)
    pub free_kept : after.free ≡ before.free

  pub stepped : (before : Walk) {cursor : Cursor} → cursor ≡ moved (next_of (scan_by classes text before.cursor.end)) before.cursor.end → Stepped before (with_cursor before cursor)
  stepped before {cursor} e = record { next = next_is classes text before.cursor.end (next_in cursor) (tells_next classes text before.cursor.end e); free_kept = refl }

  -- the symbol that stands ahead then
  pub met : {before after : Walk} {class : Class} → Stepped before after → after.cursor.ahead ≡ Symbol class → NextIs classes text before.cursor.end (found_at class after.cursor.start after.cursor.end after.cursor.length (apart_in after.cursor))
  met {after = after} x e = rw (found_in after.cursor e) at x.next
