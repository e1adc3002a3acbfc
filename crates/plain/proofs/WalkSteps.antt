-- The walk, symbol by symbol, as the code goes. Assumes nothing.
use mathlib.Core.Path.{◌≡◌, refl, sym, ap, ◌∙◌}
use mathlib.Core.Bool.{Bool, false}
use mathlib.Core.List.{List, [], ◌∷◌}
use Prim.Native.Nat.{ℕ, suc, ◌+◌, ◌*◌, ◌-◌, ◌≤◌, ◌<◌}
use native.Mathlib.Omega.{arith}
use lib.ListN.{length}
use lib.Seq.{sets}
use types.Run.{OneOf, miss}
use denote.Enum.Declared.{tag_of}
use Rattle.octets.specs.Ties.Writing.{Wrote}
use Rattle.scanner.specs.contracts.Class.{the_type as class-type}
use Rattle.scanner.specs.contracts.Next.{the_type as next-type}
use Rattle.grammar.specs.Believed.Rfc733.{same_class}
use Rattle.addresses.proofs.ClassCases.{by_class_not}
use Rattle.scanner.specs.Believed.Scanning.{Scanned, ended, next, fault_at, symbols_of, scan_by}
use Rattle.scanner.specs.Believed.Answers.{found_at, next_of}
use Rattle.scanner.specs.declared.Class.{Class}
use Rattle.scanner.specs.declared.Class.TheVariants.{Colon}
use Rattle.scanner.specs.declared.Next.{Next}
use Rattle.scanner.specs.declared.Next.TheVariants.{Found, Ended, Fault}
use Rattle.scanner.specs.declared.cursor.Cursor.{Cursor}
use Rattle.scanner.specs.declared.cursor.Ahead.{Ahead}
use Rattle.scanner.specs.declared.cursor.Ahead.TheVariants.{Symbol, End, Faulty}
use Rattle.scanner.specs.Ties.Cursors.{next_from, apart_in, next_in}
use Rattle.scanner.specs.Ties.Meanings.{meaning_at}
use Rattle.scanner.proofs.Unfolding.{SymbolAt, Unfolded, no_symbol, a_symbol, a_fault, unfolded, found}
use Rattle.plain.specs.Ties.Walking.{symbol_text, after, colon_next, walk_text, text_from, written_text}
use Rattle.plain.specs.Ties.Writing.{text_limit, is_colon, colon_ahead}
use Rattle.plain.specs.declared.places.Place.{Place}
use Rattle.plain.specs.declared.places.Place.TheVariants.{Start}

-- ---- the next symbol

pub colon_of : (s : Scanned) → is_colon (next_of s) ≡ colon_next (symbols_of s)
unfolding symbols_of
colon_of ended = refl
colon_of (next x rest) = refl
colon_of (fault_at number p) = refl

-- a class that is not ":"
pub not_colon : (class : Class) → OneOf (0 ∷ 1 ∷ 2 ∷ 3 ∷ 4 ∷ 5 ∷ 6 ∷ 8 ∷ 9 ∷ 10 ∷ []) (tag_of class-type class) → false ≡ same_class Colon class
not_colon class o = sym (by_class_not (0 ∷ 1 ∷ 2 ∷ 3 ∷ 4 ∷ 5 ∷ 6 ∷ 8 ∷ 9 ∷ 10 ∷ []) (same_class Colon) tt class o)

-- no symbol comes
abbrev pub NoneComes : Next → Type 0
NoneComes (Found symbol) = ⊥
NoneComes Ended = Unit {0}
NoneComes (Fault number p) = Unit {0}

pub none_comes : (coming : Next) → OneOf (1 ∷ 2 ∷ []) (tag_of next-type coming) → NoneComes coming
none_comes (Found symbol) o = absurd (miss (1 ∷ 2 ∷ []) 0 tt o)
none_comes Ended o = tt
none_comes (Fault number p) o = tt

-- no symbol stands ahead of a cursor
none_from : (a : Ahead) → ((class : Class) → a ≡ Symbol class → ⊥) → (start end size : ℕ) (apart : Bool) → NoneComes (next_from a start end size apart)
none_from (Symbol class) o start end size apart = absurd (o class refl)
none_from End o start end size apart = tt
none_from (Faulty number) o start end size apart = tt

colon_from : (a : Ahead) (start end size : ℕ) (apart : Bool) → colon_ahead a ≡ is_colon (next_from a start end size apart)
colon_from (Symbol class) start end size apart = refl
colon_from End start end size apart = refl
colon_from (Faulty number) start end size apart = refl

pub none_ahead : (cursor : Cursor) → ((class : Class) → cursor.ahead ≡ Symbol class → ⊥) → NoneComes (next_in cursor)
unfolding next_in
none_ahead cursor o = none_from cursor.ahead o cursor.start cursor.end cursor.length (apart_in cursor)

pub colon_in : (cursor : Cursor) {colon : Bool} → colon ≡ colon_ahead cursor.ahead → colon ≡ is_colon (next_in cursor)
unfolding next_in
colon_in cursor e = e ∙ colon_from cursor.ahead cursor.start cursor.end cursor.length (apart_in cursor)

nothing_of : (place : Place) (s : Scanned) → NoneComes (next_of s) → walk_text place (symbols_of s) ≡ []
unfolding symbols_of
nothing_of place ended h = refl
nothing_of place (next x rest) h = absurd h
nothing_of place (fault_at number p) h = refl

text_one : {classes text : List ℕ} {at : ℕ} {class : Class} {start end : ℕ} (place : Place) → SymbolAt classes text at class start end
    → text_from classes text place at
    ≡ symbol_text class (meaning_at classes text class start end) place (colon_next (symbols_of (scan_by classes text end))) (text_from classes text (after class place (colon_next (symbols_of (scan_by classes text end)))) end)
unfolding symbols_of
text_one place x = rw x.same

-- what is left of the text, by the next symbol
abbrev pub behind : ℕ → Next → ℕ
behind length' (Found symbol) = suc length' - symbol.start
behind length' Ended = 0
behind length' (Fault number p) = 0

less_by : {classes text : List ℕ} {at : ℕ} {class : Class} {first end : ℕ} (later : ℕ) → SymbolAt classes text at class first end → end ≤ later → Unfolded classes text later
    → behind (length text) (next_of (scan_by classes text later)) < suc (length text) - first
less_by later x h (no_symbol e) = rw e (omega (arith, x.starts, x.within))
less_by later x h (a_symbol y) = rw y.same (omega (arith, x.starts, x.within, y.from, y.starts, y.within, h))
less_by later x h (a_fault e) = rw e (omega (arith, x.starts, x.within))

-- it falls, after a symbol or further on
pub behind_falls : {classes text : List ℕ} {at : ℕ} {class : Class} {first end size : ℕ} {apart : Bool} {coming next' : Next} (later : ℕ) → SymbolAt classes text at class first end → end ≤ later → coming ≡ found_at class first end size apart
    → next' ≡ next_of (scan_by classes text later) → behind (length text) next' < behind (length text) coming
behind_falls {classes} {text} later x h e k = rw (e, k) (less_by later x h (unfolded classes text later))

pub behind_less : {classes text : List ℕ} {at : ℕ} {class : Class} {first end size : ℕ} {apart : Bool} {coming later : Next} → SymbolAt classes text at class first end → coming ≡ found_at class first end size apart
    → later ≡ next_of (scan_by classes text end) → behind (length text) later < behind (length text) coming
behind_less {end = end} x e k = behind_falls end x (omega arith) e k

-- ---- the loop

-- the walk has come to a position from which `coming` is next: n bytes are written, and the text from there on is left
pub record Coming (classes text : List ℕ) (start : ℕ) (out₀ out : List ℕ) (n : ℕ) (place : Place) (coming : Next) : Type 0 where
  pub at : ℕ
  pub is : coming ≡ next_of (scan_by classes text at)
  pub counted : n ≤ 4294967296 * at
  pub same : sets out₀ 0 (written_text classes text start) ≡ sets out n (text_from classes text place at)
  pub count : length (written_text classes text start) ≡ n + length (text_from classes text place at)

pub coming_first : (classes text : List ℕ) (start : ℕ) (out : List ℕ) {coming : Next} → coming ≡ next_of (scan_by classes text start) → Coming classes text start out out 0 Start coming
coming_first classes text start out e = record { at = start; is = e; counted = omega arith; same = refl; count = omega arith }

module _ {classes text : List ℕ} {start : ℕ} {out₀ out : List ℕ} {n : ℕ} {place : Place} {coming : Next} (l : Coming classes text start out₀ out n place coming) where
  -- the symbol that comes
  pub comes : {class : Class} {first end size : ℕ} {apart : Bool} → coming ≡ found_at class first end size apart → SymbolAt classes text l.at class first end
  comes e = found classes text l.at (sym e ∙ l.is)

  -- it is written
  pub coming_next : {class : Class} {first end size : ℕ} {apart : Bool} {later : Next} {colon : Bool} {out' : List ℕ} {n' : ℕ} {place' : Place} → coming ≡ found_at class first end size apart → length text ≤ text_limit
      → later ≡ next_of (scan_by classes text end) → colon ≡ is_colon later
      → Wrote (symbol_text class (meaning_at classes text class first end) place colon) out n out' n' → n' ≤ n + 2 * length text + 3 → place' ≡ after class place colon
      → Coming classes text start out₀ out' n' place' later
  coming_next {class} {first} {end} {colon = colon} {place' = place'} e h k c w b p =
      let x = comes e in
      let q : colon ≡ colon_next (symbols_of (scan_by classes text end)) = c ∙ ap is_colon k ∙ colon_of (scan_by classes text end) in
      let t : text_from classes text place l.at ≡ symbol_text class (meaning_at classes text class first end) place colon (text_from classes text place' end) =
      rw (p, q) (text_one place x) in
      record {
        at = end;
        is = k;
        counted = omega (arith, l.counted, x.from, x.starts);
        same = l.same ∙ ap (sets out n) t ∙ w.same (text_from classes text place' end);
        count = l.count ∙ ap (λ u. n + length u) t ∙ w.count (text_from classes text place' end);
      }

  -- the walk ends
  pub coming_none : NoneComes coming → (n ≡ length (written_text classes text start)) × (out ≡ sets out₀ 0 (written_text classes text start))
  coming_none h =
      let e : text_from classes text place l.at ≡ [] = nothing_of place (scan_by classes text l.at) (rw l.is at h) in
      (omega (arith, l.count, ap length e), sym (l.same ∙ ap (sets out n) e))
