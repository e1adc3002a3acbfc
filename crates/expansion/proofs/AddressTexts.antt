-- The text of one address, symbol by symbol, as the code goes. Assumes nothing.
use mathlib.Core.Path.{◌≡◌, refl, sym, ap, ◌∙◌}
use mathlib.Core.Bool.{Bool, true, false}
use mathlib.Core.List.{List, [], ◌∷◌}
use Prim.Native.Nat.{ℕ, ◌+◌, ◌*◌, ◌≤◌}
use native.Mathlib.Omega.{arith}
use lib.ListN.{length}
use lib.Seq.{sets}
use Rattle.octets.specs.Believed.Choice.{pick}
use Rattle.octets.specs.Ties.Writing.{Wrote}
use Rattle.grammar.specs.Believed.Rfc733.{same_class}
use Rattle.grammar.proofs.Rfc733.Readers.{ends_address}
use Rattle.scanner.specs.Believed.Scanning.{scan_by, symbol, apart_from}
use Rattle.scanner.specs.Believed.Answers.{found_at, next_of}
use Rattle.scanner.specs.declared.Class.{Class}
use Rattle.scanner.specs.declared.Class.TheVariants.{Colon}
use Rattle.scanner.specs.declared.Next.{Next}
use Rattle.scanner.specs.Ties.Meanings.{meaning_at}
use Rattle.scanner.proofs.Unfolding.{SymbolAt, found}
use Rattle.plain.specs.Ties.Walking.{symbol_text, after, colon_next, walk_text}
use Rattle.plain.specs.Ties.Writing.{text_limit, is_colon}
use Rattle.plain.specs.declared.places.Place.{Place}
use Rattle.plain.specs.declared.places.Place.TheVariants.{Start}
use Rattle.plain.proofs.WalkSteps.{colon_of}
use Rattle.expansion.specs.Ties.Walk.{Sym, until_end}
use Rattle.addresses.specs.Ties.Steps.{symbols_from}
use Rattle.expansion.specs.Ties.Steps.{address_from}
use Rattle.expansion.proofs.SeekSteps.{NotFound, no_symbols, next_symbol}
use Rattle.expansion.proofs.Seeking.{Ending, at_greater, at_comma, at_semicolon, ending}

-- where an address ends no ":" stands
no_colon : {c : Class} → Ending c → false ≡ same_class Colon c
no_colon at_greater = refl
no_colon at_comma = refl
no_colon at_semicolon = refl

until_colon : (xs : List Sym) → colon_next (until_end xs) ≡ colon_next xs
until_colon [] = refl
until_colon (x ∷ xs) = by (ends_address x.class) refl
  where
    by : (z : Bool) → ends_address x.class ≡ z → colon_next (pick z [] (x ∷ until_end xs)) ≡ same_class Colon x.class
    by true e = no_colon (ending x.class e)
    by false e = refl

-- n bytes are written, and the text from the next symbol on is left
pub record Coming (classes text : List ℕ) (start : ℕ) (own₀ own : List ℕ) (n : ℕ) (place : Place) (coming : Next) : Type 0 where
  pub at : ℕ
  pub is : coming ≡ next_of (scan_by classes text at)
  pub counted : n ≤ 4 * text_limit * at
  pub same_length : length own ≡ length own₀
  pub same : sets own₀ 0 (address_from classes text start) ≡ sets own n (walk_text place (until_end (symbols_from classes text at)))
  pub count : length (address_from classes text start) ≡ n + length (walk_text place (until_end (symbols_from classes text at)))

pub coming_first : (classes text : List ℕ) (start : ℕ) (own : List ℕ) {coming : Next} → coming ≡ next_of (scan_by classes text start) → Coming classes text start own own 0 Start coming
coming_first classes text start own e = record { at = start; is = e; counted = omega arith; same_length = refl; same = refl; count = omega arith }

module _ {classes text : List ℕ} {start : ℕ} {own₀ own : List ℕ} {n : ℕ} {place : Place} {coming : Next} (l : Coming classes text start own₀ own n place coming) where
  pub comes : {class : Class} {first end size : ℕ} {apart : Bool} → coming ≡ found_at class first end size apart → SymbolAt classes text l.at class first end
  comes e = found classes text l.at (sym e ∙ l.is)

  ended_with : walk_text place (until_end (symbols_from classes text l.at)) ≡ [] → (n ≡ length (address_from classes text start)) × (own ≡ sets own₀ 0 (address_from classes text start))
  ended_with e = (omega (arith, l.count, ap length e), sym (l.same ∙ ap (sets own n) e))

  pub coming_none : NotFound coming → (n ≡ length (address_from classes text start)) × (own ≡ sets own₀ 0 (address_from classes text start))
  coming_none h = ended_with (ap (λ xs. walk_text place (until_end xs)) (no_symbols classes text coming l.at l.is h))

  until_next : {class : Class} {first end size : ℕ} {apart : Bool} → coming ≡ found_at class first end size apart
      → until_end (symbols_from classes text l.at) ≡ pick (ends_address class) [] (apart_from l.at (symbol class first end (meaning_at classes text class first end)) ∷ until_end (symbols_from classes text end))
  until_next e = ap until_end (next_symbol classes text (comes e))

  pub coming_end : {class : Class} {first end size : ℕ} {apart : Bool} → coming ≡ found_at class first end size apart → ends_address class ≡ true → (n ≡ length (address_from classes text start)) × (own ≡ sets own₀ 0 (address_from classes text start))
  coming_end {class} {first} {end} e g =
      ended_with (ap (walk_text place) (until_next e ∙ ap (λ z. pick z [] (apart_from l.at (symbol class first end (meaning_at classes text class first end)) ∷ until_end (symbols_from classes text end))) g))

  pub coming_next : {class : Class} {first end size : ℕ} {apart : Bool} {later : Next} {colon : Bool} {own' : List ℕ} {n' : ℕ} {place' : Place} → coming ≡ found_at class first end size apart → ends_address class ≡ false → length text ≤ text_limit
      → later ≡ next_of (scan_by classes text end) → colon ≡ is_colon later → length own' ≡ length own
      → Wrote (symbol_text class (meaning_at classes text class first end) place colon) own n own' n' → n' ≤ n + 2 * length text + 3 → place' ≡ after class place colon
      → Coming classes text start own₀ own' n' place' later
  coming_next {class} {first} {end} {colon = colon} {place' = place'} e g h k c s w b p =
      let x = comes e in
      let ys : List Sym = until_end (symbols_from classes text end) in
      let q : colon ≡ colon_next ys = c ∙ ap is_colon k ∙ colon_of (scan_by classes text end) ∙ sym (until_colon (symbols_from classes text end)) in
      let t : walk_text place (until_end (symbols_from classes text l.at)) ≡ symbol_text class (meaning_at classes text class first end) place colon (walk_text place' ys) =
      rw (p, q) (ap (walk_text place) (until_next e ∙ ap (λ z. pick z [] (apart_from l.at (symbol class first end (meaning_at classes text class first end)) ∷ ys)) g)) in
      record {
        at = end;
        is = k;
        counted = omega (arith, l.counted, x.from, x.starts);
        same_length = s ∙ l.same_length;
        same = l.same ∙ ap (sets own n) t ∙ w.same (walk_text place' ys);
        count = l.count ∙ ap (λ u. n + length u) t ∙ w.count (walk_text place' ys);
      }
