-- Laws of the meaning of a symbol by its place. Assumes nothing.
use mathlib.Core.Path.{◌≡◌, refl, ◌∙◌}
use mathlib.Core.Bool.{Bool, true, false}
use mathlib.Core.List.{List, [], ◌∷◌, ◌++◌}
use Prim.Native.Nat.{ℕ, ◌+◌, ◌≤◌, ◌<◌}
use native.Mathlib.Decide.{dec_lt}
use native.Mathlib.Omega.{arith}
use lib.ListN.{length, get_or}
use Rattle.octets.specs.Believed.Octets.{return_byte, line_feed_byte}
use Rattle.scanner.specs.Believed.Characters.{Character, character, fold_at, characters_at}
use Rattle.scanner.specs.Believed.Scanning.{taken_data}
use Rattle.scanner.specs.Ties.Steps.{FirstCharacter}
use Rattle.scanner.specs.Ties.Meanings.{inside, taking, over, Walk, data_of, walked, data_from, data_at, taken_datum, first_or, datum_from, datum_at}
use Rattle.scanner.specs.declared.Datum.{Datum}
use Rattle.scanner.specs.declared.Datum.TheVariants.{Byte, LineEnd}
use Rattle.std.specs.Prelude.{Option, None, Some}
use Rattle.scanner.specs.declared.ByteKind.{ByteKind}
use Rattle.scanner.specs.declared.ByteKind.TheVariants.{White, Control, Return, Plain, Open, Close, Quote, Backslash, Mark, Above, OpenBracket, CloseBracket}
use Rattle.scanner.proofs.CharacterLaws.{no_character, plain_at, fold_within, fold_at_lem, View, one, view}
use Rattle.scanner.proofs.CharacterLaws as characters

-- ---- one step of the walk

-- a character of this kind is data as it is
abbrev pub AsData : ByteKind → Type 0
AsData kind = (b : ℕ) (folded : Bool) → (data_of inside kind b folded ≡ b ∷ []) × (walked inside kind ≡ inside)

-- any but the closing quote and a backslash
pub as_data : (kind : ByteKind) → (kind ≡ Quote → ⊥) → (kind ≡ Backslash → ⊥) → AsData kind
as_data White n m b folded = (refl, refl)
as_data Control n m b folded = (refl, refl)
as_data Return n m b folded = (refl, refl)
as_data Plain n m b folded = (refl, refl)
as_data Open n m b folded = (refl, refl)
as_data Close n m b folded = (refl, refl)
as_data Quote n m b folded = absurd (n refl)
as_data Backslash n m b folded = absurd (m refl)
as_data (Mark class) n m b folded = (refl, refl)
as_data Above n m b folded = (refl, refl)
as_data OpenBracket n m b folded = (refl, refl)
as_data CloseBracket n m b folded = (refl, refl)

-- after the closing quote there are none
data_over : (classes : List ℕ) (cs : List Character) → data_from classes over cs ≡ []
unfolding data_from
data_over classes [] = refl
data_over classes (character b p folded ∷ rest) = data_over classes rest

-- the character after a backslash: what it takes
taken_first : (classes text : List ℕ) (at q : ℕ) {b p : ℕ} {folded : Bool} → characters_at text at ≡ character b p folded ∷ characters_at text q
    → data_from classes taking (characters_at text at) ≡ taken_data b folded ++ data_at classes text q
unfolding data_from
taken_first classes text at q e = rw e

module _ {classes text : List ℕ} {at p q : ℕ} {kind : ByteKind} (x : FirstCharacter classes text at kind p q) where
  step : (walk : Walk) → data_from classes walk (characters_at text at) ≡ data_of walk kind (get_or text p 0) x.folded ++ data_from classes (walked walk kind) (characters_at text q)
  unfolding data_from
  step walk = rw (x.characters, ← x.kind_is)

  datum_step : datum_at classes text at ≡ first_or (data_of inside kind (get_or text p 0) x.folded) (p + 1) (walked inside kind) (characters_at text q)
  unfolding datum_from
  datum_step = rw (x.characters, ← x.kind_is)

  -- data as they are
  pub data_on : AsData kind → data_at classes text at ≡ get_or text p 0 ∷ data_at classes text q
  data_on d = let (e, w) = d (get_or text p 0) x.folded in step inside ∙ rw (e, w)

  pub datum_on : AsData kind → datum_at classes text at ≡ Some (Byte (get_or text p 0) q)
  datum_on d = datum_step ∙ rw ((d (get_or text p 0) x.folded).0, x.behind)

  pub data_taken : data_from classes taking (characters_at text at) ≡ taken_data (get_or text p 0) x.folded ++ data_at classes text q
  data_taken = taken_first classes text at q x.characters

module _ {classes text : List ℕ} {at p q : ℕ} where
  -- a backslash
  pub data_backslash : FirstCharacter classes text at Backslash p q → data_at classes text at ≡ data_from classes taking (characters_at text q)
  data_backslash x = step x inside

  pub datum_backslash : FirstCharacter classes text at Backslash p q → datum_at classes text at ≡ taken_datum (characters_at text q)
  datum_backslash x = datum_step x

  -- the closing quote
  pub data_quote : FirstCharacter classes text at Quote p q → data_at classes text at ≡ []
  data_quote x = step x inside ∙ data_over classes (characters_at text q)

  pub datum_quote : FirstCharacter classes text at Quote p q → datum_at classes text at ≡ None
  datum_quote x = datum_step x

-- the text ends
pub datum_end : (classes text : List ℕ) (at : ℕ) → characters_at text at ≡ [] → datum_at classes text at ≡ None
unfolding datum_from
datum_end classes text at e = rw e

data_end : (classes text : List ℕ) (walk : Walk) (at : ℕ) → characters_at text at ≡ [] → data_from classes walk (characters_at text at) ≡ []
unfolding data_from
data_end classes text walk at e = rw e

-- ---- the next of the data

-- they come first, and the others from a position on, with at least as many bytes passed
pub record DataFirst (classes text : List ℕ) (at : ℕ) (these : List ℕ) (q : ℕ) : Type 0 where
  pub first : data_at classes text at ≡ these ++ data_at classes text q
  pub passed : at + length these ≤ q
  pub within : q ≤ length text

abbrev pub DatumIs : List ℕ → List ℕ → ℕ → Option Datum → Type 0
DatumIs classes text at (Some (Byte b q)) = DataFirst classes text at (b ∷ []) q
DatumIs classes text at (Some (LineEnd b q)) = DataFirst classes text at (return_byte ∷ line_feed_byte ∷ b ∷ []) q
DatumIs classes text at None = data_at classes text at ≡ []

module _ (classes text : List ℕ) where
  module _ {at p q : ℕ} where
    as_is : {kind : ByteKind} → FirstCharacter classes text at kind p q → AsData kind → DatumIs classes text at (datum_at classes text at)
    as_is x d = rw (datum_on x d) record { first = data_on x d; passed = omega (arith, x.from, x.behind); within = x.within }

    -- what a backslash takes, after a fold or not
    takes : FirstCharacter classes text at Backslash p q → (fold : Bool) → fold_at text q ≡ fold → DatumIs classes text at (datum_at classes text at)
    unfolding taken_data
    takes x true e =
        let three : q + 2 + 1 ≡ q + 3 = omega arith in
        rw (datum_backslash x, fold_at_lem text q e, three)
        record { first = data_backslash x ∙ taken_first classes text q (q + 3) (fold_at_lem text q e); passed = omega (arith, x.from, x.behind); within = omega (arith, fold_within text q e) }
    takes x false e = elim (dec_lt q (length text)) [ yes h ↦ takes_one h | no h ↦ takes_none (no_character text q (omega arith)) ]
      where
        takes_one : q < length text → DatumIs classes text at (datum_at classes text at)
        takes_one h =
            rw (datum_backslash x, plain_at text q h e)
            record { first = data_backslash x ∙ taken_first classes text q (q + 1) (plain_at text q h e); passed = omega (arith, x.from, x.behind); within = omega arith }

        takes_none : characters_at text q ≡ [] → DatumIs classes text at (datum_at classes text at)
        takes_none o = rw (datum_backslash x, o) (data_backslash x ∙ data_end classes text taking q o)

    by_kind : (kind : ByteKind) → FirstCharacter classes text at kind p q → DatumIs classes text at (datum_at classes text at)
    by_kind White x = as_is x (λ b f. (refl, refl))
    by_kind Control x = as_is x (λ b f. (refl, refl))
    by_kind Return x = as_is x (λ b f. (refl, refl))
    by_kind Plain x = as_is x (λ b f. (refl, refl))
    by_kind Open x = as_is x (λ b f. (refl, refl))
    by_kind Close x = as_is x (λ b f. (refl, refl))
    by_kind Quote x = rw (datum_quote x) (data_quote x)
    by_kind Backslash x = takes x (fold_at text q) refl
    by_kind (Mark class) x = as_is x (λ b f. (refl, refl))
    by_kind Above x = as_is x (λ b f. (refl, refl))
    by_kind OpenBracket x = as_is x (λ b f. (refl, refl))
    by_kind CloseBracket x = as_is x (λ b f. (refl, refl))

  by_view : (at : ℕ) → View classes text at → DatumIs classes text at (datum_at classes text at)
  by_view at (characters.over e) = rw (datum_end classes text at e) (data_end classes text inside at e)
  by_view at (one {kind} x) = by_kind kind x

  pub datum_is : (at : ℕ) → DatumIs classes text at (datum_at classes text at)
  datum_is at = by_view at (view classes text at)
