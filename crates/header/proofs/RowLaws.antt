-- The row of the known names that a name leaves. Assumes nothing.
use mathlib.Core.Path.{◌≡◌, refl, ◌∙◌}
use mathlib.Core.Bool.{Bool, true, false, not}
use mathlib.Core.List.{List, [], ◌∷◌}
use Prim.Native.Nat.{ℕ, suc, ◌+◌, ◌≤◌, ◌<◌}
use native.Mathlib.Omega.{arith}
use borrow.Author.Tests.{not-true}
use lib.ListN.{length, take, drop, get_or}
use Rattle.octets.specs.Believed.Choice.{pick}
use Rattle.octets.proofs.ChoiceLaws.{both_parts}
use Rattle.header.specs.Believed.Names.{KnownName, known_names, known_in, same_length_and_first, one_has}
use Rattle.header.specs.declared.names.Known.TheVariants.{Other}
use Rattle.header.proofs.NameLaws.{differing, one_shared, none_agrees, pairs_differ, known_differ}

-- what stands past the last row
abbrev pub past_rows : KnownName
past_rows = record { known = Other; text = [] }

-- the row of the first name with a name's length and first letter; the number of rows if there is none
unfoldable pub row_left : List KnownName → List ℕ → ℕ
row_left [] name = 0
row_left (k ∷ rest) name = pick (same_length_and_first name k.text) 0 (suc (row_left rest name))

-- so many known names were compared with a name, and at most that in row i is left
pub record Left (names : List KnownName) (name : List ℕ) (i compared : ℕ) : Type 0 where
  pub within : i ≤ length names
  pub searched : known_in names name ≡ known_in (take 1 (drop i names)) name
  pub counted : pick (one_has names name) 1 0 ≡ compared + length (take 1 (drop i names))
  pub fits : i < length names → (compared ≡ 0) × (same_length_and_first name (get_or names i past_rows).text ≡ true)

-- before the first is compared, that in the first row with a name's length and first letter is left
pub one_left : (names : List KnownName) (name : List ℕ) → pairs_differ names ≡ true → Left names name (row_left names name) 0
unfolding pairs_differ row_left one_has known_in
one_left [] name p = record { within = omega arith; searched = refl; counted = refl; fits = λ h. absurd (omega (arith, h)) }
one_left (k ∷ rest) name p =
    let (d, q) = both_parts (not (one_has rest k.text)) (pairs_differ rest) p in
    by (same_length_and_first name k.text) refl (not-true _ d) (one_left rest name q)
  where
    by : (t : Bool) → same_length_and_first name k.text ≡ t → one_has rest k.text ≡ false → Left rest name (row_left rest name) 0
        → Left (k ∷ rest) name (pick t 0 (suc (row_left rest name))) 0
    by true e d l =
        let n = none_agrees rest name (one_shared rest name k.text e ∙ d) in
        record { within = omega arith; searched = rw n; counted = rw e; fits = λ h. (refl, e) }
    by false e d l =
        record {
          within = omega (arith, l.within);
          searched = rw (differing name k.text e) l.searched;
          counted = rw e l.counted;
          fits = λ h. l.fits (omega (arith, h));
        }

-- so it is with the known names
pub known_left : (name : List ℕ) → Left known_names name (row_left known_names name) 0
known_left name = one_left known_names name known_differ
