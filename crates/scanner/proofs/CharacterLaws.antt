-- The first character of a text at or after a position. Assumes nothing.
use mathlib.Core.Path.{◌≡◌, refl, ap, ◌∙◌}
use mathlib.Core.Logic.{◌⊎◌, inl, inr, ⊎_elim}
use mathlib.Core.Bool.{Bool, true, false}
use mathlib.Core.List.{List, [], ◌∷◌}
use Prim.Native.Nat.{ℕ, suc, ◌+◌, ◌≤◌, ◌<◌}
use native.Mathlib.Nat.{add-zero}
use native.Mathlib.Decide.{dec_lt}
use native.Mathlib.Omega.{arith}
use borrow.Author.Tests.{eq-eqb, ne_eqb, eqb-true}
use lib.Dec.{eqb}
use lib.ListN.{length, drop, get_or, drop_of_length-le, get_or-eq_default}
use lib.Seq.{get_or-drop}
use Rattle.octets.specs.Believed.Octets.{return_byte}
use Rattle.octets.specs.Believed.Text.{crlf_at}
use Rattle.octets.proofs.ChoiceLaws.{both_false, both_parts, either_parts}
use Rattle.octets.proofs.Parts.{from_here}
use Rattle.scanner.specs.Believed.Kinds.{kind_of}
use Rattle.scanner.specs.Believed.Characters.{character, fold_at, none, characters_from, characters_at}
use Rattle.scanner.specs.Ties.Steps.{FirstCharacter}
use Rattle.scanner.specs.declared.ByteKind.{ByteKind}
use Rattle.scanner.specs.declared.ByteKind.TheVariants.{White, Return}

-- past the end there is none
pub no_character : (text : List ℕ) (at : ℕ) → length text ≤ at → characters_at text at ≡ []
unfolding characters_from
no_character text at h = rw (drop_of_length-le text h)

-- ---- a byte that starts no fold

pub plain_here : (b : ℕ) (rest : List ℕ) (p : ℕ) → fold_at (b ∷ rest) 0 ≡ false → characters_from none (b ∷ rest) p ≡ character b p false ∷ characters_from none rest (p + 1)
unfolding characters_from
plain_here b rest p h = rw (h, characters_from)

fold_drop : (text : List ℕ) (at : ℕ) → fold_at (drop at text) 0 ≡ fold_at text at
fold_drop text at = simp (get_or-drop, add-zero)

pub plain_at : (text : List ℕ) (at : ℕ) → at < length text → fold_at text at ≡ false → characters_at text at ≡ character (get_or text at 0) at false ∷ characters_at text (at + 1)
plain_at text at h e =
    let d : drop at text ≡ get_or text at 0 ∷ drop (at + 1) text = from_here text at 0 h in
    ap (λ (l : List ℕ). characters_from none l at) d ∙ plain_here (get_or text at 0) (drop (at + 1) text) at (rw d at (fold_drop text at ∙ e))

-- ---- a fold

fold_here : (a b c : ℕ) (rest : List ℕ) (p : ℕ) → fold_at (a ∷ b ∷ c ∷ rest) 0 ≡ true → characters_from none (a ∷ b ∷ c ∷ rest) p ≡ character c (p + 1 + 1) true ∷ characters_from none rest (p + 1 + 1 + 1)
unfolding characters_from
fold_here a b c rest p h = rw (h, characters_from)

-- after its CRLF stands SPACE or HTAB
fold_white : (text : List ℕ) (i : ℕ) → fold_at text i ≡ true → (get_or text (i + 2) 0 ≡ 32) ⊎ (get_or text (i + 2) 0 ≡ 9)
fold_white text i e =
    let two = both_parts (crlf_at text i) _ e in
    ⊎_elim (λ z. inl (eqb-true _ _ z)) (λ z. inr (eqb-true _ _ z)) (either_parts (eqb (get_or text (i + 2) 0) 32) (eqb (get_or text (i + 2) 0) 9) two.1)

in_range : (text : List ℕ) (i v : ℕ) → get_or text i 0 ≡ suc v → i < length text
in_range text i v e = elim (dec_lt i (length text)) [ yes h ↦ h | no h ↦ absurd (omega (arith, get_or-eq_default {A = ℕ} text 0 {n = i} (omega arith))) ]

-- it lies inside the text
pub fold_within : (text : List ℕ) (i : ℕ) → fold_at text i ≡ true → i + 2 < length text
fold_within text i e = ⊎_elim (λ z. in_range text (i + 2) 31 z) (λ z. in_range text (i + 2) 8 z) (fold_white text i e)

-- its CRLF is dropped
pub fold_at_lem : (text : List ℕ) (at : ℕ) → fold_at text at ≡ true → characters_at text at ≡ character (get_or text (at + 2) 0) (at + 2) true ∷ characters_at text (at + 3)
fold_at_lem text at e =
    let h : at + 2 < length text = fold_within text at e in
    let two : at + 1 + 1 ≡ at + 2 = omega arith in
    let three : at + 2 + 1 ≡ at + 3 = omega arith in
    let d : drop at text ≡ get_or text at 0 ∷ get_or text (at + 1) 0 ∷ get_or text (at + 2) 0 ∷ drop (at + 3) text =
    from_here text at 0 (omega arith) ∙ rw (from_here text (at + 1) 0 (omega arith), two, from_here text (at + 2) 0 h, three) in
    ap (λ (l : List ℕ). characters_from none l at) d
    ∙ fold_here (get_or text at 0) (get_or text (at + 1) 0) (get_or text (at + 2) 0) (drop (at + 3) text) at (rw d at (fold_drop text at ∙ e))
    ∙ rw (two, three)

-- there is no fold so near the end
pub no_fold : (text : List ℕ) (i : ℕ) → length text ≤ i + 2 → fold_at text i ≡ false
no_fold text i h = rw (get_or-eq_default text 0 h) (both_false (crlf_at text i))

-- ---- what a test of the bytes at a position says of a fold there

-- CR has a kind of its own
pub return_kind : (classes : List ℕ) (b : ℕ) → b ≡ return_byte → Return ≡ kind_of classes b
unfolding kind_of
return_kind classes b e = rw (eq-eqb b return_byte e)

pub no_return : (text : List ℕ) (i : ℕ) → (get_or text i 0 ≡ 13 → ⊥) → fold_at text i ≡ false
no_return text i n = rw (ne_eqb (get_or text i 0) 13 n)

-- ---- the first character

module _ (classes text : List ℕ) (at : ℕ) where
  -- a byte that starts no fold
  pub plain_first : {kind : ByteKind} → at < length text → fold_at text at ≡ false → kind ≡ kind_of classes (get_or text at 0) → FirstCharacter classes text at kind at (at + 1)
  plain_first h e k =
      record { folded = false; characters = plain_at text at h e; kind_is = k; from = omega arith; distance = refl; behind = refl; within = omega arith; tight = λ n. refl }

  -- the white space of a fold
  pub fold_first : fold_at text at ≡ true → FirstCharacter classes text at White (at + 2) (at + 3)
  fold_first e =
      record { folded = true; characters = fold_at_lem text at e; kind_is = refl; from = omega arith; distance = refl; behind = omega arith; within = omega (arith, fold_within text at e); tight = λ n. absurd (n refl) }

  -- there is a first character, or the text has ended
  pub data View : Type 0 where
    over : characters_at text at ≡ [] → View
    one : {kind : ByteKind} {p q : ℕ} → FirstCharacter classes text at kind p q → View

  by_fold : (fold : Bool) → at < length text → fold_at text at ≡ fold → View
  by_fold true h e = one (fold_first e)
  by_fold false h e = one (plain_first h e refl)

  pub view : View
  view = elim (dec_lt at (length text)) [ yes h ↦ by_fold (fold_at text at) h refl | no h ↦ over (no_character text at (omega arith)) ]

-- where there is none, the text has ended
pub none_left : (text : List ℕ) (at : ℕ) → characters_at text at ≡ [] → length text ≤ at
none_left text at e = elim (dec_lt at (length text)) [ yes h ↦ absurd (by (fold_at text at) h refl) | no h ↦ omega arith ]
  where
    by : (fold : Bool) → at < length text → fold_at text at ≡ fold → ⊥
    by true h f = let g = fold_at_lem text at f in let z : ◌≡◌ {A = ℕ} 0 1 = cc in omega arith
    by false h f = let g = plain_at text at h f in let z : ◌≡◌ {A = ℕ} 0 1 = cc in omega arith
