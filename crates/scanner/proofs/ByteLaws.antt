-- What a byte does that its class tells alone, by a table that has CR among the control bytes. Assumes nothing.
use mathlib.Core.Path.{◌≡◌, refl, sym, ap, ◌∙◌}
use mathlib.Core.Bool.{Bool, true, false}
use mathlib.Core.List.{List, [], ◌∷◌, ◌++◌}
use Prim.Native.Nat.{ℕ, ◌+◌, ◌≤◌, ◌<◌}
use native.Mathlib.Decide.{dec_lt}
use native.Mathlib.Omega.{arith}
use borrow.Author.Tests.{le-ltb, ne_eqb, leb-true, leb-false}
use lib.Dec.{T, eqb, ltb}
use lib.ListN.{length, get_or}
use mir.Val.{has_key}
use types.Run.{hit}
use Rattle.octets.specs.Believed.Choice.{either}
use Rattle.octets.specs.Believed.Classes.{control, white, backslash, letter}
use Rattle.octets.specs.Believed.Octets.{return_byte}
use Rattle.octets.specs.Believed.Text.{part}
use Rattle.octets.proofs.Parts.{part_none}
use Rattle.octets.proofs.Tables.{at}
use Rattle.scanner.specs.Believed.Kinds.{kind_of_class, kind_of}
use Rattle.scanner.specs.Believed.Characters.{fold_at, characters_at}
use Rattle.scanner.specs.Believed.Scanning.{in_atom, in_quoted, go, scan_from, atom, next}
use Rattle.scanner.specs.Ties.Steps.{outside_at, FirstCharacter, ReturnIsControl, plain_at, PlainEnds, DataPasses}
use Rattle.scanner.specs.declared.ByteKind.{ByteKind}
use Rattle.scanner.specs.declared.ByteKind.TheVariants.{Plain}
use Rattle.scanner.proofs.CharacterLaws.{no_character, no_return, plain_first, fold_first}
use Rattle.scanner.proofs.MoveLaws.{tag, moves, NotPlain, Data, quoted_data, part_more, atom_on, atom_ends, atom_last}

-- a byte other than CR has the kind of its class
class_kind : (classes : List ℕ) (b : ℕ) {class : ℕ} {kind : ByteKind} → (b ≡ return_byte → ⊥) → class ≡ get_or classes b 0 → kind ≡ kind_of_class class → kind ≡ kind_of classes b
unfolding kind_of
class_kind classes b n e k = k ∙ rw (ne_eqb b return_byte n, ← e)

-- the kind of a class of the bytes of atoms
pub plain_class : (class : ℕ) → letter ≤ class → Plain ≡ kind_of_class class
plain_class class h =
    simp (
      ne_eqb class 5 (λ e. omega arith),
      ne_eqb class 0 (λ e. omega arith),
      ne_eqb class 1 (λ e. omega arith),
      ne_eqb class 6 (λ e. omega arith),
      ne_eqb class 8 (λ e. omega arith),
      ne_eqb class 9 (λ e. omega arith),
      ne_eqb class 10 (λ e. omega arith),
      ne_eqb class 11 (λ e. omega arith),
      ne_eqb class 12 (λ e. omega arith),
      ne_eqb class 13 (λ e. omega arith),
      ne_eqb class 15 (λ e. omega arith),
      ne_eqb class 2 (λ e. omega arith),
      ne_eqb class 4 (λ e. omega arith),
      ne_eqb class 14 (λ e. omega arith),
      ne_eqb class 3 (λ e. omega arith),
      ne_eqb class 7 (λ e. omega arith),
    )

-- the kind of any other class, tested over all of them
abbrev other_kinds : List ℕ
other_kinds = 0 ∷ 1 ∷ 2 ∷ 4 ∷ 5 ∷ 6 ∷ 7 ∷ 8 ∷ 9 ∷ 10 ∷ 11 ∷ []

abbrev pub classes_below : List ℕ
classes_below = 0 ∷ 1 ∷ 2 ∷ 3 ∷ 4 ∷ 5 ∷ 6 ∷ 7 ∷ 8 ∷ 9 ∷ 10 ∷ 11 ∷ 12 ∷ 13 ∷ 14 ∷ 15 ∷ []

other_class : (class : ℕ) → class < letter → NotPlain (kind_of_class class)
other_class class h = hit other_kinds (tag (kind_of_class class)) (at (λ c n. has_key other_kinds (tag (kind_of_class c))) classes_below 0 tt class (omega arith))

module _ {classes : List ℕ} (cr : ReturnIsControl classes) (text : List ℕ) (p : ℕ) (h : p < length text) where
  -- a byte that is no control byte is not CR
  no_cr : (get_or classes (get_or text p 0) 0 ≡ control → ⊥) → get_or text p 0 ≡ return_byte → ⊥
  no_cr n e = n (rw e cr.is_control)

  -- such a byte is a character, with the kind of its class
  pub class_first : {kind : ByteKind} → (get_or classes (get_or text p 0) 0 ≡ control → ⊥) → kind ≡ kind_of_class (get_or classes (get_or text p 0) 0) → FirstCharacter classes text p kind p (p + 1)
  class_first n k = plain_first classes text p h (no_return text p (no_cr n)) (class_kind classes (get_or text p 0) (no_cr n) refl k)

  -- a byte of an atom
  pub plain_byte : letter ≤ get_or classes (get_or text p 0) 0 → FirstCharacter classes text p Plain p (p + 1)
  plain_byte l = class_first (λ e. omega arith) (plain_class (get_or classes (get_or text p 0) 0) l)

module _ (classes text : List ℕ) (p : ℕ) (h : p < length text) (l : get_or classes (get_or text p 0) 0 < letter) where
  by_kind : (return : Bool) → eqb (get_or text p 0) return_byte ≡ return → NotPlain (kind_of classes (get_or text p 0))
  unfolding kind_of
  by_kind true e = rw e (hit other_kinds 2 tt)
  by_kind false e = rw e (other_class (get_or classes (get_or text p 0) 0) l)

  by_fold : (fold : Bool) → fold_at text p ≡ fold → (start : ℕ) (t : List ℕ) → scan_from classes (characters_at text p) (in_atom start p t) ≡ next (atom start p t) (outside_at classes text p)
  by_fold true e start t = atom_ends start t (fold_first classes text p e) (hit other_kinds 0 tt)
  by_fold false e start t = atom_ends start t (plain_first classes text p h e refl) (by_kind (eqb (get_or text p 0) return_byte) refl)

  -- any other byte ends an atom
  pub other_byte : (start : ℕ) (t : List ℕ) → scan_from classes (characters_at text p) (in_atom start p t) ≡ next (atom start p t) (outside_at classes text p)
  other_byte = by_fold (fold_at text p) refl

-- ---- an atom

-- every atom that has run up to a position has run up to another
pub record Running (classes text : List ℕ) (at p : ℕ) : Type 0 where
  pub same : (start : ℕ) → start ≤ at → scan_from classes (characters_at text at) (in_atom start at (part text start at)) ≡ scan_from classes (characters_at text p) (in_atom start p (part text start p))
  pub from : at ≤ p
  pub within : p ≤ length text

pub runs : (classes text : List ℕ) (at : ℕ) → at ≤ length text → Running classes text at at
runs classes text at h = record { same = λ start l. refl; from = omega arith; within = h }

module _ {classes text : List ℕ} {at p : ℕ} (w : Running classes text at p) where
  -- a byte of an atom goes on with it
  pub runs_on : {q : ℕ} → ReturnIsControl classes → q ≡ p + 1 → p < length text → plain_at classes text p ≡ true → Running classes text at q
  runs_on cr n h l =
      record {
        same = λ start s. w.same start s ∙ rw n (atom_on start (omega (arith, w.from)) (plain_byte cr text p h (leb-true _ _ l)));
        from = omega (arith, w.from);
        within = omega arith;
      }

  ends_by : ((start : ℕ) → scan_from classes (characters_at text p) (in_atom start p (part text start p)) ≡ next (atom start p (part text start p)) (outside_at classes text p)) → PlainEnds classes text at p
  ends_by e = record { atom_from = λ start s. record { same = w.same start s ∙ e start; from = w.from; within = w.within }; from = w.from; within = w.within }

  -- any other ends it
  pub runs_out : p < length text → plain_at classes text p ≡ false → PlainEnds classes text at p
  runs_out h l = ends_by (λ start. other_byte classes text p h (leb-false _ _ l) start (part text start p))

  -- the text ends it
  pub runs_last : length text ≤ p → PlainEnds classes text at p
  runs_last h = ends_by (λ start. atom_last classes text start p (part text start p) (no_character text p h))

  -- it ends where it does from the position on to which it has run
  pub runs_to : {end : ℕ} → PlainEnds classes text p end → PlainEnds classes text at end
  runs_to x =
      let y : at ≤ p = w.from in
      record {
        atom_from = λ start s. record { same = w.same start s ∙ (x.atom_from start (omega arith)).same; from = omega (arith, x.from); within = x.within };
        from = omega (arith, x.from);
        within = x.within;
      }

-- ---- the data of a quoted-string

-- the keys of their kinds
abbrev data_kinds : List ℕ
data_kinds = 0 ∷ 1 ∷ 3 ∷ 4 ∷ 5 ∷ 8 ∷ 10 ∷ 11 ∷ []

neither : (a b c : Bool) → a ≡ false → b ≡ false → T (either a (either b c)) → T c
neither a b c x y t = rw (x, y) at t

-- the kind of a class from that of white space on that is not the backslash's, tested over all below those of atoms
data_class : (class : ℕ) → white ≤ class → (class ≡ backslash → ⊥) → Data (kind_of_class class)
data_class class h n = elim (dec_lt class letter) [ yes l ↦ special l | no l ↦ rw (sym (plain_class class (omega arith))) (hit data_kinds 3 tt) ]
  where
    special : class < letter → Data (kind_of_class class)
    special l =
        hit data_kinds (tag (kind_of_class class))
        (neither (ltb class white) (eqb class backslash) _ (le-ltb class white h) (ne_eqb class backslash n) (at (λ c m. either (ltb c white) (either (eqb c backslash) (has_key data_kinds (tag (kind_of_class c))))) classes_below 0 tt class (omega arith)))

pub no_data : (classes text : List ℕ) (at : ℕ) → at ≤ length text → DataPasses classes text at at
no_data classes text at h =
    record { same = λ start. ap (λ (t : List ℕ). scan_from classes (characters_at text at) (in_quoted start t)) (sym (part_none text at at (omega arith))); from = omega arith; within = h }

-- a byte of such a class is one of them
pub data_on : {classes text : List ℕ} {at p : ℕ} → DataPasses classes text at p → ReturnIsControl classes → p < length text → white ≤ get_or classes (get_or text p 0) 0 → (get_or classes (get_or text p 0) 0 ≡ backslash → ⊥)
    → DataPasses classes text at (p + 1)
data_on {classes} {text} {at} {p} w cr h l n =
    let class : ℕ = get_or classes (get_or text p 0) 0 in
    let x : FirstCharacter classes text p (kind_of_class class) p (p + 1) = class_first cr text p h (λ e. omega arith) refl in
    let y : at ≤ p = w.from in
    record {
      same = λ start.
          w.same start
          ∙ moves x (in_quoted start (part text at p)) (go [] (in_quoted start (part text at p ++ (get_or text p 0 ∷ [])))) (quoted_data (kind_of_class class) start (part text at p) (get_or text p 0) p x.folded (data_class class l n))
          ∙ ap (λ (t : List ℕ). scan_from classes (characters_at text (p + 1)) (in_quoted start t)) (part_more text at p y h);
      from = omega arith;
      within = omega arith;
    }
