-- Where a cursor moves on to, by the class of the first byte that is no white space. Assumes nothing.
use mathlib.Core.Path.{◌≡◌, refl, sym, ap, ◌∙◌}
use mathlib.Core.Bool.{true}
use mathlib.Core.List.{List, [], ◌∷◌}
use Prim.Native.Nat.{ℕ, ◌+◌, ◌-◌, ◌≤◌, ◌<◌}
use native.Mathlib.Omega.{arith}
use borrow.Author.Tests.{ltb-true, eqb-true}
use lib.Dec.{ltb}
use lib.ListN.{length, get_or}
use types.Run.{hit}
use Rattle.octets.specs.Believed.Classes.{quote, white, close_bracket, letter}
use Rattle.octets.specs.Believed.Text.{part}
use Rattle.octets.proofs.ChoiceLaws.{both_parts}
use Rattle.octets.proofs.Parts.{part_length}
use Rattle.octets.proofs.Tables.{at}
use Rattle.scanner.specs.Believed.Kinds.{kind_of_class}
use Rattle.scanner.specs.Believed.Scanning.{Scanned, ended, next, fault_at, outside, in_quoted, go, symbol, atom_class, parted, scan_by}
use Rattle.scanner.specs.Believed.Answers.{found_at, next_of}
use Rattle.scanner.specs.Ties.Steps.{outside_at, FirstCharacter, ReturnIsControl, PlainEnds, DataPasses, quote_at}
use Rattle.scanner.specs.Ties.Cursors.{IsSingle, next_in, comes_at, moved}
use Rattle.scanner.specs.declared.Class.{Class}
use Rattle.scanner.specs.declared.Class.TheVariants.{Quoted}
use Rattle.scanner.specs.declared.cursor.Cursor.{Cursor}
use Rattle.scanner.specs.declared.Next.{Next}
use Rattle.scanner.specs.declared.Next.TheVariants.{Found, Ended, Fault}
use Rattle.scanner.specs.declared.ByteKind.{ByteKind}
use Rattle.scanner.specs.declared.ByteKind.TheVariants.{White, Control, Return, Plain, Open, Close, Quote, Backslash, Mark, Above, OpenBracket, CloseBracket}
use Rattle.scanner.proofs.CharacterLaws.{no_character}
use Rattle.scanner.proofs.MoveLaws.{at_end_lem, moves, atom_begins, mark_next, stray_next}
use Rattle.scanner.proofs.ByteLaws.{class_first, plain_byte}

-- what is looked for from a position is looked for there, and scanning outside has come from it to another
pub record Passing (classes text : List ℕ) (from at p : ℕ) : Type 0 where
  pub looked : from ≡ at
  pub same : outside_at classes text at ≡ outside_at classes text p

-- what comes next there comes next
pub moves_on : {classes text : List ℕ} (before held : Cursor) {after : Cursor} {p : ℕ} → Passing classes text held.from before.end p → after ≡ moved (comes_at classes text held.from p) held.from → after ≡ moved (next_of (scan_by classes text before.end)) before.end
moves_on before held w e = e ∙ rw (w.looked, w.same)

-- what a cursor that has moved on tells
told_next : (from : ℕ) (s : Scanned) → next_in (moved (next_of (parted from s)) from) ≡ next_of (parted from s)
unfolding next_in parted
told_next from ended = refl
told_next from (next x rest) = refl
told_next from (fault_at number p) = refl

pub tells_next : (classes text : List ℕ) (at : ℕ) {after : Cursor} → after ≡ moved (next_of (scan_by classes text at)) at → next_in after ≡ next_of (scan_by classes text at)
tells_next classes text at e = ap next_in e ∙ told_next at (outside_at classes text at)

-- what was looked for from a position, told as looked for from another
abbrev pub told_from : ℕ → Next → Next
told_from from (Found symbol) = found_at symbol.class symbol.start symbol.end symbol.length (ltb from symbol.start)
told_from from Ended = Ended
told_from from (Fault number p) = Fault number p

pub looked_from : (from at : ℕ) (s : Scanned) {coming : Next} → coming ≡ next_of (parted at s) → told_from from coming ≡ next_of (parted from s)
unfolding parted
looked_from from at ended e = ap (told_from from) e
looked_from from at (next x rest) e = ap (told_from from) e
looked_from from at (fault_at number p) e = ap (told_from from) e

-- ---- symbols of one byte

module _ {classes text : List ℕ} {p q : ℕ} (from : ℕ) where
  single_comes : (kind : ByteKind) {class : Class} → FirstCharacter classes text p kind p q → IsSingle kind class → found_at class p q 1 (ltb from p) ≡ comes_at classes text from p
  unfolding parted
  single_comes White x h = absurd h
  single_comes Control x h = absurd h
  single_comes Return x h = absurd h
  single_comes Plain x h = absurd h
  single_comes Open x h = absurd h
  single_comes Close x h = rw h (ap (λ (s : Scanned). next_of (parted from s)) (sym (stray_next x (hit (5 ∷ 7 ∷ 11 ∷ []) 5 tt))))
  single_comes Quote x h = absurd h
  single_comes Backslash x h = rw h (ap (λ (s : Scanned). next_of (parted from s)) (sym (stray_next x (hit (5 ∷ 7 ∷ 11 ∷ []) 7 tt))))
  single_comes (Mark mark) x h = rw h (ap (λ (s : Scanned). next_of (parted from s)) (sym (mark_next x)))
  single_comes Above x h = absurd h
  single_comes OpenBracket x h = absurd h
  single_comes CloseBracket x h = rw h (ap (λ (s : Scanned). next_of (parted from s)) (sym (stray_next x (hit (5 ∷ 7 ∷ 11 ∷ []) 11 tt))))

-- ---- by the byte at a position

module _ {classes : List ℕ} (cr : ReturnIsControl classes) (text : List ℕ) (p : ℕ) (h : p < length text) where
  -- white space is passed over
  pub white_passes : get_or classes (get_or text p 0) 0 ≡ white → outside_at classes text p ≡ outside_at classes text (p + 1)
  white_passes e = moves (class_first cr text p h {kind = White} (λ z. omega arith) (rw e)) outside (go [] outside) refl

  -- a mark, or a stray backslash, is a symbol by itself
  pub mark_comes : (from : ℕ) {class : Class} → close_bracket < get_or classes (get_or text p 0) 0 → IsSingle (kind_of_class (get_or classes (get_or text p 0) 0)) class
      → found_at class p (p + 1) 1 (ltb from p) ≡ comes_at classes text from p
  mark_comes from l s = single_comes from (kind_of_class (get_or classes (get_or text p 0) 0)) (class_first cr text p h (λ z. omega arith) refl) s

  -- an atom
  pub atom_comes : (from : ℕ) {end : ℕ} {class : Class} → letter ≤ get_or classes (get_or text p 0) 0 → PlainEnds classes text (p + 1) end → class ≡ atom_class (part text p end)
      → found_at class p end (end - p) (ltb from p) ≡ comes_at classes text from p
  unfolding parted
  atom_comes from {end} {class} l x e =
      ap (λ (size : ℕ). found_at class p end size (ltb from p)) (sym (part_length text p end x.within))
      ∙ rw e (ap (λ (s : Scanned). next_of (parted from s)) (sym (atom_begins (plain_byte cr text p h l) ∙ (x.atom_from p (omega arith)).same)))

  -- a quoted-string whose data stand for themselves
  pub quoted_comes : (from : ℕ) {end : ℕ} → get_or classes (get_or text p 0) 0 ≡ quote → DataPasses classes text (p + 1) end → end < length text → get_or classes (get_or text end 0) 0 ≡ quote
      → found_at Quoted p (end + 1) (end - p - 1) (ltb from p) ≡ comes_at classes text from p
  unfolding parted
  quoted_comes from {end} e x k f =
      let n : end - p - 1 ≡ length (part text (p + 1) end) = sym (part_length text (p + 1) end x.within ∙ omega arith) in
      rw n
      (ap (λ (s : Scanned). next_of (parted from s))
      (sym
      (moves (class_first cr text p h {kind = Quote} (λ z. omega arith) (rw e)) outside (go [] (in_quoted p [])) refl
      ∙ x.same p
      ∙ moves (class_first cr text end k {kind = Quote} (λ z. omega arith) (rw f)) (in_quoted p (part text (p + 1) end)) (go (symbol Quoted p (end + 1) (part text (p + 1) end) ∷ []) outside) refl)))

-- a quote stands there
pub quote_there : (classes text : List ℕ) (i : ℕ) → quote_at classes text i ≡ true → (i < length text) × (get_or classes (get_or text i 0) 0 ≡ quote)
quote_there classes text i e =
    let two = both_parts (ltb i (length text)) _ e in
    (ltb-true i (length text) two.0, eqb-true (get_or classes (get_or text i 0) 0) quote two.1)

-- the text ends
pub end_comes : (classes text : List ℕ) (from p : ℕ) → length text ≤ p → Ended ≡ comes_at classes text from p
unfolding parted
end_comes classes text from p h = ap (λ (s : Scanned). next_of (parted from s)) (sym (at_end_lem classes text p outside (no_character text p h)))
