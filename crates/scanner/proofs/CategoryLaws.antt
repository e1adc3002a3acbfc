-- What a byte is: by the symbol in which it lies, and between symbols by what scanning passes. Assumes nothing.
use mathlib.Core.Path.{◌≡◌, refl, sym, ◌∙◌}
use mathlib.Core.List.{List, []}
use Prim.Native.Nat.{ℕ, ◌+◌, ◌-◌, ◌≤◌, ◌<◌}
use native.Mathlib.Numerals.{add-one}
use native.Mathlib.Omega.{arith}
use borrow.Author.Tests.{lt-ltb, le-ltb, lt-leb, le-leb}
use lib.Dec.{leb}
use lib.ListN.{get_or, take}
use Rattle.octets.specs.Believed.Classes.{class_table}
use Rattle.octets.specs.Believed.Text.{part}
use Rattle.octets.specs.declared.answers.Answer.TheVariants.{Refused}
use Rattle.octets.proofs.ChoiceLaws.{both_false}
use Rattle.scanner.specs.Believed.Characters.{characters_at}
use Rattle.scanner.specs.Believed.Scanning.{ended, State, outside, in_comment, move, scan_by, scan}
use Rattle.scanner.specs.Believed.Answers.{body_scanned}
use Rattle.scanner.specs.Believed.Categories.{of_symbol, taken_in, behind, between, category_of, of_refused, category_at}
use Rattle.scanner.specs.Ties.Steps.{FirstCharacter}
use Rattle.scanner.specs.Ties.Gaps.{state_of, GapCategoryIs, PassedIs}
use Rattle.scanner.specs.declared.Gap.{Gap}
use Rattle.scanner.specs.declared.Gap.TheVariants.{Outside, Comment, Taking}
use Rattle.std.specs.Prelude.{None, Some}
use Rattle.scanner.specs.declared.Class.{Class}
use Rattle.scanner.specs.declared.Class.TheVariants.{Atom, Quoted, At, LessThan, GreaterThan, Comma, Semicolon, Colon, Stray, Dot, Literal}
use Rattle.scanner.specs.declared.ByteKind.{ByteKind}
use Rattle.scanner.specs.declared.ByteKind.TheVariants.{Open, Close, Backslash}
use Rattle.scanner.specs.declared.Category.{Category}
use Rattle.scanner.specs.declared.Category.TheVariants as category
use Rattle.scanner.specs.Ties.Meanings.{meaning_at}
use Rattle.scanner.proofs.MoveLaws.{Text, Taken, taken, comment_text, closed_inner}
use Rattle.scanner.proofs.Unfolding.{SymbolAt}
use Rattle.scanner.proofs.BodyChecks.{Clean, when_clean, when_refused}

-- ---- in a symbol

-- the bytes of a symbol tell as much as its meaning
by_place : (classes text : List ℕ) (class : Class) (start end : ℕ) → of_symbol class (meaning_at classes text class start end) ≡ of_symbol class (part text start end)
by_place classes text Atom start end = refl
by_place classes text Quoted start end = refl
by_place classes text At start end = refl
by_place classes text LessThan start end = refl
by_place classes text GreaterThan start end = refl
by_place classes text Comma start end = refl
by_place classes text Semicolon start end = refl
by_place classes text Colon start end = refl
by_place classes text Stray start end = refl
by_place classes text Dot start end = refl
by_place classes text Literal start end = refl

-- ---- one character on

-- to a place after it, its move leads on ..
pub moves_on : {classes text : List ℕ} {at : ℕ} {kind : ByteKind} {p q : ℕ} → (x : FirstCharacter classes text at kind p q) (state : State) (place : ℕ) → q ≤ place
    → between classes place (characters_at text at) state ≡ behind (move state kind (get_or text p 0) p x.folded) (λ state'. between classes place (characters_at text q) state')
unfolding between
moves_on {p = p} x state place h = rw (x.characters, between, lt-ltb p place (omega (arith, x.behind)), ← x.kind_is)

-- .. and at a place up to it, it tells itself
pub tells : {classes text : List ℕ} {at : ℕ} {kind : ByteKind} {p q : ℕ} → FirstCharacter classes text at kind p q → (state : State) (place : ℕ) → place < q
    → between classes place (characters_at text at) state ≡ taken_in state kind
unfolding between
tells {p = p} x state place h = rw (x.characters, between, le-ltb p place (omega (arith, x.behind)), ← x.kind_is)

-- the text ends
over : (classes text : List ℕ) (at place : ℕ) (state : State) → characters_at text at ≡ [] → between classes place (characters_at text at) state ≡ category.Nothing
unfolding between
over classes text at place state e = rw e

-- ---- a walk between symbols

-- from outside at a position scanning has come to another, still between symbols, and the place lies after it
pub record Walked (classes text : List ℕ) (place at p : ℕ) (gap : Gap) : Type 0 where
  pub outermost : ℕ
  pub same : between classes place (characters_at text at) outside ≡ between classes place (characters_at text p) (state_of gap outermost)

module _ {classes text : List ℕ} {place at p : ℕ} {gap : Gap} (w : Walked classes text place at p gap) where
  pub walk_over : characters_at text p ≡ [] → category.Nothing ≡ between classes place (characters_at text at) outside
  walk_over e = sym (w.same ∙ over classes text p place (state_of gap w.outermost) e)

  pub walk_tells : {kind : ByteKind} {here q : ℕ} {r : Category} → FirstCharacter classes text p kind here q → place < q → GapCategoryIs gap kind r → r ≡ between classes place (characters_at text at) outside
  walk_tells x h e = e w.outermost ∙ sym (w.same ∙ tells x (state_of gap w.outermost) place h)

  pub walk_ends : {kind : ByteKind} {here q : ℕ} → FirstCharacter classes text p kind here q → q ≤ place → PassedIs gap kind None → category.Nothing ≡ between classes place (characters_at text at) outside
  walk_ends {here = here} x h e = sym (w.same ∙ moves_on x (state_of gap w.outermost) place h ∙ e w.outermost (get_or text here 0) here x.folded _)

  pub walk_on : {kind : ByteKind} {here q : ℕ} {next : Gap} → FirstCharacter classes text p kind here q → q ≤ place → PassedIs gap kind (Some next) → Walked classes text place at q next
  walk_on {here = here} x h e =
      let l = e w.outermost (get_or text here 0) here x.folded in
      record { outermost = l.outermost; same = w.same ∙ moves_on x (state_of gap w.outermost) place h ∙ l.same _ }

-- ---- where each character leads

-- outside
pub open_passed : PassedIs Outside Open (Some (Comment 0))
open_passed start b p folded = record { outermost = p; same = λ rest. refl }

-- in a comment
pub deeper : (depth : ℕ) → PassedIs (Comment depth) Open (Some (Comment (depth + 1)))
deeper depth start b p folded = record { outermost = start; same = λ rest. rw add-one }

pub closes_one : (depth : ℕ) → (depth ≡ 0 → ⊥) → PassedIs (Comment depth) Close (Some (Comment (depth - 1)))
closes_one depth n start b p folded = record { outermost = start; same = λ rest. rw (closed_inner depth start n) }

pub takes_next : (depth : ℕ) → PassedIs (Comment depth) Backslash (Some (Taking depth))
takes_next depth start b p folded = record { outermost = start; same = λ rest. refl }

pub text_passed : (depth : ℕ) (kind : ByteKind) → Text kind → PassedIs (Comment depth) kind (Some (Comment depth))
text_passed depth kind o start b p folded = record { outermost = start; same = λ rest. rw (comment_text kind depth start b p folded o) }

pub taken_passed : (depth : ℕ) (kind : ByteKind) → Taken kind → PassedIs (Taking depth) kind (Some (Comment depth))
taken_passed depth kind o start b p folded = record { outermost = start; same = λ rest. rw (taken kind (in_comment depth start) p o) }

-- ---- in a text

-- no symbol is left
pub category_over : (classes text : List ℕ) (at place : ℕ) → scan_by classes text at ≡ ended → category_of classes text place at (scan_by classes text at) ≡ between classes place (characters_at text at) outside
unfolding category_of
category_over classes text at place e = rw e

-- before the next symbol, in it, and after it
module _ {classes text : List ℕ} {at : ℕ} {class : Class} {start end : ℕ} (x : SymbolAt classes text at class start end) (place : ℕ) where
  pub category_before : place < start → category_of classes text place at (scan_by classes text at) ≡ between classes place (characters_at text at) outside
  unfolding category_of
  category_before h = rw (x.same, category_of, lt-ltb place start h)

  pub category_in : start ≤ place → place < end → category_of classes text place at (scan_by classes text at) ≡ of_symbol class (part text start end)
  unfolding category_of
  category_in h k = rw (x.same, category_of, le-ltb place start h, lt-ltb place end k) (by_place classes text class start end)

  pub category_behind : end ≤ place → category_of classes text place at (scan_by classes text at) ≡ category_of classes text place end (scan_by classes text end)
  unfolding category_of
  category_behind h = rw (x.same, category_of, le-ltb place start (omega (arith, x.starts)), le-ltb place end h)

-- ---- in a body

module _ (message : List ℕ) (start end place : ℕ) where
  pub category_refused : {number p : ℕ} → Refused number p ≡ body_scanned message start end → category_at message start end place ≡ category.Nothing
  category_refused e = when_refused message start end of_refused _ e

  -- a place before the body, after it, and in it
  pub category_ahead : Clean message start end → place < start → category_at message start end place ≡ category.Nothing
  category_ahead x h = when_clean message start end of_refused _ x ∙ rw (lt-leb start place h)

  pub category_past : Clean message start end → end ≤ place → category_at message start end place ≡ category.Nothing
  category_past x h = when_clean message start end of_refused _ x ∙ rw (le-ltb place end h, both_false (leb start place))

  pub category_inside : Clean message start end → start ≤ place → place < end → category_at message start end place ≡ category_of class_table (take end message) place start (scan (take end message) start)
  category_inside x h k = when_clean message start end of_refused _ x ∙ rw (le-leb start place h, lt-ltb place end k)
