-- A symbol that stands apart has white space or a comment right before it, and each symbol is the first from the end of the one before it. Assumes nothing.
use mathlib.Core.Path.{◌≡◌, refl, sym, ◌∙◌}
use mathlib.Core.Bool.{Bool, true, false}
use mathlib.Core.List.{List, [], ◌∷◌}
use Prim.Native.Nat.{ℕ, ◌-◌, ◌≤◌, ◌<◌}
use native.Mathlib.Omega.{arith}
use borrow.Author.Tests.{ltb-true, ltb-false}
use lib.Dec.{ltb}
use Rattle.scanner.specs.Believed.Symbols.{Symbol}
use Rattle.scanner.specs.Believed.Kinds.{character_kind}
use Rattle.scanner.specs.Believed.Characters.{Character, character, characters_at}
use Rattle.scanner.specs.Believed.Scanning.{Scanned, next, State, outside, in_atom, in_quoted, taking_in_quoted, in_literal, taking_in_literal, in_comment, taking_in_comment, Move, go, halt, move, symbol, apart_from, scan_by}
use Rattle.scanner.specs.Believed.Categories.{taken_outside, taken_in, behind, between, Told}
use Rattle.scanner.specs.Believed.Apart.{WhiteOrComment, ApartIs, EachFromTheEndBefore}
use Rattle.scanner.specs.Ties.Meanings.{meaning_at}
use Rattle.scanner.specs.declared.Class.{Class}
use Rattle.scanner.specs.declared.ByteKind.{ByteKind}
use Rattle.scanner.specs.declared.ByteKind.TheVariants.{White, Control, Return, Plain, Open, Close, Quote, Backslash, Mark, Above, OpenBracket, CloseBracket}
use Rattle.scanner.specs.declared.Category.{Category}
use Rattle.scanner.proofs.Unfolding.{SymbolAt, Unfolded, no_symbol, a_symbol, a_fault, unfolded}
use Rattle.scanner.proofs.EveryCategory.{between_told}

-- ---- between symbols a byte is white space, part of a comment, or not told

abbrev Between : Category → Type 0
Between c = Told c → WhiteOrComment c

outside_between : (kind : ByteKind) → Between (taken_outside kind)
outside_between White t = t
outside_between Control t = t
outside_between Return t = t
outside_between Plain t = t
outside_between Open t = t
outside_between Close t = t
outside_between Quote t = t
outside_between Backslash t = t
outside_between (Mark class) t = t
outside_between Above t = t
outside_between OpenBracket t = t
outside_between CloseBracket t = t

taken_between : (state : State) (kind : ByteKind) → Between (taken_in state kind)
taken_between outside kind = outside_between kind
taken_between (in_atom start end t) kind = λ u. u
taken_between (in_quoted start t) kind = λ u. u
taken_between (taking_in_quoted start t) kind = λ u. u
taken_between (in_literal start) kind = λ u. u
taken_between (taking_in_literal start) kind = λ u. u
taken_between (in_comment depth start) kind = λ u. u
taken_between (taking_in_comment depth start) kind = λ u. u

behind_between : (m : Move) (rest : State → Category) → ((state : State) → Between (rest state)) → Between (behind m rest)
behind_between (go [] outside) rest h = h outside
behind_between (go [] (in_atom start end t)) rest h = λ u. u
behind_between (go [] (in_quoted start t)) rest h = λ u. u
behind_between (go [] (taking_in_quoted start t)) rest h = λ u. u
behind_between (go [] (in_literal start)) rest h = λ u. u
behind_between (go [] (taking_in_literal start)) rest h = λ u. u
behind_between (go [] (in_comment depth start)) rest h = h (in_comment depth start)
behind_between (go [] (taking_in_comment depth start)) rest h = h (taking_in_comment depth start)
behind_between (go (x ∷ xs) state) rest h = λ u. u
behind_between (halt xs number p) rest h = λ u. u

either_between : (z : Bool) (a b : Category) → Between a → Between b → Between (elim z [ true ↦ a | false ↦ b ])
either_between true a b x y = x
either_between false a b x y = y

is_between : (classes : List ℕ) (place : ℕ) (cs : List Character) (state : State) → Between (between classes place cs state)
unfolding between
is_between classes place [] state = λ u. u
is_between classes place (character b p folded ∷ rest) state =
    either_between (ltb p place) _ _ (behind_between (move state (character_kind classes b folded) b p folded) (λ s. between classes place rest s) (λ s. is_between classes place rest s))
    (taken_between state (character_kind classes b folded))

-- ---- the first symbol

module _ (classes text : List ℕ) where
  module _ {at : ℕ} {class : Class} {start end : ℕ} (s : SymbolAt classes text at class start end) where
    apart_is : ApartIs classes text at record { start = start; end = end; meaning = meaning_at classes text class start end; apart = ltb at start }
    apart_is =
        record {
          stands_apart = λ e.
              let h : at < start = ltb-true at start e in (
                h,
                is_between classes (start - 1) (characters_at text at) outside (between_told classes text (start - 1) at (omega arith) (omega (arith, s.starts, s.within)) (rw s.same (omega arith))),
              );
          adjoins = λ e. let h : start ≤ at = ltb-false at start e in omega (arith, s.from);
        }

  by_first : (at : ℕ) (x : Symbol Class) (rest : Scanned) → scan_by classes text at ≡ next x rest → Unfolded classes text at → ApartIs classes text at x.lexeme × (rest ≡ scan_by classes text x.lexeme.end)
  by_first at x rest e (no_symbol f) = absurd (let z : ◌≡◌ {A = ℕ} 0 1 = cc in omega arith)
  by_first at x rest e (a_symbol {class} {start} {end} s) =
      let y : Symbol Class = apart_from at (symbol class start end (meaning_at classes text class start end)) in
      let f : next x rest ≡ next y (scan_by classes text end) = sym e ∙ s.same in
      let g : x ≡ y = cc in
      let h : rest ≡ scan_by classes text end = cc in
      rw (g, h) (apart_is s, refl)
  by_first at x rest e (a_fault f) = absurd (let z : ◌≡◌ {A = ℕ} 0 1 = cc in omega arith)

pub each_from_the_end_before : EachFromTheEndBefore
each_from_the_end_before classes text at x rest e = by_first classes text at x rest e (unfolded classes text at)
