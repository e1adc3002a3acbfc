-- Where the faults of a body lie: symbols of one byte, white space and atoms have none. Assumes nothing.
use mathlib.Core.Path.{◌≡◌, refl, sym, ap, ◌∙◌}
use mathlib.Core.List.{List, [], ◌∷◌, ◌++◌}
use Prim.Native.Nat.{ℕ, ◌+◌, ◌<◌}
use lib.ListN.{length, get_or}
use Rattle.octets.specs.Believed.Octets.{return_byte}
use types.Run.{OneOf, miss}
use denote.Enum.Declared.{tag_of}
use Rattle.scanner.specs.Believed.Kinds.{kind_of, character_kind}
use Rattle.scanner.specs.Believed.Characters.{Character, character, characters_at}
use Rattle.scanner.specs.Believed.Scanning.{outside, in_atom, move_outside, move_in_atom, go, single, then, scan_from, scan_by}
use Rattle.scanner.specs.Believed.Answers.{unless_fault, fault_of}
use Rattle.scanner.specs.Ties.Steps.{outside_at, FirstCharacter}
use Rattle.scanner.specs.declared.Class.TheVariants.{Stray}
use Rattle.scanner.specs.declared.ByteKind.{ByteKind}
use Rattle.scanner.specs.declared.ByteKind.TheVariants.{White, Control, Return, Plain, Open, Close, Quote, Backslash, Mark, Above, OpenBracket, CloseBracket}
use Rattle.scanner.specs.contracts.ByteKind.{the_type}
use Rattle.scanner.proofs.CharacterLaws.{return_kind, no_return, plain_first}
use Rattle.scanner.proofs.MoveLaws.{moves}
use Rattle.scanner.proofs.PartedLaws.{fault_parted}

-- in an atom the faults are those outside
abbrev AsOutside : List ℕ → List Character → Type 0
AsOutside classes rest = (start end : ℕ) (t : List ℕ) → fault_of (scan_from classes rest (in_atom start end t)) ≡ fault_of (scan_from classes rest outside)

by_kind : (classes : List ℕ) (rest : List Character) → AsOutside classes rest → (kind : ByteKind) (start end : ℕ) (t : List ℕ) (b p : ℕ)
    → fault_of (then (move_in_atom kind start end t b p) (λ state. scan_from classes rest state)) ≡ fault_of (then (move_outside kind b p) (λ state. scan_from classes rest state))
unfolding unless_fault
by_kind classes rest h White start end t b p = refl
by_kind classes rest h Control start end t b p = refl
by_kind classes rest h Return start end t b p = refl
by_kind classes rest h Plain start end t b p = h start (p + 1) (t ++ (b ∷ [])) ∙ sym (h p (p + 1) (b ∷ []))
by_kind classes rest h Open start end t b p = refl
by_kind classes rest h Close start end t b p = refl
by_kind classes rest h Quote start end t b p = refl
by_kind classes rest h Backslash start end t b p = refl
by_kind classes rest h (Mark class) start end t b p = refl
by_kind classes rest h Above start end t b p = refl
by_kind classes rest h OpenBracket start end t b p = refl
by_kind classes rest h CloseBracket start end t b p = refl

atom_faults : (classes : List ℕ) (rest : List Character) → AsOutside classes rest
unfolding scan_from unless_fault
atom_faults classes [] start end t = refl
atom_faults classes (character b p folded ∷ rest) start end t = by_kind classes rest (atom_faults classes rest) (character_kind classes b folded) start end t b p

-- a byte that is no fault and opens nothing
module _ {classes text : List ℕ} {at p q : ℕ} where
  harmless : (kind : ByteKind) → FirstCharacter classes text at kind p q → OneOf (0 ∷ 3 ∷ 5 ∷ 7 ∷ 8 ∷ []) (tag_of the_type kind) → fault_of (outside_at classes text at) ≡ fault_of (outside_at classes text q)
  unfolding unless_fault
  harmless White x o = ap fault_of (moves x outside (go [] outside) refl)
  harmless Control x o = absurd (miss (0 ∷ 3 ∷ 5 ∷ 7 ∷ 8 ∷ []) 1 tt o)
  harmless Return x o = absurd (miss (0 ∷ 3 ∷ 5 ∷ 7 ∷ 8 ∷ []) 2 tt o)
  harmless Plain x o = ap fault_of (moves x outside (go [] (in_atom p (p + 1) (get_or text p 0 ∷ []))) refl) ∙ atom_faults classes (characters_at text q) p (p + 1) (get_or text p 0 ∷ [])
  harmless Open x o = absurd (miss (0 ∷ 3 ∷ 5 ∷ 7 ∷ 8 ∷ []) 4 tt o)
  harmless Close x o = ap fault_of (moves x outside (go (single Stray (get_or text p 0) p ∷ []) outside) refl)
  harmless Quote x o = absurd (miss (0 ∷ 3 ∷ 5 ∷ 7 ∷ 8 ∷ []) 6 tt o)
  harmless Backslash x o = ap fault_of (moves x outside (go (single Stray (get_or text p 0) p ∷ []) outside) refl)
  harmless (Mark class) x o = ap fault_of (moves x outside (go (single class (get_or text p 0) p ∷ []) outside) refl)
  harmless Above x o = absurd (miss (0 ∷ 3 ∷ 5 ∷ 7 ∷ 8 ∷ []) 9 tt o)
  harmless OpenBracket x o = absurd (miss (0 ∷ 3 ∷ 5 ∷ 7 ∷ 8 ∷ []) 10 tt o)
  harmless CloseBracket x o = absurd (miss (0 ∷ 3 ∷ 5 ∷ 7 ∷ 8 ∷ []) 11 tt o)

-- .. told by its kind alone
pub harmless_byte : (classes text : List ℕ) (p : ℕ) (kind : ByteKind) → p < length text → kind ≡ kind_of classes (get_or text p 0) → OneOf (0 ∷ 3 ∷ 5 ∷ 7 ∷ 8 ∷ []) (tag_of the_type kind)
    → fault_of (scan_by classes text p) ≡ fault_of (scan_by classes text (p + 1))
harmless_byte classes text p kind h k o =
    fault_parted p (outside_at classes text p) ∙ harmless kind (plain_first classes text p h (no_return text p no_cr) k) o ∙ sym (fault_parted (p + 1) (outside_at classes text (p + 1)))
  where
    no_cr : get_or text p 0 ≡ return_byte → ⊥
    no_cr e = miss (0 ∷ 3 ∷ 5 ∷ 7 ∷ 8 ∷ []) 2 tt (rw (k ∙ sym (return_kind classes (get_or text p 0) e)) at o)
