-- What a character of a comment does, where the comment stands alone and where it stands in others. Assumes nothing.
use Prim.Native.Nat.{ℕ, zero, suc, ◌+◌}
use native.Mathlib.Omega.{arith}
use mathlib.Core.Path.{◌≡◌, refl, ap, ◌∙◌}
use mathlib.Core.Bool.{Bool, true, false}
use mathlib.Core.List.{List, []}
use Rattle.octets.specs.Believed.Classes.{class_table}
use Rattle.scanner.specs.Believed.Kinds.{character_kind}
use Rattle.scanner.specs.Believed.Characters.{Character}
use Rattle.scanner.specs.Believed.Scanning.{State, outside, in_comment, taking_in_comment, Move, go, halt, closed, move_in_comment, take, move}
use Rattle.equality.specs.Believed.Comments.{state_of, closed_by, closes}
use Rattle.equality.proofs.ByteMoves.{character_view, InComment, stays, opens, comment_by, Behind, taken, behind_by}
use Rattle.equality.proofs.ByteMoves as byte

pub never : {A : Type 0} → false ≡ true → A
never e = absurd cc

-- what is left to close after a move
abbrev pub closes_by : List Character → Move → Bool
closes_by rest m = closed_by (state_of m) rest (λ state. closes rest state)

-- a state in a comment that alone lies in no other, and the state here, where it lies in `base` others and the outermost "(" is at `s`
pub data Within (base s : ℕ) : State → State → Type 0 where
  comment : (e q r : ℕ) → r ≡ e + base → Within base s (in_comment e q) (in_comment r s)
  taking : (e q r : ℕ) → r ≡ e + base → Within base s (taking_in_comment e q) (taking_in_comment r s)

-- there the comment is still to be closed
pub closes_within : {base s : ℕ} {alone here : State} → Within base s alone here → (rest : List Character) → closes_by rest (go [] alone) ≡ closes rest alone
closes_within (comment e q r h) rest = refl
closes_within (taking e q r h) rest = refl

-- the moves of a character alone and here: both to a fault; both out of the comment; or both on in it
pub data Does (base s : ℕ) (m m' : Move) : Type 0 where
  faults : (n p p' : ℕ) → m ≡ halt [] n p → m' ≡ halt [] n p' → Does base s m m'
  leaves : m ≡ go [] outside → m' ≡ go [] (closed base s) → Does base s m m'
  goes_on : (alone here : State) → Within base s alone here → m ≡ go [] alone → m' ≡ go [] here → Does base s m m'

module _ {base s : ℕ} where
  does_closed : {m m' : Move} (e q r : ℕ) → r ≡ e + base → m ≡ go [] (closed e q) → m' ≡ go [] (closed r s) → Does base s m m'
  does_closed zero q r h f g = let i : r ≡ base = omega (arith, h) in leaves f (g ∙ ap (λ d. go [] (closed d s)) i)
  does_closed (suc e) q r h f g = let i : r ≡ suc (e + base) = omega (arith, h) in goes_on (in_comment e q) (in_comment (e + base) s) (comment e q (e + base) refl) f (g ∙ ap (λ d. go [] (closed d s)) i)

  does_comment : {k : _} → InComment k → (e q r p p' : ℕ) → r ≡ e + base → Does base s (move_in_comment k e q p) (move_in_comment k r s p')
  does_comment (stays g) e q r p p' h = goes_on (in_comment e q) (in_comment r s) (comment e q r h) (g e q p) (g r s p')
  does_comment (opens g) e q r p p' h = goes_on (in_comment (suc e) q) (in_comment (suc r) s) (comment (suc e) q (suc r) (omega (arith, h))) (g e q p) (g r s p')
  does_comment (byte.closes g) e q r p p' h = does_closed e q r h (g e q p) (g r s p')
  does_comment (byte.takes g) e q r p p' h = goes_on (taking_in_comment e q) (taking_in_comment r s) (taking e q r h) (g e q p) (g r s p')
  does_comment (byte.faulty n g) e q r p p' h = faults n p p' (g e q p) (g r s p')

  does_taken : {k : _} → Behind k → (e q r p p' : ℕ) → r ≡ e + base → Does base s (take k (in_comment e q) p) (take k (in_comment r s) p')
  does_taken (taken g) e q r p p' h = goes_on (in_comment e q) (in_comment r s) (comment e q r h) (g (in_comment e q) p) (g (in_comment r s) p')
  does_taken (byte.faulty n g) e q r p p' h = faults n p p' (g (in_comment e q) p) (g (in_comment r s) p')

  pub does : {alone here : State} → Within base s alone here → (b p p' : ℕ) (folded : Bool) → Does base s (move alone (character_kind class_table b folded) b p folded) (move here (character_kind class_table b folded) b p' folded)
  does (comment e q r h) b p p' folded = does_comment (comment_by (character_view b folded)) e q r p p' h
  does (taking e q r h) b p p' folded = does_taken (behind_by (character_view b folded)) e q r p p' h
