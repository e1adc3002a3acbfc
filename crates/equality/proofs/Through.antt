-- Scanning through a comment: from wherever it may stand, what is after it is scanned from the same state, whatever the comment. Assumes nothing.
use Prim.Native.Nat.{ℕ, suc, ◌+◌}
use native.Mathlib.Omega.{arith}
use mathlib.Core.Path.{◌≡◌, refl, sym, ap, ◌∙◌}
use mathlib.Core.Bool.{true}
use mathlib.Core.List.{List, [], ◌∷◌, ◌++◌}
use Rattle.octets.specs.Believed.Classes.{class_table, class_of}
use Rattle.octets.specs.Believed.Octets.{open_byte}
use Rattle.scanner.specs.Believed.Symbols.{Symbol}
use Rattle.scanner.specs.Believed.Kinds.{kind_of}
use Rattle.scanner.specs.Believed.Characters.{Character, characters_from}
use Rattle.scanner.specs.Believed.Characters as characters
use Rattle.scanner.specs.Believed.Scanning.{State, outside, in_atom, in_quoted, taking_in_quoted, in_literal, taking_in_literal, in_comment, taking_in_comment, Move, atom, closed, followed_by, then, scan_from}
use Rattle.scanner.specs.declared.Class.{Class}
use Rattle.equality.specs.Believed.Comments.{opens_comment, is_empty, closes}
use Rattle.equality.proofs.InComments.{never, closes_by, Within, comment, closes_within, Does, faults, leaves, goes_on, does}
use Rattle.equality.proofs.Shifts.{AlikeCharacters, none_left, one_more, shifted, AlikeStates, outsides, comments}

-- ---- in a comment

empty_alike : {xs ys : List Character} (behind : List Character) (state : State) → AlikeCharacters xs ys → is_empty xs ≡ true → scan_from class_table (ys ++ behind) state ≡ scan_from class_table behind state
empty_alike behind state none_left e = refl
empty_alike behind state (one_more b p q folded a) e = never e

module _ {base s : ℕ} (behind : List Character) where
  through_by : {xs ys : List Character} {m m' : Move} → AlikeCharacters xs ys → Does base s m m'
      → ((alone here : State) → Within base s alone here → closes xs alone ≡ true → scan_from class_table (ys ++ behind) here ≡ scan_from class_table behind (closed base s))
      → closes_by xs m ≡ true → then m' (λ state. scan_from class_table (ys ++ behind) state) ≡ scan_from class_table behind (closed base s)
  through_by {xs} {ys} a (faults n p p' e f) h l = never (ap (closes_by xs) (sym e) ∙ l)
  through_by {xs} {ys} a (leaves e f) h l = ap (λ m. then m (λ state. scan_from class_table (ys ++ behind) state)) f ∙ empty_alike behind (closed base s) a (ap (closes_by xs) (sym e) ∙ l)
  through_by {xs} {ys} a (goes_on alone here w e f) h l = ap (λ m. then m (λ state. scan_from class_table (ys ++ behind) state)) f ∙ h alone here w (sym (closes_within w xs) ∙ ap (closes_by xs) (sym e) ∙ l)

  -- what closes a comment alone leads here to after the ")" of the innermost comment around it
  through : {xs ys : List Character} → AlikeCharacters xs ys → (alone here : State) → Within base s alone here → closes xs alone ≡ true → scan_from class_table (ys ++ behind) here ≡ scan_from class_table behind (closed base s)
  unfolding scan_from
  through none_left alone here w l = never l
  through (one_more b p p' folded a) alone here w l = through_by a (does w b p p' folded) (λ alone' here' v i. through a alone' here' v i) l

-- ---- a whole comment

-- the symbol that a "(" ends
abbrev pub ended_by : State → List (Symbol Class)
ended_by outside = []
ended_by (in_atom start end t) = atom start end t ∷ []
ended_by (in_quoted start t) = []
ended_by (taking_in_quoted start t) = []
ended_by (in_literal start) = []
ended_by (taking_in_literal start) = []
ended_by (in_comment depth start) = []
ended_by (taking_in_comment depth start) = []

-- the state after a comment
abbrev pub behind_comment : State → State
behind_comment outside = outside
behind_comment (in_atom start end t) = outside
behind_comment (in_quoted start t) = in_quoted start t
behind_comment (taking_in_quoted start t) = taking_in_quoted start t
behind_comment (in_literal start) = in_literal start
behind_comment (taking_in_literal start) = taking_in_literal start
behind_comment (in_comment depth start) = in_comment depth start
behind_comment (taking_in_comment depth start) = taking_in_comment depth start

-- .. is alike itself
pub behind_alike : (state : State) → opens_comment state ≡ true → AlikeStates (behind_comment state) (behind_comment state)
behind_alike outside o = outsides
behind_alike (in_atom start end t) o = outsides
behind_alike (in_quoted start t) o = never o
behind_alike (taking_in_quoted start t) o = never o
behind_alike (in_literal start) o = never o
behind_alike (taking_in_literal start) o = never o
behind_alike (in_comment depth start) o = comments depth start start
behind_alike (taking_in_comment depth start) o = never o

pub comment_scans : (state : State) (inside : List ℕ) (p : ℕ) (behind : List Character) → opens_comment state ≡ true → closes (characters_from characters.none inside 1) (in_comment 0 0) ≡ true
    → scan_from class_table (characters_from characters.none (open_byte ∷ inside) p ++ behind) state ≡ followed_by (ended_by state) (scan_from class_table behind (behind_comment state))
unfolding scan_from characters_from kind_of class_table class_of
comment_scans outside inside p behind o l = through {base = 0} behind (shifted inside characters.none 1 (p + 1)) _ _ (comment 0 0 0 refl) l
comment_scans (in_atom start end t) inside p behind o l = ap (followed_by (atom start end t ∷ [])) (through {base = 0} behind (shifted inside characters.none 1 (p + 1)) _ _ (comment 0 0 0 refl) l)
comment_scans (in_quoted start t) inside p behind o l = never o
comment_scans (taking_in_quoted start t) inside p behind o l = never o
comment_scans (in_literal start) inside p behind o l = never o
comment_scans (taking_in_literal start) inside p behind o l = never o
comment_scans (in_comment depth start) inside p behind o l = through {base = suc depth} behind (shifted inside characters.none 1 (p + 1)) _ _ (comment 0 0 (suc depth) (omega arith)) l
comment_scans (taking_in_comment depth start) inside p behind o l = never o
