-- The last byte of a comment ends no line: so no fold begins in a comment and ends after it. Assumes nothing.
use Prim.Native.Nat.{ℕ, ◌+◌}
use mathlib.Core.Path.{◌≡◌, refl, sym, ap, ◌∙◌}
use mathlib.Core.Bool.{Bool, true, false}
use mathlib.Core.List.{List, [], ◌∷◌}
use native.Mathlib.Omega.{arith}
use Rattle.octets.specs.Believed.Classes.{class_table, class_of}
use Rattle.octets.specs.Believed.Octets.{open_byte}
use Rattle.scanner.specs.Believed.Kinds.{kind_of}
use Rattle.scanner.specs.Believed.Characters.{Character, character, fold_at, InFold, none, line_feed, white, characters_from}
use Rattle.scanner.specs.Believed.Scanning.{State, in_comment, Move}
use Rattle.scanner.proofs.CharacterLaws.{plain_here}
use Rattle.equality.specs.Believed.Comments.{is_empty, closes}
use Rattle.equality.proofs.InComments.{never, closes_by, Within, comment, taking, closes_within, Does, faults, leaves, goes_on, does}
use Rattle.equality.proofs.Splits.{fold_here, last_byte, NoLineEnd, fold_enough}

-- ---- after a character of a comment

-- the comment is over, and so are the characters; or it goes on
data Next (rest : List Character) : Type 0 where
  over : is_empty rest ≡ true → Next rest
  on : (state here : State) → Within 0 0 state here → closes rest state ≡ true → Next rest

next_by : {m m' : Move} → Does 0 0 m m' → (rest : List Character) → closes_by rest m ≡ true → Next rest
next_by (faults n p p' e f) rest l = never (ap (closes_by rest) (sym e) ∙ l)
next_by (leaves e f) rest l = over (ap (closes_by rest) (sym e) ∙ l)
next_by (goes_on state here w e f) rest l = on state here w (sym (closes_within w rest) ∙ ap (closes_by rest) (sym e) ∙ l)

next : {state here : State} → Within 0 0 state here → (b p : ℕ) (folded : Bool) (rest : List Character) → closes (character b p folded ∷ rest) state ≡ true → Next rest
next w b p folded rest l = next_by (does w b p p folded) rest l

-- ---- the last byte

-- CR, LF and the white space of a fold close no comment
ends_no_line : {state here : State} → Within 0 0 state here → (b p : ℕ) → closes (character b p false ∷ []) state ≡ true → NoLineEnd b
unfolding kind_of class_table class_of
ends_no_line (comment e q r h) b p l = record { no_return = λ i. never (rw i at l); no_line_feed = λ i. never (rw i at l) }
ends_no_line (taking e q r h) b p l = record { no_return = λ i. never (rw i at l); no_line_feed = λ i. never (rw i at l) }

ends_no_fold : {state here : State} → Within 0 0 state here → (b p : ℕ) → closes (character b p true ∷ []) state ≡ true → ⊥
ends_no_fold (comment e q r h) b p l = never l
ends_no_fold (taking e q r h) b p l = never l

-- a byte is a character, or begins a fold, which has one
has_character : (z : Bool) (b : ℕ) (cs : List ℕ) (p : ℕ) → fold_at (b ∷ cs) 0 ≡ z → is_empty (characters_from none (b ∷ cs) p) ≡ true → ⊥
unfolding characters_from
has_character true b [] p e l = absurd (omega (arith, fold_enough b [] e))
has_character true b (c ∷ []) p e l = absurd (omega (arith, fold_enough b (c ∷ []) e))
has_character true b (c ∷ d ∷ cs) p e l = never (rw (fold_here b (c ∷ d ∷ cs) p e) at l)
has_character false b cs p e l = never (rw (plain_here b cs p e) at l)

by_next : (b : ℕ) (cs : List ℕ) (p : ℕ) → Next (characters_from none (b ∷ cs) p) → ((state here : State) → Within 0 0 state here → closes (characters_from none (b ∷ cs) p) state ≡ true → NoLineEnd (last_byte b cs)) → NoLineEnd (last_byte b cs)
by_next b cs p (over e) f = absurd (has_character (fold_at (b ∷ cs) 0) b cs p refl e)
by_next b cs p (on state here w l) f = f state here w l

by_fold : (z : Bool) (b : ℕ) (cs : List ℕ) (p : ℕ) (state : State) → fold_at (b ∷ cs) 0 ≡ z → closes (characters_from none (b ∷ cs) p) state ≡ true
    → (closes (characters_from line_feed cs (p + 1)) state ≡ true → NoLineEnd (last_byte b cs)) → (closes (character b p false ∷ characters_from none cs (p + 1)) state ≡ true → NoLineEnd (last_byte b cs)) → NoLineEnd (last_byte b cs)
by_fold true b cs p state e l f g = f (rw (fold_here b cs p e) at l)
by_fold false b cs p state e l f g = g (rw (plain_here b cs p e) at l)

last : (cs : List ℕ) (b : ℕ) (fold : InFold) (p : ℕ) (state here : State) → Within 0 0 state here → closes (characters_from fold (b ∷ cs) p) state ≡ true → NoLineEnd (last_byte b cs)
unfolding characters_from
last [] b none p state here w l = by_fold (fold_at (b ∷ []) 0) b [] p state refl l (λ m. never m) (λ m. ends_no_line w b p m)
last [] b line_feed p state here w l = never l
last [] b white p state here w l = absurd (ends_no_fold w b p l)
last (c ∷ cs) b none p state here w l =
    by_fold (fold_at (b ∷ (c ∷ cs)) 0) b (c ∷ cs) p state refl l (λ m. last cs c line_feed (p + 1) state here w m)
    (λ m. by_next c cs (p + 1) (next w b p false (characters_from none (c ∷ cs) (p + 1)) m) (λ s t v n. last cs c none (p + 1) s t v n))
last (c ∷ cs) b line_feed p state here w l = last cs c white (p + 1) state here w l
last (c ∷ cs) b white p state here w l = by_next c cs (p + 1) (next w b p true (characters_from none (c ∷ cs) (p + 1)) l) (λ s t v n. last cs c none (p + 1) s t v n)

-- the last byte of a comment
pub comment_ends_no_line : (inside : List ℕ) → closes (characters_from none inside 1) (in_comment 0 0) ≡ true → NoLineEnd (last_byte open_byte inside)
unfolding characters_from
comment_ends_no_line [] l = never l
comment_ends_no_line (b ∷ cs) l = last cs b none 1 _ _ (comment 0 0 0 refl) l
