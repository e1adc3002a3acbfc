-- Document 02, CR 14: "any comment .. scanning alone without fault": which bytes are a comment, and where in a body one may stand.
use Rattle.std.specs.Prelude.{ℕ, ◌≤◌, ◌≡◌, Bool, true, false, List, [], ◌∷◌, ◌++◌, eqb, length}
use Rattle.std.proofs.Math.Option.{Option, none, some}
use Rattle.octets.specs.Believed.Choice.{pick, both}
use Rattle.octets.specs.Believed.Classes.{class_table}
use Rattle.octets.specs.Believed.Octets.{open_byte}
use Rattle.octets.specs.declared.answers.Answer.TheVariants.{Accepted}
use Rattle.scanner.specs.Believed.Kinds.{character_kind}
use Rattle.scanner.specs.Believed.Characters.{Character, character, characters_from, characters_at}
use Rattle.scanner.specs.Believed.Characters as characters
use Rattle.scanner.specs.Believed.Scanning.{State, outside, in_atom, in_quoted, taking_in_quoted, in_literal, taking_in_literal, in_comment, taking_in_comment, Move, go, halt, move, scan}
use Rattle.scanner.specs.Believed.Answers.{fault_of}

-- ---- where scanning stands

-- the state that a move leads to, if it leads to no fault
abbrev pub state_of : Move → Option State
state_of (go symbols state) = some state
state_of (halt symbols number p) = none

-- .. that a character leads to
abbrev pub state_behind : State → Character → Option State
state_behind state (character b p folded) = state_of (move state (character_kind class_table b folded) b p folded)

-- .. that characters lead to, one after the other
abbrev pub state_after : List Character → State → Option State
state_after [] state = some state
state_after (c ∷ rest) state = elim (state_behind state c) [ none ↦ none | some state' ↦ state_after rest state' ]

-- ---- where a comment may stand

-- a "(" opens a comment outside, in an atom, which it ends, and in a comment; not in a quoted-string, in a domain literal nor
-- after a backslash
abbrev pub opens_comment : State → Bool
opens_comment outside = true
opens_comment (in_atom start end t) = true
opens_comment (in_quoted start t) = false
opens_comment (taking_in_quoted start t) = false
opens_comment (in_literal start) = false
opens_comment (taking_in_literal start) = false
opens_comment (in_comment depth start) = true
opens_comment (taking_in_comment depth start) = false

-- a comment may stand after a text whose body starts at a position: scanning comes so far without fault, and a "(" opens one there
abbrev pub comment_may_follow : List ℕ → ℕ → Bool
comment_may_follow text start = elim (state_after (characters_at text start) outside) [ none ↦ false | some state ↦ opens_comment state ]

-- ---- comments

-- scanning stands outside of words and comments
abbrev pub is_outside : State → Bool
is_outside outside = true
is_outside (in_atom start end t) = false
is_outside (in_quoted start t) = false
is_outside (taking_in_quoted start t) = false
is_outside (in_literal start) = false
is_outside (taking_in_literal start) = false
is_outside (in_comment depth start) = false
is_outside (taking_in_comment depth start) = false

-- no character is left
abbrev pub is_empty : List Character → Bool
is_empty [] = true
is_empty (c ∷ rest) = false

-- after a character of a comment: outside, and then no character is left; or still in it, and it is closed later
abbrev pub closed_by : Option State → List Character → (State → Bool) → Bool
closed_by none rest later = false
closed_by (some state) rest later = pick (is_outside state) (is_empty rest) (later state)

-- from inside a comment on, the ")" that matches its "(" is the last of these characters, and there is no fault before
abbrev pub closes : List Character → State → Bool
closes [] state = false
closes (c ∷ rest) state = closed_by (state_behind state c) rest (λ state'. closes rest state')

-- these bytes, as a body of their own, are one comment from the first to the last
abbrev pub is_comment : List ℕ → Bool
is_comment [] = false
is_comment (b ∷ inside) = both (eqb b open_byte) (closes (characters_from characters.none inside 1) (in_comment 0 0))

-- ---- no comment is left out

-- bytes begin with a comment, and others stand after it
pub record BeginsWithComment (bytes : List ℕ) : Type 0 where
  pub comment : List ℕ
  pub behind : List ℕ
  pub splits : bytes ≡ comment ++ behind
  pub comment_is : is_comment comment ≡ true

-- in a body that scans without fault, at every "(" where a comment may stand there stands one
abbrev pub EveryCommentIsOne : Type 0
EveryCommentIsOne =
    (before behind : List ℕ) (start : ℕ) → start ≤ length before → comment_may_follow before start ≡ true → fault_of (scan (before ++ (open_byte ∷ behind)) start) ≡ Accepted 0
    → BeginsWithComment (open_byte ∷ behind)
