-- Whatever a backslash in a quoted-string takes, only meanings differ by it: no class, no place and no fault. Assumes nothing.
use mathlib.Core.Path.{◌≡◌, refl, ap}
use mathlib.Core.Bool.{Bool, true, false}
use mathlib.Core.List.{List, [], ◌∷◌, ◌++◌, append_assoc}
use Prim.Native.Nat.{ℕ}
use lib.Dec.{ltb}
use Rattle.octets.specs.Believed.Octets.{return_byte, line_feed_byte}
use Rattle.scanner.specs.Believed.Symbols.{Symbol}
use Rattle.scanner.specs.Believed.Kinds.{character_kind}
use Rattle.scanner.specs.Believed.Characters.{Character, character, characters_at}
use Rattle.scanner.specs.Believed.Scanning.{Scanned, ended, next, fault_at, State, outside, in_atom, in_quoted, taking_in_quoted, in_literal, taking_in_literal, in_comment, taking_in_comment, Move, go, halt, move_in_quoted, take, taken_data, move, at_end, followed_by, then, scan_from, apart_from, parted, scan_by}
use Rattle.scanner.specs.declared.Class.{Class}
use Rattle.scanner.specs.declared.Class.TheVariants.{Quoted}
use Rattle.scanner.specs.declared.ByteKind.{ByteKind}
use Rattle.scanner.specs.declared.ByteKind.TheVariants.{White, Control, Return, Plain, Open, Close, Quote, Backslash, Mark, Above, OpenBracket, CloseBracket}

-- ---- scanning by any rule of what a backslash takes

-- such a rule: what comes of a backslash, by the byte after it and whether the CRLF of a fold stands between
abbrev pub Taking : Type 0
Taking = ℕ → Bool → List ℕ

abbrev move_by : Taking → State → ByteKind → ℕ → ℕ → Bool → Move
move_by rule outside kind b p folded = move outside kind b p folded
move_by rule (in_atom start end t) kind b p folded = move (in_atom start end t) kind b p folded
move_by rule (in_quoted start t) kind b p folded = move (in_quoted start t) kind b p folded
move_by rule (taking_in_quoted start t) kind b p folded = take kind (in_quoted start (t ++ rule b folded)) p
move_by rule (in_literal start) kind b p folded = move (in_literal start) kind b p folded
move_by rule (taking_in_literal start) kind b p folded = move (taking_in_literal start) kind b p folded
move_by rule (in_comment depth start) kind b p folded = move (in_comment depth start) kind b p folded
move_by rule (taking_in_comment depth start) kind b p folded = move (taking_in_comment depth start) kind b p folded

-- scanning with that rule in place of the papers' one
unfoldable pub scan_taking : Taking → List ℕ → List Character → State → Scanned
scan_taking rule classes [] state = at_end state
scan_taking rule classes (character b p folded ∷ rest) state =
    then (move_by rule state (character_kind classes b folded) b p folded) (λ state'. scan_taking rule classes rest state')

-- ---- scans that are the same but for the meaning of quoted-strings

-- a quoted-string, apart or not
abbrev pub quoted_as : ℕ → ℕ → List ℕ → Bool → Symbol Class
quoted_as start end meaning apart = record { class = Quoted; lexeme = record { start = start; end = end; meaning = meaning; apart = apart } }

pub data SameButData : Scanned → Scanned → Type 0 where
  both_end : SameButData ended ended
  both_fault : (number p : ℕ) → SameButData (fault_at number p) (fault_at number p)
  both_next : (x : Symbol Class) {r s : Scanned} → SameButData r s → SameButData (next x r) (next x s)
  both_quoted : (start end : ℕ) (t u : List ℕ) (apart : Bool) {r s : Scanned} → SameButData r s → SameButData (next (quoted_as start end t apart) r) (next (quoted_as start end u apart) s)

-- states that differ in the data so far of a quoted-string
data SameStates : State → State → Type 0 where
  one_state : (s : State) → SameStates s s
  both_in : (start : ℕ) (t u : List ℕ) → SameStates (in_quoted start t) (in_quoted start u)
  both_taking : (start : ℕ) (t u : List ℕ) → SameStates (taking_in_quoted start t) (taking_in_quoted start u)

at_end_lem : {s s' : State} → SameStates s s' → SameButData (at_end s) (at_end s')
at_end_lem (one_state outside) = both_end
at_end_lem (one_state (in_atom start end t)) = both_next _ both_end
at_end_lem (one_state (in_quoted start t)) = both_fault _ start
at_end_lem (one_state (taking_in_quoted start t)) = both_fault _ start
at_end_lem (one_state (in_literal start)) = both_fault _ start
at_end_lem (one_state (taking_in_literal start)) = both_fault _ start
at_end_lem (one_state (in_comment depth start)) = both_fault _ start
at_end_lem (one_state (taking_in_comment depth start)) = both_fault _ start
at_end_lem (both_in start t u) = both_fault _ start
at_end_lem (both_taking start t u) = both_fault _ start

-- ---- one move, where what comes after it is the same but for data

module _ (f g : State → Scanned) (on : (s s' : State) → SameStates s s' → SameButData (f s) (g s')) where
  followed : (xs : List (Symbol Class)) {r s : Scanned} → SameButData r s → SameButData (followed_by xs r) (followed_by xs s)
  followed [] h = h
  followed (x ∷ xs) h = both_next x (followed xs h)

  same_move : (m : Move) → SameButData (then m f) (then m g)
  same_move (go xs state) = followed xs (on _ _ (one_state state))
  same_move (halt xs number p) = followed xs (both_fault number p)

  from_quoted : (kind : ByteKind) (start : ℕ) (t u : List ℕ) (b p : ℕ) → SameButData (then (move_in_quoted kind start t b p) f) (then (move_in_quoted kind start u b p) g)
  from_quoted White start t u b p = on _ _ (both_in start _ _)
  from_quoted Control start t u b p = on _ _ (both_in start _ _)
  from_quoted Return start t u b p = both_fault _ p
  from_quoted Plain start t u b p = on _ _ (both_in start _ _)
  from_quoted Open start t u b p = on _ _ (both_in start _ _)
  from_quoted Close start t u b p = on _ _ (both_in start _ _)
  from_quoted Quote start t u b p = both_quoted start _ t u false (on _ _ (one_state outside))
  from_quoted Backslash start t u b p = on _ _ (both_taking start t u)
  from_quoted (Mark class) start t u b p = on _ _ (both_in start _ _)
  from_quoted Above start t u b p = both_fault _ p
  from_quoted OpenBracket start t u b p = on _ _ (both_in start _ _)
  from_quoted CloseBracket start t u b p = on _ _ (both_in start _ _)

  from_taking : (kind : ByteKind) (start : ℕ) (t u : List ℕ) (p : ℕ) → SameButData (then (take kind (in_quoted start t) p) f) (then (take kind (in_quoted start u) p) g)
  from_taking White start t u p = on _ _ (both_in start t u)
  from_taking Control start t u p = on _ _ (both_in start t u)
  from_taking Return start t u p = on _ _ (both_in start t u)
  from_taking Plain start t u p = on _ _ (both_in start t u)
  from_taking Open start t u p = on _ _ (both_in start t u)
  from_taking Close start t u p = on _ _ (both_in start t u)
  from_taking Quote start t u p = on _ _ (both_in start t u)
  from_taking Backslash start t u p = on _ _ (both_in start t u)
  from_taking (Mark class) start t u p = on _ _ (both_in start t u)
  from_taking Above start t u p = both_fault _ p
  from_taking OpenBracket start t u p = on _ _ (both_in start t u)
  from_taking CloseBracket start t u p = on _ _ (both_in start t u)

  by_state : (one two : Taking) {s s' : State} → SameStates s s' → (kind : ByteKind) (b p : ℕ) (folded : Bool) → SameButData (then (move_by one s kind b p folded) f) (then (move_by two s' kind b p folded) g)
  by_state one two (one_state outside) kind b p folded = same_move (move outside kind b p folded)
  by_state one two (one_state (in_atom start end t)) kind b p folded = same_move (move (in_atom start end t) kind b p folded)
  by_state one two (one_state (in_quoted start t)) kind b p folded = from_quoted kind start t t b p
  by_state one two (one_state (taking_in_quoted start t)) kind b p folded = from_taking kind start (t ++ one b folded) (t ++ two b folded) p
  by_state one two (one_state (in_literal start)) kind b p folded = same_move (move (in_literal start) kind b p folded)
  by_state one two (one_state (taking_in_literal start)) kind b p folded = same_move (move (taking_in_literal start) kind b p folded)
  by_state one two (one_state (in_comment depth start)) kind b p folded = same_move (move (in_comment depth start) kind b p folded)
  by_state one two (one_state (taking_in_comment depth start)) kind b p folded = same_move (move (taking_in_comment depth start) kind b p folded)
  by_state one two (both_in start t u) kind b p folded = from_quoted kind start t u b p
  by_state one two (both_taking start t u) kind b p folded = from_taking kind start (t ++ one b folded) (u ++ two b folded) p

-- ---- the scan

by_rules : (one two : Taking) (classes : List ℕ) (cs : List Character) {s s' : State} → SameStates s s' → SameButData (scan_taking one classes cs s) (scan_taking two classes cs s')
unfolding scan_taking
by_rules one two classes [] h = at_end_lem h
by_rules one two classes (character b p folded ∷ rest) h =
    by_state (λ s. scan_taking one classes rest s) (λ s. scan_taking two classes rest s) (λ u u' h'. by_rules one two classes rest h') one two h (character_kind classes b folded) b p folded

-- the papers' own rule gives the papers' scan
same_rule : (s : State) (kind : ByteKind) (b p : ℕ) (folded : Bool) → move_by taken_data s kind b p folded ≡ move s kind b p folded
same_rule outside kind b p folded = refl
same_rule (in_atom start end t) kind b p folded = refl
same_rule (in_quoted start t) kind b p folded = refl
same_rule (taking_in_quoted start t) kind b p folded = refl
same_rule (in_literal start) kind b p folded = refl
same_rule (taking_in_literal start) kind b p folded = refl
same_rule (in_comment depth start) kind b p folded = refl
same_rule (taking_in_comment depth start) kind b p folded = refl

same_then : (m : Move) (f g : State → Scanned) → ((s : State) → f s ≡ g s) → then m f ≡ then m g
same_then (go xs state) f g e = ap (followed_by xs) (e state)
same_then (halt xs number p) f g e = refl

pub papers_rule : (classes : List ℕ) (cs : List Character) (s : State) → scan_taking taken_data classes cs s ≡ scan_from classes cs s
unfolding scan_taking scan_from
papers_rule classes [] s = refl
papers_rule classes (character b p folded ∷ rest) s =
    rw (same_rule s (character_kind classes b folded) b p folded) (same_then (move s (character_kind classes b folded) b p folded) _ _ (λ s'. papers_rule classes rest s'))

-- the same symbols stand apart
same_parted : (from : ℕ) {r s : Scanned} → SameButData r s → SameButData (parted from r) (parted from s)
unfolding parted
same_parted from both_end = both_end
same_parted from (both_fault number p) = both_fault number p
same_parted from (both_next x h) = both_next (apart_from from x) (same_parted x.lexeme.end h)
same_parted from (both_quoted start end t u apart h) = both_quoted start end t u (ltb from start) (same_parted end h)

-- what a text scans to from a position on with such a rule
abbrev pub scan_by_taking : Taking → List ℕ → List ℕ → ℕ → Scanned
scan_by_taking rule classes text at = parted at (scan_taking rule classes (characters_at text at) outside)

-- by any other rule, that of document 01 too, the scan is the same but for data
pub only_meanings : (rule : Taking) (classes text : List ℕ) (at : ℕ) → SameButData (scan_by_taking rule classes text at) (scan_by classes text at)
only_meanings rule classes text at =
    same_parted at (rw (← (papers_rule classes (characters_at text at) outside)) (by_rules rule taken_data classes (characters_at text at) (one_state outside)))

-- ---- the white space after a line end that a backslash took

-- it is not taken: it moves as it does inside, with CR and LF among the data
pub white_untaken : (start : ℕ) (t : List ℕ) (b p : ℕ) → move (taking_in_quoted start t) White b p true ≡ move (in_quoted start (t ++ (return_byte ∷ line_feed_byte ∷ []))) White b p true
unfolding taken_data
white_untaken start t b p = ap (λ (d : List ℕ). go [] (in_quoted start d)) (rw append_assoc)
