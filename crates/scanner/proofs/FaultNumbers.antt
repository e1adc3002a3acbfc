-- The faults of scanning have the numbers 3, 5, 6, 7 and 23. Assumes nothing.
use mathlib.Core.Path.{◌≡◌, refl}
use mathlib.Core.Bool.{Bool, true}
use mathlib.Core.List.{List, [], ◌∷◌}
use Prim.Native.Nat.{ℕ}
use lib.Dec.{eqb}
use Rattle.octets.specs.Believed.Choice.{either}
use Rattle.octets.specs.Believed.Numbers.{byte_above_127, quoted_not_closed, comment_not_closed, stray_control, literal_not_closed}
use Rattle.scanner.specs.Believed.Symbols.{Symbol}
use Rattle.scanner.specs.Believed.Kinds.{character_kind}
use Rattle.scanner.specs.Believed.Characters.{Character, character, characters_at}
use Rattle.scanner.specs.Believed.Scanning.{Scanned, ended, next, fault_at, State, outside, in_atom, in_quoted, taking_in_quoted, in_literal, taking_in_literal, in_comment, taking_in_comment, Move, go, halt, atom, ending_with, move_outside, move_in_atom, move_in_quoted, move_in_literal, move_in_comment, move, at_end, followed_by, then, scan_from, parted, scan_by}
use Rattle.scanner.specs.Believed.Scanning as scanning
use Rattle.scanner.specs.declared.Class.{Class}
use Rattle.scanner.specs.declared.ByteKind.{ByteKind}
use Rattle.scanner.specs.declared.ByteKind.TheVariants.{White, Control, Return, Plain, Open, Close, Quote, Backslash, Mark, Above, OpenBracket, CloseBracket}

-- the number of a fault
abbrev pub is_fault : ℕ → Bool
is_fault n = either (eqb n byte_above_127) (either (eqb n quoted_not_closed) (either (eqb n comment_not_closed) (either (eqb n stray_control) (eqb n literal_not_closed))))

-- what is scanned ends with one of these, or without fault
abbrev pub Numbered : Scanned → Type 0
Numbered ended = Unit {0}
Numbered (next x rest) = Numbered rest
Numbered (fault_at n p) = is_fault n ≡ true

-- .. as a move does
abbrev MoveNumbered : Move → Type 0
MoveNumbered (go symbols state) = Unit {0}
MoveNumbered (halt symbols n p) = is_fault n ≡ true

in_outside : (kind : ByteKind) (b p : ℕ) → MoveNumbered (move_outside kind b p)
in_outside White b p = tt
in_outside Control b p = refl
in_outside Return b p = refl
in_outside Plain b p = tt
in_outside Open b p = tt
in_outside Close b p = tt
in_outside Quote b p = tt
in_outside Backslash b p = tt
in_outside (Mark class) b p = tt
in_outside Above b p = refl
in_outside OpenBracket b p = tt
in_outside CloseBracket b p = tt

ending : (x : Symbol Class) (m : Move) → MoveNumbered m → MoveNumbered (ending_with x m)
ending x (go symbols state) h = tt
ending x (halt symbols n p) h = h

in_atom_lem : (kind : ByteKind) (start end : ℕ) (t : List ℕ) (b p : ℕ) → MoveNumbered (move_in_atom kind start end t b p)
in_atom_lem White start end t b p = ending (atom start end t) (move_outside White b p) (in_outside White b p)
in_atom_lem Control start end t b p = ending (atom start end t) (move_outside Control b p) (in_outside Control b p)
in_atom_lem Return start end t b p = ending (atom start end t) (move_outside Return b p) (in_outside Return b p)
in_atom_lem Plain start end t b p = tt
in_atom_lem Open start end t b p = ending (atom start end t) (move_outside Open b p) (in_outside Open b p)
in_atom_lem Close start end t b p = ending (atom start end t) (move_outside Close b p) (in_outside Close b p)
in_atom_lem Quote start end t b p = ending (atom start end t) (move_outside Quote b p) (in_outside Quote b p)
in_atom_lem Backslash start end t b p = ending (atom start end t) (move_outside Backslash b p) (in_outside Backslash b p)
in_atom_lem (Mark class) start end t b p = ending (atom start end t) (move_outside (Mark class) b p) (in_outside (Mark class) b p)
in_atom_lem Above start end t b p = ending (atom start end t) (move_outside Above b p) (in_outside Above b p)
in_atom_lem OpenBracket start end t b p = ending (atom start end t) (move_outside OpenBracket b p) (in_outside OpenBracket b p)
in_atom_lem CloseBracket start end t b p = ending (atom start end t) (move_outside CloseBracket b p) (in_outside CloseBracket b p)

in_quoted_lem : (kind : ByteKind) (start : ℕ) (t : List ℕ) (b p : ℕ) → MoveNumbered (move_in_quoted kind start t b p)
in_quoted_lem White start t b p = tt
in_quoted_lem Control start t b p = tt
in_quoted_lem Return start t b p = refl
in_quoted_lem Plain start t b p = tt
in_quoted_lem Open start t b p = tt
in_quoted_lem Close start t b p = tt
in_quoted_lem Quote start t b p = tt
in_quoted_lem Backslash start t b p = tt
in_quoted_lem (Mark class) start t b p = tt
in_quoted_lem Above start t b p = refl
in_quoted_lem OpenBracket start t b p = tt
in_quoted_lem CloseBracket start t b p = tt

in_literal_lem : (kind : ByteKind) (start p : ℕ) → MoveNumbered (move_in_literal kind start p)
in_literal_lem White start p = tt
in_literal_lem Control start p = tt
in_literal_lem Return start p = refl
in_literal_lem Plain start p = tt
in_literal_lem Open start p = tt
in_literal_lem Close start p = tt
in_literal_lem Quote start p = tt
in_literal_lem Backslash start p = tt
in_literal_lem (Mark class) start p = tt
in_literal_lem Above start p = refl
in_literal_lem OpenBracket start p = refl
in_literal_lem CloseBracket start p = tt

in_comment_lem : (kind : ByteKind) (depth start p : ℕ) → MoveNumbered (move_in_comment kind depth start p)
in_comment_lem White depth start p = tt
in_comment_lem Control depth start p = tt
in_comment_lem Return depth start p = refl
in_comment_lem Plain depth start p = tt
in_comment_lem Open depth start p = tt
in_comment_lem Close depth start p = tt
in_comment_lem Quote depth start p = tt
in_comment_lem Backslash depth start p = tt
in_comment_lem (Mark class) depth start p = tt
in_comment_lem Above depth start p = refl
in_comment_lem OpenBracket depth start p = tt
in_comment_lem CloseBracket depth start p = tt

taking : (kind : ByteKind) (state : State) (p : ℕ) → MoveNumbered (scanning.take kind state p)
taking White state p = tt
taking Control state p = tt
taking Return state p = tt
taking Plain state p = tt
taking Open state p = tt
taking Close state p = tt
taking Quote state p = tt
taking Backslash state p = tt
taking (Mark class) state p = tt
taking Above state p = refl
taking OpenBracket state p = tt
taking CloseBracket state p = tt

each_move : (state : State) (kind : ByteKind) (b p : ℕ) (folded : Bool) → MoveNumbered (move state kind b p folded)
each_move outside kind b p folded = in_outside kind b p
each_move (in_atom start end t) kind b p folded = in_atom_lem kind start end t b p
each_move (in_quoted start t) kind b p folded = in_quoted_lem kind start t b p
each_move (taking_in_quoted start t) kind b p folded = taking kind _ p
each_move (in_literal start) kind b p folded = in_literal_lem kind start p
each_move (taking_in_literal start) kind b p folded = taking kind _ p
each_move (in_comment depth start) kind b p folded = in_comment_lem kind depth start p
each_move (taking_in_comment depth start) kind b p folded = taking kind _ p

at_end_lem : (state : State) → Numbered (at_end state)
at_end_lem outside = tt
at_end_lem (in_atom start end t) = tt
at_end_lem (in_quoted start t) = refl
at_end_lem (taking_in_quoted start t) = refl
at_end_lem (in_literal start) = refl
at_end_lem (taking_in_literal start) = refl
at_end_lem (in_comment depth start) = refl
at_end_lem (taking_in_comment depth start) = refl

followed : (symbols : List (Symbol Class)) (rest : Scanned) → Numbered rest → Numbered (followed_by symbols rest)
followed [] rest h = h
followed (x ∷ symbols) rest h = followed symbols rest h

moved : (m : Move) (rest : State → Scanned) → MoveNumbered m → ((state : State) → Numbered (rest state)) → Numbered (then m rest)
moved (go symbols state) rest h f = followed symbols (rest state) (f state)
moved (halt symbols n p) rest h f = followed symbols (fault_at n p) h

-- whatever is scanned
numbered : (classes : List ℕ) (characters : List Character) (state : State) → Numbered (scan_from classes characters state)
unfolding scan_from
numbered classes [] state = at_end_lem state
numbered classes (character b p folded ∷ rest) state =
    moved (move state (character_kind classes b folded) b p folded) (λ state'. scan_from classes rest state') (each_move state (character_kind classes b folded) b p folded) (λ state'. numbered classes rest state')

numbered_parted : (from : ℕ) (s : Scanned) → Numbered s → Numbered (parted from s)
unfolding parted
numbered_parted from ended h = h
numbered_parted from (next x rest) h = numbered_parted x.lexeme.end rest h
numbered_parted from (fault_at n p) h = h

-- .. of a text
pub numbered_scan : (classes text : List ℕ) (at : ℕ) → Numbered (scan_by classes text at)
numbered_scan classes text at = numbered_parted at _ (numbered classes (characters_at text at) outside)
