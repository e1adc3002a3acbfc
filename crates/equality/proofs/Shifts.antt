-- The same bytes at other positions scan alike: to symbols of the same classes and meanings, and to a fault of the same number. Assumes nothing.
use Prim.Native.Nat.{ℕ, zero, suc, ◌+◌}
use mathlib.Core.Path.{◌≡◌, refl, sym}
use mathlib.Core.Bool.{Bool, true, false}
use mathlib.Core.List.{List, [], ◌∷◌, ◌++◌}
use Rattle.octets.specs.Believed.Classes.{class_table}
use Rattle.octets.specs.Believed.Numbers.{quoted_not_closed, comment_not_closed}
use Rattle.scanner.specs.Believed.Characters.{Character, character, fold_at, InFold, none, line_feed, white, characters_from}
use Rattle.scanner.specs.Believed.Scanning.{Scanned, ended, next, fault_at, State, outside, in_atom, in_quoted, taking_in_quoted, in_comment, taking_in_comment, Move, go, halt, atom, move_outside, ending_with, move_in_atom, move_in_quoted, closed, move_in_comment, take, taken_data, move, at_end, followed_by, then, scan_from, parted}
use Rattle.scanner.proofs.CharacterLaws.{plain_here}
use Rattle.grammar.specs.Executable.Trees733.{Sym}
use Rattle.plain.proofs.ByteKinds.{KindView}
use Rattle.equality.proofs.Pairs.{Pairwise, no_symbol, one_symbol, KeepsClass}
use Rattle.equality.proofs.ByteMoves.{character_view, Outside, between, begins_atom, begins_quoted, begins_comment, mark, outside_by, InAtom, goes_on, ends, atom_by, InQuoted, datum, quoted_by, InComment, stays, opens, comment_by, Behind, taken, behind_by}
use Rattle.equality.proofs.ByteMoves as byte
use Rattle.equality.proofs.Splits.{fold_here}

-- ---- the characters

pub data AlikeCharacters : List Character → List Character → Type 0 where
  none_left : AlikeCharacters [] []
  one_more : (b p q : ℕ) (folded : Bool) {xs ys : List Character} → AlikeCharacters xs ys → AlikeCharacters (character b p folded ∷ xs) (character b q folded ∷ ys)

shifted_by : (z : Bool) (b : ℕ) (cs : List ℕ) (p q : ℕ) → fold_at (b ∷ cs) 0 ≡ z → AlikeCharacters (characters_from line_feed cs (p + 1)) (characters_from line_feed cs (q + 1))
    → AlikeCharacters (characters_from none cs (p + 1)) (characters_from none cs (q + 1)) → AlikeCharacters (characters_from none (b ∷ cs) p) (characters_from none (b ∷ cs) q)
shifted_by true b cs p q e f g = rw (fold_here b cs p e, fold_here b cs q e) f
shifted_by false b cs p q e f g = rw (plain_here b cs p e, plain_here b cs q e) (one_more b p q false g)

pub shifted : (cs : List ℕ) (fold : InFold) (p q : ℕ) → AlikeCharacters (characters_from fold cs p) (characters_from fold cs q)
unfolding characters_from
shifted [] none p q = none_left
shifted [] line_feed p q = none_left
shifted [] white p q = none_left
shifted (b ∷ cs) none p q = shifted_by (fold_at (b ∷ cs) 0) b cs p q refl (shifted cs line_feed (p + 1) (q + 1)) (shifted cs none (p + 1) (q + 1))
shifted (b ∷ cs) line_feed p q = shifted cs white (p + 1) (q + 1)
shifted (b ∷ cs) white p q = one_more b p q true (shifted cs none (p + 1) (q + 1))

-- ---- symbols, states and moves that differ in positions only

pub record AlikeSymbol (x y : Sym) : Type 0 where
  pub class : y.class ≡ x.class
  pub meaning : y.lexeme.meaning ≡ x.lexeme.meaning

abbrev pub AlikeSymbols : List Sym → List Sym → Type 0
AlikeSymbols xs ys = Pairwise AlikeSymbol xs ys

pub alike_keeps : KeepsClass AlikeSymbol
alike_keeps =
    record { class = λ a. a.class; turned = λ a. record { class = sym a.class; meaning = sym a.meaning }; itself = λ x. record { class = refl; meaning = refl } }

pub data AlikeScans : Scanned → Scanned → Type 0 where
  both_ended : AlikeScans ended ended
  both_next : {x y : Sym} {r s : Scanned} → AlikeSymbol x y → AlikeScans r s → AlikeScans (next x r) (next y s)
  both_fault : (n p q : ℕ) → AlikeScans (fault_at n p) (fault_at n q)

-- whichever symbols stand apart
pub alike_parted : (from from' : ℕ) {r s : Scanned} → AlikeScans r s → AlikeScans (parted from r) (parted from' s)
unfolding parted
alike_parted from from' both_ended = both_ended
alike_parted from from' (both_next {x = x} {y = y} a h) = both_next record { class = a.class; meaning = a.meaning } (alike_parted x.lexeme.end y.lexeme.end h)
alike_parted from from' (both_fault n p q) = both_fault n p q

pub data AlikeStates : State → State → Type 0 where
  outsides : AlikeStates outside outside
  atoms : (a e a' e' : ℕ) (t : List ℕ) → AlikeStates (in_atom a e t) (in_atom a' e' t)
  quoteds : (a a' : ℕ) (t : List ℕ) → AlikeStates (in_quoted a t) (in_quoted a' t)
  taking_quoteds : (a a' : ℕ) (t : List ℕ) → AlikeStates (taking_in_quoted a t) (taking_in_quoted a' t)
  comments : (d a a' : ℕ) → AlikeStates (in_comment d a) (in_comment d a')
  taking_comments : (d a a' : ℕ) → AlikeStates (taking_in_comment d a) (taking_in_comment d a')

data AlikeMoves : Move → Move → Type 0 where
  both_go : {xs ys : List Sym} {s s' : State} → AlikeSymbols xs ys → AlikeStates s s' → AlikeMoves (go xs s) (go ys s')
  both_halt : {xs ys : List Sym} (n p q : ℕ) → AlikeSymbols xs ys → AlikeMoves (halt xs n p) (halt ys n q)

alike_symbol : {x y : Sym} → y.class ≡ x.class → y.lexeme.meaning ≡ x.lexeme.meaning → AlikeSymbols (x ∷ []) (y ∷ [])
alike_symbol c m = one_symbol (record { class = c; meaning = m }) no_symbol

by_both : {m n m' n' : Move} → m ≡ m' → n ≡ n' → AlikeMoves m' n' → AlikeMoves m n
by_both e f a = rw (e, f) a

-- ---- the moves of a byte at two positions

alike_outside : {k : _} → Outside k → (b p q : ℕ) → AlikeMoves (move_outside k b p) (move_outside k b q)
alike_outside (between f) b p q = by_both (f b p) (f b q) (both_go no_symbol outsides)
alike_outside (begins_atom f) b p q = by_both (f b p) (f b q) (both_go no_symbol (atoms p (p + 1) q (q + 1) (b ∷ [])))
alike_outside (begins_quoted f) b p q = by_both (f b p) (f b q) (both_go no_symbol (quoteds p q []))
alike_outside (begins_comment f) b p q = by_both (f b p) (f b q) (both_go no_symbol (comments 0 p q))
alike_outside (mark c f) b p q = by_both (f b p) (f b q) (both_go (alike_symbol refl refl) outsides)
alike_outside (byte.faulty n f) b p q = by_both (f b p) (f b q) (both_halt n p q no_symbol)

alike_ending : (a e a' e' : ℕ) (t : List ℕ) {m m' : Move} → AlikeMoves m m' → AlikeMoves (ending_with (atom a e t) m) (ending_with (atom a' e' t) m')
alike_ending a e a' e' t (both_go x s) = both_go (one_symbol (record { class = refl; meaning = refl }) x) s
alike_ending a e a' e' t (both_halt n p q x) = both_halt n p q (one_symbol (record { class = refl; meaning = refl }) x)

alike_in_atom : {k : _} → KindView k → InAtom k → (a e a' e' : ℕ) (t : List ℕ) (b p q : ℕ) → AlikeMoves (move_in_atom k a e t b p) (move_in_atom k a' e' t b q)
alike_in_atom v (goes_on f) a e a' e' t b p q = by_both (f a e t b p) (f a' e' t b q) (both_go no_symbol (atoms a (p + 1) a' (q + 1) (t ++ (b ∷ []))))
alike_in_atom v (ends f) a e a' e' t b p q = by_both (f a e t b p) (f a' e' t b q) (alike_ending a e a' e' t (alike_outside (outside_by v) b p q))

alike_in_quoted : {k : _} → InQuoted k → (a a' : ℕ) (t : List ℕ) (b p q : ℕ) → AlikeMoves (move_in_quoted k a t b p) (move_in_quoted k a' t b q)
alike_in_quoted (datum f) a a' t b p q = by_both (f a t b p) (f a' t b q) (both_go no_symbol (quoteds a a' (t ++ (b ∷ []))))
alike_in_quoted (byte.takes f) a a' t b p q = by_both (f a t b p) (f a' t b q) (both_go no_symbol (taking_quoteds a a' t))
alike_in_quoted (byte.closes f) a a' t b p q = by_both (f a t b p) (f a' t b q) (both_go (alike_symbol refl refl) outsides)
alike_in_quoted (byte.faulty n f) a a' t b p q = by_both (f a t b p) (f a' t b q) (both_halt n p q no_symbol)

alike_closed : (d a a' : ℕ) → AlikeStates (closed d a) (closed d a')
alike_closed zero a a' = outsides
alike_closed (suc d) a a' = comments d a a'

alike_in_comment : {k : _} → InComment k → (d a a' p q : ℕ) → AlikeMoves (move_in_comment k d a p) (move_in_comment k d a' q)
alike_in_comment (stays f) d a a' p q = by_both (f d a p) (f d a' q) (both_go no_symbol (comments d a a'))
alike_in_comment (opens f) d a a' p q = by_both (f d a p) (f d a' q) (both_go no_symbol (comments (suc d) a a'))
alike_in_comment (byte.closes f) d a a' p q = by_both (f d a p) (f d a' q) (both_go no_symbol (alike_closed d a a'))
alike_in_comment (byte.takes f) d a a' p q = by_both (f d a p) (f d a' q) (both_go no_symbol (taking_comments d a a'))
alike_in_comment (byte.faulty n f) d a a' p q = by_both (f d a p) (f d a' q) (both_halt n p q no_symbol)

alike_behind : {k : _} → Behind k → {s s' : State} → AlikeStates s s' → (p q : ℕ) → AlikeMoves (take k s p) (take k s' q)
alike_behind (taken f) {s} {s'} h p q = by_both (f s p) (f s' q) (both_go no_symbol h)
alike_behind (byte.faulty n f) {s} {s'} h p q = by_both (f s p) (f s' q) (both_halt n p q no_symbol)

alike_move : {k : _} → KindView k → {s s' : State} → AlikeStates s s' → (b p q : ℕ) (folded : Bool) → AlikeMoves (move s k b p folded) (move s' k b q folded)
alike_move v outsides b p q folded = alike_outside (outside_by v) b p q
alike_move v (atoms a e a' e' t) b p q folded = alike_in_atom v (atom_by v) a e a' e' t b p q
alike_move v (quoteds a a' t) b p q folded = alike_in_quoted (quoted_by v) a a' t b p q
alike_move v (taking_quoteds a a' t) b p q folded = alike_behind (behind_by v) (quoteds a a' (t ++ taken_data b folded)) p q
alike_move v (comments d a a') b p q folded = alike_in_comment (comment_by v) d a a' p q
alike_move v (taking_comments d a a') b p q folded = alike_behind (behind_by v) (comments d a a') p q

-- ---- the scan

pub alike_followed : {xs ys : List Sym} {r s : Scanned} → AlikeSymbols xs ys → AlikeScans r s → AlikeScans (followed_by xs r) (followed_by ys s)
alike_followed no_symbol h = h
alike_followed (one_symbol x xs) h = both_next x (alike_followed xs h)

alike_then : {m m' : Move} (f g : State → Scanned) → AlikeMoves m m' → ((s s' : State) → AlikeStates s s' → AlikeScans (f s) (g s')) → AlikeScans (then m f) (then m' g)
alike_then f g (both_go x h) k = alike_followed x (k _ _ h)
alike_then f g (both_halt n p q x) k = alike_followed x (both_fault n p q)

alike_end : {s s' : State} → AlikeStates s s' → AlikeScans (at_end s) (at_end s')
alike_end outsides = both_ended
alike_end (atoms a e a' e' t) = both_next (record { class = refl; meaning = refl }) both_ended
alike_end (quoteds a a' t) = both_fault quoted_not_closed a a'
alike_end (taking_quoteds a a' t) = both_fault quoted_not_closed a a'
alike_end (comments d a a') = both_fault comment_not_closed a a'
alike_end (taking_comments d a a') = both_fault comment_not_closed a a'

-- from alike states on
pub alike_from : {xs ys : List Character} → AlikeCharacters xs ys → (s s' : State) → AlikeStates s s' → AlikeScans (scan_from class_table xs s) (scan_from class_table ys s')
unfolding scan_from
alike_from none_left s s' h = alike_end h
alike_from (one_more b p q folded {xs} {ys} a) s s' h =
    alike_then (λ z. scan_from class_table xs z) (λ z. scan_from class_table ys z) (alike_move (character_view b folded) h b p q folded) (λ z z' i. alike_from a z z' i)
