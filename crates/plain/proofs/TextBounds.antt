-- The plain text has at most four times the bytes of the body: each character leads to four bytes at most. Assumes nothing.
use mathlib.Core.Bool.{Bool, true, false}
use mathlib.Core.Path.{◌≡◌, refl}
use mathlib.Core.List.{List, [], ◌∷◌, ◌++◌}
use Prim.Native.Nat.{ℕ, zero, suc, ◌+◌, ◌*◌, ◌-◌, ◌≤◌}
use native.Mathlib.Omega.{arith}
use lib.Dec.{eqb}
use lib.ListN.{length, drop, get_or, length-append, length-drop}
use Rattle.octets.specs.Believed.Choice.{pick}
use Rattle.octets.specs.Believed.Classes.{white, control, letter, open_parenthesis, close_parenthesis, less_than, greater_than, at_sign, comma, semicolon, colon as colon_mark, backslash, quote, above127, dot, open_bracket, close_bracket}
use Rattle.octets.specs.Believed.Letters.{same_letters}
use Rattle.octets.specs.Believed.Text.{bytes}
use Rattle.scanner.specs.Believed.Symbols.{Symbol}
use Rattle.scanner.specs.Believed.Kinds.{kind_of_class, kind_of, character_kind}
use Rattle.scanner.specs.Believed.Characters.{Character, character, InFold, none, line_feed, white as white_space, fold_at, characters_from, characters_at}
use Rattle.scanner.specs.Believed.Scanning.{Scanned, ended, next, fault_at, State, outside, in_atom, in_quoted, taking_in_quoted, in_literal, taking_in_literal, in_comment, taking_in_comment, Move, go, halt, symbol, atom, single, move_outside, ending_with, move_in_atom, move_in_quoted, move_in_literal, move_in_comment, closed, take, taken_data, move, followed_by, then, scan_from, symbols_of, parted}
use Rattle.scanner.specs.declared.Class.{Class}
use Rattle.scanner.specs.declared.Class.TheVariants.{Atom, Quoted, At, LessThan, GreaterThan, Comma, Semicolon, Colon, Stray, Dot, Literal}
use Rattle.plain.specs.Believed.PlainText.{needs_backslash, backslash_text, data_text, quoted_text}
use Rattle.plain.specs.Ties.Walking.{gap_text, gap_before, gap_before_colon, symbol_text, after, colon_next, walk_text, written_text}
use Rattle.plain.specs.declared.places.Gap.{Gap}
use Rattle.plain.specs.declared.places.Gap.TheVariants.{Nothing, Space, CommaSpace}
use Rattle.plain.specs.declared.places.Place.{Place}
use Rattle.plain.specs.declared.places.Place.TheVariants.{Start}

-- ---- one symbol

-- it is written in k bytes at most, wherever it stands
abbrev Within : Class → List ℕ → ℕ → Type 0
Within class meaning k = (place : Place) (colon : Bool) (rest : List ℕ) → length (symbol_text class meaning place colon rest) ≤ k + length rest

gap_within : (gap : Gap) (rest : List ℕ) → length (gap_text gap rest) ≤ 2 + length rest
gap_within Nothing rest = omega arith
gap_within Space rest = omega arith
gap_within CommaSpace rest = omega arith

backslash_within : (needed : Bool) (rest : List ℕ) → length (backslash_text needed rest) ≤ 1 + length rest
backslash_within true rest = omega arith
backslash_within false rest = omega arith

data_within : (t rest : List ℕ) → length (data_text t rest) ≤ 2 * length t + length rest
data_within [] rest = omega arith
data_within (b ∷ t) rest = omega (arith, data_within t rest, backslash_within (needs_backslash b) (b ∷ data_text t rest))

quoted_within : (t : List ℕ) → Within Quoted t (4 + 2 * length t)
quoted_within t place colon rest = omega (arith, gap_within (gap_before place false) (quoted_text t rest), data_within t (bytes "\"" ++ rest))

atom_within : (test : Bool) (t : List ℕ) → Within (pick test At Atom) t (3 + length t)
atom_within true t place colon rest = omega arith
atom_within false t place colon rest = omega (arith, gap_within (gap_before place colon) (t ++ rest), length-append t rest)

-- ---- the kinds of characters, by cases

data KindView : _ → Type 0 where
  is_white : KindView (kind_of_class white)
  is_control : KindView (kind_of_class control)
  is_return : KindView (kind_of [] 13)
  is_plain : KindView (kind_of_class letter)
  is_open : KindView (kind_of_class open_parenthesis)
  is_close : KindView (kind_of_class close_parenthesis)
  is_quote : KindView (kind_of_class quote)
  is_backslash : KindView (kind_of_class backslash)
  is_less : KindView (kind_of_class less_than)
  is_greater : KindView (kind_of_class greater_than)
  is_at : KindView (kind_of_class at_sign)
  is_comma : KindView (kind_of_class comma)
  is_semicolon : KindView (kind_of_class semicolon)
  is_colon : KindView (kind_of_class colon_mark)
  is_dot : KindView (kind_of_class dot)
  is_above : KindView (kind_of_class above127)
  is_open_bracket : KindView (kind_of_class open_bracket)
  is_close_bracket : KindView (kind_of_class close_bracket)

or_else : (test : Bool) {a b : _} → KindView a → KindView b → KindView (pick test a b)
or_else true x y = x
or_else false x y = y

class_view : (c : ℕ) → KindView (kind_of_class c)
class_view c =
    or_else (eqb c white) is_white (or_else (eqb c control) is_control (or_else (eqb c open_parenthesis) is_open (or_else (eqb c close_parenthesis) is_close
    (or_else (eqb c less_than) is_less (or_else (eqb c greater_than) is_greater (or_else (eqb c at_sign) is_at (or_else (eqb c comma) is_comma
    (or_else (eqb c semicolon) is_semicolon (or_else (eqb c colon_mark) is_colon (or_else (eqb c backslash) is_backslash (or_else (eqb c quote) is_quote
    (or_else (eqb c above127) is_above (or_else (eqb c dot) is_dot (or_else (eqb c open_bracket) is_open_bracket (or_else (eqb c close_bracket) is_close_bracket is_plain)))))))))))))))

character_view : (classes : List ℕ) (b : ℕ) (folded : Bool) → KindView (character_kind classes b folded)
unfolding kind_of
character_view classes b folded = or_else folded is_white (or_else (eqb b 13) is_return (class_view (get_or classes b 0)))

-- ---- what is scanned

-- it is written in n bytes at most
abbrev Most : Scanned → ℕ → Type 0
Most s n = (place : Place) → length (walk_text place (symbols_of s)) ≤ n

most_next : (x : Symbol Class) (rest : Scanned) (k n : ℕ) → Within x.class x.lexeme.meaning k → Most rest n → Most (next x rest) (k + n)
unfolding symbols_of
most_next x rest k n w m place =
    let colon = colon_next (symbols_of rest) in
    let later = after x.class place colon in
    omega (arith, w place colon (walk_text later (symbols_of rest)), m later)

-- what a state has taken and not yet written; a backslash keeps its own four bytes for what it takes, which may be a line end
abbrev weight : State → ℕ
weight outside = 0
weight (in_atom start end t) = 3 + length t
weight (in_quoted start t) = 4 + 2 * length t
weight (taking_in_quoted start t) = 8 + 2 * length t
weight (in_literal start) = 0
weight (taking_in_literal start) = 0
weight (in_comment depth start) = 0
weight (taking_in_comment depth start) = 0

-- ---- one move

-- it adds four bytes at most
abbrev Adds : ℕ → Move → Type 0
Adds w m = (rest : State → Scanned) (n : ℕ) → ((s : State) → Most (rest s) (weight s + n)) → Most (then m rest) (w + 4 + n)

goes : (w : ℕ) (s : State) → weight s ≤ w + 4 → Adds w (go [] s)
goes w s h rest n f place = omega (arith, f s place, h)

halts : (w number p : ℕ) → Adds w (halt [] number p)
unfolding symbols_of
halts w number p rest n f place = omega arith

lone : (w k : ℕ) (x : Symbol Class) → Within x.class x.lexeme.meaning k → k ≤ w + 4 → Adds w (go (x ∷ []) outside)
lone w k x b h rest n f place = omega (arith, most_next x (rest outside) k (0 + n) b (f outside) place, h)

ends : (w k : ℕ) (x : Symbol Class) (m : Move) → Within x.class x.lexeme.meaning k → Adds w m → Adds (k + w) (ending_with x m)
ends w k x (go symbols s) b v rest n f place = omega (arith, most_next x (followed_by symbols (rest s)) k (w + 4 + n) b (v rest n f) place)
ends w k x (halt symbols number p) b v rest n f place = omega (arith, most_next x (followed_by symbols (fault_at number p)) k (w + 4 + n) b (v rest n f) place)

from_outside : {kind : _} (v : KindView kind) (b p : ℕ) → Adds 0 (move_outside kind b p)
unfolding kind_of
from_outside is_white b p = goes 0 outside (omega arith)
from_outside is_control b p = halts 0 _ p
from_outside is_return b p = halts 0 _ p
from_outside is_plain b p = goes 0 (in_atom p (p + 1) (b ∷ [])) (omega arith)
from_outside is_open b p = goes 0 (in_comment 0 p) (omega arith)
from_outside is_close b p = lone 0 4 (single Stray b p) (λ place colon rest. omega arith) (omega arith)
from_outside is_quote b p = goes 0 (in_quoted p []) (omega arith)
from_outside is_backslash b p = lone 0 4 (single Stray b p) (λ place colon rest. omega arith) (omega arith)
from_outside is_less b p = lone 0 4 (single LessThan b p) (λ place colon rest. omega (arith, gap_within (gap_before place false) (bytes "<" ++ rest))) (omega arith)
from_outside is_greater b p = lone 0 4 (single GreaterThan b p) (λ place colon rest. omega arith) (omega arith)
from_outside is_at b p = lone 0 4 (single At b p) (λ place colon rest. omega arith) (omega arith)
from_outside is_comma b p = lone 0 4 (single Comma b p) (λ place colon rest. omega arith) (omega arith)
from_outside is_semicolon b p = lone 0 4 (single Semicolon b p) (λ place colon rest. omega arith) (omega arith)
from_outside is_colon b p = lone 0 4 (single Colon b p) (λ place colon rest. omega (arith, gap_within (gap_before_colon place) (bytes ":" ++ rest))) (omega arith)
from_outside is_dot b p = lone 0 4 (single Dot b p) (λ place colon rest. omega arith) (omega arith)
from_outside is_above b p = halts 0 _ p
from_outside is_open_bracket b p = goes 0 (in_literal p) (omega arith)
from_outside is_close_bracket b p = lone 0 4 (single Stray b p) (λ place colon rest. omega arith) (omega arith)

ended_atom : {kind : _} (v : KindView kind) (start end : ℕ) (t : List ℕ) (b p : ℕ) → Adds (3 + length t) (ending_with (atom start end t) (move_outside kind b p))
ended_atom {kind} v start end t b p rest n f place =
    omega (arith, ends 0 (3 + length t) (atom start end t) (move_outside kind b p) (atom_within (same_letters t (bytes "at")) t) (from_outside v b p) rest n f place)

from_atom : {kind : _} (v : KindView kind) (start end : ℕ) (t : List ℕ) (b p : ℕ) → Adds (3 + length t) (move_in_atom kind start end t b p)
unfolding kind_of
from_atom is_white start end t b p = ended_atom is_white start end t b p
from_atom is_control start end t b p = ended_atom is_control start end t b p
from_atom is_return start end t b p = ended_atom is_return start end t b p
from_atom is_plain start end t b p = goes (3 + length t) (in_atom start (p + 1) (t ++ (b ∷ []))) (omega (arith, length-append t (b ∷ [])))
from_atom is_open start end t b p = ended_atom is_open start end t b p
from_atom is_close start end t b p = ended_atom is_close start end t b p
from_atom is_quote start end t b p = ended_atom is_quote start end t b p
from_atom is_backslash start end t b p = ended_atom is_backslash start end t b p
from_atom is_less start end t b p = ended_atom is_less start end t b p
from_atom is_greater start end t b p = ended_atom is_greater start end t b p
from_atom is_at start end t b p = ended_atom is_at start end t b p
from_atom is_comma start end t b p = ended_atom is_comma start end t b p
from_atom is_semicolon start end t b p = ended_atom is_semicolon start end t b p
from_atom is_colon start end t b p = ended_atom is_colon start end t b p
from_atom is_dot start end t b p = ended_atom is_dot start end t b p
from_atom is_above start end t b p = ended_atom is_above start end t b p
from_atom is_open_bracket start end t b p = ended_atom is_open_bracket start end t b p
from_atom is_close_bracket start end t b p = ended_atom is_close_bracket start end t b p

grown : (start : ℕ) (t : List ℕ) (b : ℕ) → Adds (4 + 2 * length t) (go [] (in_quoted start (t ++ (b ∷ []))))
grown start t b = goes (4 + 2 * length t) (in_quoted start (t ++ (b ∷ []))) (omega (arith, length-append t (b ∷ [])))

from_quoted : {kind : _} (v : KindView kind) (start : ℕ) (t : List ℕ) (b p : ℕ) → Adds (4 + 2 * length t) (move_in_quoted kind start t b p)
unfolding kind_of
from_quoted is_white start t b p = grown start t b
from_quoted is_control start t b p = grown start t b
from_quoted is_return start t b p = halts (4 + 2 * length t) _ p
from_quoted is_plain start t b p = grown start t b
from_quoted is_open start t b p = grown start t b
from_quoted is_close start t b p = grown start t b
from_quoted is_quote start t b p = lone (4 + 2 * length t) (4 + 2 * length t) (symbol Quoted start (p + 1) t) (quoted_within t) (omega arith)
from_quoted is_backslash start t b p = goes (4 + 2 * length t) (taking_in_quoted start t) (omega arith)
from_quoted is_less start t b p = grown start t b
from_quoted is_greater start t b p = grown start t b
from_quoted is_at start t b p = grown start t b
from_quoted is_comma start t b p = grown start t b
from_quoted is_semicolon start t b p = grown start t b
from_quoted is_colon start t b p = grown start t b
from_quoted is_dot start t b p = grown start t b
from_quoted is_above start t b p = halts (4 + 2 * length t) _ p
from_quoted is_open_bracket start t b p = grown start t b
from_quoted is_close_bracket start t b p = grown start t b

from_literal : {kind : _} (v : KindView kind) (start p : ℕ) → Adds 0 (move_in_literal kind start p)
unfolding kind_of
from_literal is_white start p = goes 0 (in_literal start) (omega arith)
from_literal is_control start p = goes 0 (in_literal start) (omega arith)
from_literal is_return start p = halts 0 _ _
from_literal is_plain start p = goes 0 (in_literal start) (omega arith)
from_literal is_open start p = goes 0 (in_literal start) (omega arith)
from_literal is_close start p = goes 0 (in_literal start) (omega arith)
from_literal is_quote start p = goes 0 (in_literal start) (omega arith)
from_literal is_backslash start p = goes 0 (taking_in_literal start) (omega arith)
from_literal is_less start p = goes 0 (in_literal start) (omega arith)
from_literal is_greater start p = goes 0 (in_literal start) (omega arith)
from_literal is_at start p = goes 0 (in_literal start) (omega arith)
from_literal is_comma start p = goes 0 (in_literal start) (omega arith)
from_literal is_semicolon start p = goes 0 (in_literal start) (omega arith)
from_literal is_colon start p = goes 0 (in_literal start) (omega arith)
from_literal is_dot start p = goes 0 (in_literal start) (omega arith)
from_literal is_above start p = halts 0 _ _
from_literal is_open_bracket start p = halts 0 _ _
from_literal is_close_bracket start p = lone 0 0 (symbol Literal start (p + 1) []) (λ place colon rest. omega arith) (omega arith)

closed_light : (depth start : ℕ) → weight (closed depth start) ≤ 4
closed_light zero start = omega arith
closed_light (suc depth) start = omega arith

from_comment : {kind : _} (v : KindView kind) (depth start p : ℕ) → Adds 0 (move_in_comment kind depth start p)
unfolding kind_of
from_comment is_white depth start p = goes 0 (in_comment depth start) (omega arith)
from_comment is_control depth start p = goes 0 (in_comment depth start) (omega arith)
from_comment is_return depth start p = halts 0 _ p
from_comment is_plain depth start p = goes 0 (in_comment depth start) (omega arith)
from_comment is_open depth start p = goes 0 (in_comment (suc depth) start) (omega arith)
from_comment is_close depth start p = goes 0 (closed depth start) (omega (arith, closed_light depth start))
from_comment is_quote depth start p = goes 0 (in_comment depth start) (omega arith)
from_comment is_backslash depth start p = goes 0 (taking_in_comment depth start) (omega arith)
from_comment is_less depth start p = goes 0 (in_comment depth start) (omega arith)
from_comment is_greater depth start p = goes 0 (in_comment depth start) (omega arith)
from_comment is_at depth start p = goes 0 (in_comment depth start) (omega arith)
from_comment is_comma depth start p = goes 0 (in_comment depth start) (omega arith)
from_comment is_semicolon depth start p = goes 0 (in_comment depth start) (omega arith)
from_comment is_colon depth start p = goes 0 (in_comment depth start) (omega arith)
from_comment is_dot depth start p = goes 0 (in_comment depth start) (omega arith)
from_comment is_above depth start p = halts 0 _ p
from_comment is_open_bracket depth start p = goes 0 (in_comment depth start) (omega arith)
from_comment is_close_bracket depth start p = goes 0 (in_comment depth start) (omega arith)

from_taking : {kind : _} (v : KindView kind) (w : ℕ) (s : State) (p : ℕ) → weight s ≤ w + 4 → Adds w (take kind s p)
unfolding kind_of
from_taking is_white w s p h = goes w s h
from_taking is_control w s p h = goes w s h
from_taking is_return w s p h = goes w s h
from_taking is_plain w s p h = goes w s h
from_taking is_open w s p h = goes w s h
from_taking is_close w s p h = goes w s h
from_taking is_quote w s p h = goes w s h
from_taking is_backslash w s p h = goes w s h
from_taking is_less w s p h = goes w s h
from_taking is_greater w s p h = goes w s h
from_taking is_at w s p h = goes w s h
from_taking is_comma w s p h = goes w s h
from_taking is_semicolon w s p h = goes w s h
from_taking is_colon w s p h = goes w s h
from_taking is_dot w s p h = goes w s h
from_taking is_above w s p h = halts w _ p
from_taking is_open_bracket w s p h = goes w s h
from_taking is_close_bracket w s p h = goes w s h

taken_few : (b : ℕ) (folded : Bool) → length (taken_data b folded) ≤ 3
unfolding taken_data
taken_few b true = omega arith
taken_few b false = omega arith

moved : (s : State) {kind : _} (v : KindView kind) (b p : ℕ) (folded : Bool) → Adds (weight s) (move s kind b p folded)
moved outside v b p folded = from_outside v b p
moved (in_atom start end t) v b p folded = from_atom v start end t b p
moved (in_quoted start t) v b p folded = from_quoted v start t b p
moved (taking_in_quoted start t) v b p folded =
    from_taking v (8 + 2 * length t) (in_quoted start (t ++ taken_data b folded)) p (omega (arith, length-append t (taken_data b folded), taken_few b folded))
moved (in_literal start) v b p folded = from_literal v start p
moved (taking_in_literal start) v b p folded = from_taking v 0 (in_literal start) p (omega arith)
moved (in_comment depth start) v b p folded = from_comment v depth start p
moved (taking_in_comment depth start) v b p folded = from_taking v 0 (in_comment depth start) p (omega arith)

-- ---- all characters

at_end_lem : (s : State) → Most (scan_from [] [] s) (weight s)
unfolding scan_from symbols_of
at_end_lem outside place = omega arith
at_end_lem (in_atom start end t) place = omega (arith, atom_within (same_letters t (bytes "at")) t place false [])
at_end_lem (in_quoted start t) place = omega arith
at_end_lem (taking_in_quoted start t) place = omega arith
at_end_lem (in_literal start) place = omega arith
at_end_lem (taking_in_literal start) place = omega arith
at_end_lem (in_comment depth start) place = omega arith
at_end_lem (taking_in_comment depth start) place = omega arith

most : (classes : List ℕ) (cs : List Character) (s : State) → Most (scan_from classes cs s) (weight s + 4 * length cs)
unfolding scan_from
most classes [] s place = omega (arith, at_end_lem s place)
most classes (character b p folded ∷ rest) s place =
    omega (arith, moved s (character_view classes b folded) b p folded (λ s'. scan_from classes rest s') (4 * length rest) (λ s'. most classes rest s') place)

one_of : (test : Bool) (a b : List Character) (n : ℕ) → length a ≤ n → length b ≤ n → length {A = Character} (elim test [ true ↦ a | false ↦ b ]) ≤ n
one_of true a b n x y = x
one_of false a b n x y = y

-- no more characters than bytes
fewer : (fold : InFold) (bs : List ℕ) (p : ℕ) → length (characters_from fold bs p) ≤ length bs
unfolding characters_from
fewer fold [] p = omega arith
fewer line_feed (b ∷ rest) p = omega (arith, fewer white_space rest (p + 1))
fewer white_space (b ∷ rest) p = omega (arith, fewer none rest (p + 1))
fewer none (b ∷ rest) p =
    one_of (fold_at (b ∷ rest) 0) (characters_from line_feed rest (p + 1)) (character b p false ∷ characters_from none rest (p + 1)) (suc (length rest)) (omega (arith, fewer line_feed rest (p + 1))) (omega (arith, fewer none rest (p + 1)))

-- the text of symbols does not depend on which stand apart
colon_parted : (from : ℕ) (s : Scanned) → colon_next (symbols_of (parted from s)) ≡ colon_next (symbols_of s)
unfolding parted symbols_of
colon_parted from ended = refl
colon_parted from (next x rest) = refl
colon_parted from (fault_at n p) = refl

text_parted : (from : ℕ) (s : Scanned) (place : Place) → walk_text place (symbols_of (parted from s)) ≡ walk_text place (symbols_of s)
unfolding parted symbols_of
text_parted from ended place = refl
text_parted from (next x rest) place = rw (colon_parted x.lexeme.end rest, text_parted x.lexeme.end rest)
text_parted from (fault_at n p) place = refl

-- what is written of a body
pub written_most : (classes text : List ℕ) (start : ℕ) → length (written_text classes text start) ≤ 4 * (length text - start)
written_most classes text start = rw (text_parted start (scan_from classes (characters_at text start) outside) Start) (omega (arith, most classes (characters_at text start) outside Start, fewer none (drop start text) start, length-drop start text))
