-- Whether the machine takes a symbol hangs on its class alone, and it takes an atom where it takes a quoted-string. Assumes nothing.
use Prim.Native.Nat.{ℕ}
use mathlib.Core.Path.{◌≡◌, refl}
use mathlib.Core.Bool.{Bool, true, false}
use mathlib.Core.Option.{Option, none, some}
use Rattle.grammar.specs.Executable.Trees733.{Class, Atom, Quoted, At, LessThan, GreaterThan, Comma, Semicolon, Colon, Stray, Dot, Literal, Lexeme, Word, atom_word, quoted_word, Phrase, AddressList, idle, full}
use Rattle.grammar.specs.Executable.Machine733.{Here, Level, State, list, phrase, first_at, next_at, node, want, Spot, Began, complete, begun, on_word, on_at, on_comma, on_greater_than, on_semicolon, on_less_than, on_colon, in_list, in_typed, entered, within_limit, end_angle, end_group, top, in_angle, in_group, phrase_colon, step_on}
use Rattle.octets.specs.Believed.Choice.{either}
use Rattle.expected.specs.Believed.Things.{word}
use Rattle.expected.specs.Executable.Named.{goes, takes, named_at}

-- ---- each class

-- a word, an atom or a quoted-string
pub word_any : (s : State) (v w : Word) → goes (on_word s v) ≡ goes (on_word s w)
word_any (list k (idle r)) v w = refl
word_any (list k (full r a)) v w = refl
word_any (phrase h p) v w = refl
word_any (first_at h p t) v w = refl
word_any (next_at h p m t) v w = refl
word_any (node h p m) v w = refl
word_any (want h t a u) v w = refl

at_any : (s : State) (t u : Lexeme) → goes (on_at s t) ≡ goes (on_at s u)
at_any (list k l) t u = refl
at_any (phrase h p) t u = refl
at_any (first_at h p v) t u = refl
at_any (next_at h p m v) t u = refl
at_any (node h p m) t u = refl
at_any (want h v a w) t u = refl

entered_any : (b : Bool) (k k' : Level) → goes (entered b k) ≡ goes (entered b k')
entered_any true k k' = refl
entered_any false k k' = refl

less_any : (n : ℕ) (s : State) (t u : Lexeme) → goes (on_less_than n s t) ≡ goes (on_less_than n s u)
less_any n (list k (idle r)) t u = entered_any (within_limit n (in_angle (in_list k r) none t)) _ _
less_any n (list k (full r a)) t u = refl
less_any n (phrase h p) t u = entered_any (within_limit n (in_angle h (some p) t)) _ _
less_any n (first_at h p v) t u = refl
less_any n (next_at h p m v) t u = refl
less_any n (node h p m) t u = refl
less_any n (want h v a w) t u = entered_any (within_limit n (in_angle (in_typed h v a w) none t)) _ _

phrase_colon_any : (n : ℕ) (h : Here) (p : Phrase) (t u : Lexeme) (o : Option Began) → goes (phrase_colon n h p t o) ≡ goes (phrase_colon n h p u o)
phrase_colon_any n h p t u none = entered_any (within_limit n (in_group h (some p) t)) _ _
phrase_colon_any n h p t u (some b) = refl

colon_any : (n : ℕ) (s : State) (t u : Lexeme) → goes (on_colon n s t) ≡ goes (on_colon n s u)
colon_any n (list k (idle r)) t u = entered_any (within_limit n (in_group (in_list k r) none t)) _ _
colon_any n (list k (full r a)) t u = refl
colon_any n (phrase h p) t u = phrase_colon_any n h p t u (begun h p)
colon_any n (first_at h p v) t u = refl
colon_any n (next_at h p m v) t u = refl
colon_any n (node h p m) t u = refl
colon_any n (want h v a w) t u = entered_any (within_limit n (in_group (in_typed h v a w) none t)) _ _

comma_any : (o : Option Spot) (t u : Lexeme) → goes (on_comma o t) ≡ goes (on_comma o u)
comma_any none t u = refl
comma_any (some p) t u = refl

angle_any : (k : Level) (l : AddressList) (t u : Lexeme) → goes (end_angle k l t) ≡ goes (end_angle k l u)
angle_any top l t u = refl
angle_any (in_angle h o v) l t u = refl
angle_any (in_group h o v) l t u = refl

group_any : (k : Level) (l : AddressList) (t u : Lexeme) → goes (end_group k l t) ≡ goes (end_group k l u)
group_any top l t u = refl
group_any (in_angle h o v) l t u = refl
group_any (in_group h o v) l t u = refl

greater_any : (o : Option Spot) (t u : Lexeme) → goes (on_greater_than o t) ≡ goes (on_greater_than o u)
greater_any none t u = refl
greater_any (some p) t u = angle_any p.level p.sofar t u

semicolon_any : (o : Option Spot) (t u : Lexeme) → goes (on_semicolon o t) ≡ goes (on_semicolon o u)
semicolon_any none t u = refl
semicolon_any (some p) t u = group_any p.level p.sofar t u

pub step_any : (n : ℕ) (s : State) (c : Class) (t u : Lexeme) → goes (step_on n s c t) ≡ goes (step_on n s c u)
step_any n s Atom t u = word_any s (atom_word t) (atom_word u)
step_any n s Quoted t u = word_any s (quoted_word t) (quoted_word u)
step_any n s At t u = at_any s t u
step_any n s LessThan t u = less_any n s t u
step_any n s GreaterThan t u = greater_any (complete s) t u
step_any n s Comma t u = comma_any (complete s) t u
step_any n s Semicolon t u = semicolon_any (complete s) t u
step_any n s Colon t u = colon_any n s t u
step_any n s Stray t u = refl
step_any n s Dot t u = refl
step_any n s Literal t u = refl

-- ---- in any state

-- an atom is taken where a quoted-string is
pub word_same : (n : ℕ) (s : State) → takes n s Atom ≡ takes n s Quoted
word_same n s = word_any s _ _

-- .. so one of them tells whether a word is
pub word_by_atom : (n : ℕ) (s : State) → takes n s Atom ≡ named_at n s word
word_by_atom n s = both_same (takes n s Atom) (takes n s Quoted) (word_same n s)
  where
    both_same : (a b : Bool) → a ≡ b → a ≡ either a b
    both_same true b e = refl
    both_same false b e = e
