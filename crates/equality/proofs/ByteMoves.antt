-- What a byte does in each state, by what it is there: a line for each kind of byte, once for each state. Assumes nothing.
use Prim.Native.Nat.{ℕ, suc, ◌+◌}
use mathlib.Core.Path.{◌≡◌, refl}
use mathlib.Core.Bool.{Bool, true, false}
use mathlib.Core.List.{List, [], ◌∷◌, ◌++◌}
use Rattle.octets.specs.Believed.Classes.{class_table}
use Rattle.octets.specs.Believed.Numbers.{byte_above_127, stray_control}
use Rattle.scanner.specs.Believed.Kinds.{kind_of, character_kind}
use Rattle.scanner.specs.Believed.Scanning.{State, outside, in_atom, in_quoted, taking_in_quoted, in_comment, taking_in_comment, go, halt, symbol, atom, single, move_outside, ending_with, move_in_atom, move_in_quoted, closed, move_in_comment, take}
use Rattle.scanner.specs.declared.Class.{Class}
use Rattle.scanner.specs.declared.Class.TheVariants.{Quoted, At, LessThan, GreaterThan, Comma, Semicolon, Colon, Stray}
use Rattle.plain.proofs.ByteKinds.{KindView, is_white, is_control, is_return, is_plain, is_open, is_close, is_less, is_greater, is_at, is_comma, is_semicolon, is_colon, is_backslash, is_quote, is_above, byte_view}

-- the kind of a character
pub character_view : (b : ℕ) (folded : Bool) → KindView (character_kind class_table b folded)
character_view b true = is_white
character_view b false = byte_view b

-- outside of words and comments
pub data Outside (k : _) : Type 0 where
  between : ((b p : ℕ) → move_outside k b p ≡ go [] outside) → Outside k
  begins_atom : ((b p : ℕ) → move_outside k b p ≡ go [] (in_atom p (p + 1) (b ∷ []))) → Outside k
  begins_quoted : ((b p : ℕ) → move_outside k b p ≡ go [] (in_quoted p [])) → Outside k
  begins_comment : ((b p : ℕ) → move_outside k b p ≡ go [] (in_comment 0 p)) → Outside k
  mark : (c : Class) → ((b p : ℕ) → move_outside k b p ≡ go (single c b p ∷ []) outside) → Outside k
  faulty : (n : ℕ) → ((b p : ℕ) → move_outside k b p ≡ halt [] n p) → Outside k

pub outside_by : {k : _} → KindView k → Outside k
unfolding kind_of
outside_by is_white = between (λ b p. refl)
outside_by is_control = faulty stray_control (λ b p. refl)
outside_by is_return = faulty stray_control (λ b p. refl)
outside_by is_plain = begins_atom (λ b p. refl)
outside_by is_open = begins_comment (λ b p. refl)
outside_by is_close = mark Stray (λ b p. refl)
outside_by is_less = mark LessThan (λ b p. refl)
outside_by is_greater = mark GreaterThan (λ b p. refl)
outside_by is_at = mark At (λ b p. refl)
outside_by is_comma = mark Comma (λ b p. refl)
outside_by is_semicolon = mark Semicolon (λ b p. refl)
outside_by is_colon = mark Colon (λ b p. refl)
outside_by is_backslash = mark Stray (λ b p. refl)
outside_by is_quote = begins_quoted (λ b p. refl)
outside_by is_above = faulty byte_above_127 (λ b p. refl)

-- in an atom
pub data InAtom (k : _) : Type 0 where
  goes_on : ((start end : ℕ) (t : List ℕ) (b p : ℕ) → move_in_atom k start end t b p ≡ go [] (in_atom start (p + 1) (t ++ (b ∷ [])))) → InAtom k
  ends : ((start end : ℕ) (t : List ℕ) (b p : ℕ) → move_in_atom k start end t b p ≡ ending_with (atom start end t) (move_outside k b p)) → InAtom k

pub atom_by : {k : _} → KindView k → InAtom k
unfolding kind_of
atom_by is_white = ends (λ s e t b p. refl)
atom_by is_control = ends (λ s e t b p. refl)
atom_by is_return = ends (λ s e t b p. refl)
atom_by is_plain = goes_on (λ s e t b p. refl)
atom_by is_open = ends (λ s e t b p. refl)
atom_by is_close = ends (λ s e t b p. refl)
atom_by is_less = ends (λ s e t b p. refl)
atom_by is_greater = ends (λ s e t b p. refl)
atom_by is_at = ends (λ s e t b p. refl)
atom_by is_comma = ends (λ s e t b p. refl)
atom_by is_semicolon = ends (λ s e t b p. refl)
atom_by is_colon = ends (λ s e t b p. refl)
atom_by is_backslash = ends (λ s e t b p. refl)
atom_by is_quote = ends (λ s e t b p. refl)
atom_by is_above = ends (λ s e t b p. refl)

-- in a quoted-string
pub data InQuoted (k : _) : Type 0 where
  datum : ((start : ℕ) (t : List ℕ) (b p : ℕ) → move_in_quoted k start t b p ≡ go [] (in_quoted start (t ++ (b ∷ [])))) → InQuoted k
  takes : ((start : ℕ) (t : List ℕ) (b p : ℕ) → move_in_quoted k start t b p ≡ go [] (taking_in_quoted start t)) → InQuoted k
  closes : ((start : ℕ) (t : List ℕ) (b p : ℕ) → move_in_quoted k start t b p ≡ go (symbol Quoted start (p + 1) t ∷ []) outside) → InQuoted k
  faulty : (n : ℕ) → ((start : ℕ) (t : List ℕ) (b p : ℕ) → move_in_quoted k start t b p ≡ halt [] n p) → InQuoted k

pub quoted_by : {k : _} → KindView k → InQuoted k
unfolding kind_of
quoted_by is_white = datum (λ s t b p. refl)
quoted_by is_control = datum (λ s t b p. refl)
quoted_by is_return = faulty stray_control (λ s t b p. refl)
quoted_by is_plain = datum (λ s t b p. refl)
quoted_by is_open = datum (λ s t b p. refl)
quoted_by is_close = datum (λ s t b p. refl)
quoted_by is_less = datum (λ s t b p. refl)
quoted_by is_greater = datum (λ s t b p. refl)
quoted_by is_at = datum (λ s t b p. refl)
quoted_by is_comma = datum (λ s t b p. refl)
quoted_by is_semicolon = datum (λ s t b p. refl)
quoted_by is_colon = datum (λ s t b p. refl)
quoted_by is_backslash = takes (λ s t b p. refl)
quoted_by is_quote = closes (λ s t b p. refl)
quoted_by is_above = faulty byte_above_127 (λ s t b p. refl)

-- in a comment
pub data InComment (k : _) : Type 0 where
  stays : ((d s p : ℕ) → move_in_comment k d s p ≡ go [] (in_comment d s)) → InComment k
  opens : ((d s p : ℕ) → move_in_comment k d s p ≡ go [] (in_comment (suc d) s)) → InComment k
  closes : ((d s p : ℕ) → move_in_comment k d s p ≡ go [] (closed d s)) → InComment k
  takes : ((d s p : ℕ) → move_in_comment k d s p ≡ go [] (taking_in_comment d s)) → InComment k
  faulty : (n : ℕ) → ((d s p : ℕ) → move_in_comment k d s p ≡ halt [] n p) → InComment k

pub comment_by : {k : _} → KindView k → InComment k
unfolding kind_of
comment_by is_white = stays (λ d s p. refl)
comment_by is_control = stays (λ d s p. refl)
comment_by is_return = faulty stray_control (λ d s p. refl)
comment_by is_plain = stays (λ d s p. refl)
comment_by is_open = opens (λ d s p. refl)
comment_by is_close = closes (λ d s p. refl)
comment_by is_less = stays (λ d s p. refl)
comment_by is_greater = stays (λ d s p. refl)
comment_by is_at = stays (λ d s p. refl)
comment_by is_comma = stays (λ d s p. refl)
comment_by is_semicolon = stays (λ d s p. refl)
comment_by is_colon = stays (λ d s p. refl)
comment_by is_backslash = takes (λ d s p. refl)
comment_by is_quote = stays (λ d s p. refl)
comment_by is_above = faulty byte_above_127 (λ d s p. refl)

-- after a backslash
pub data Behind (k : _) : Type 0 where
  taken : ((state : State) (p : ℕ) → take k state p ≡ go [] state) → Behind k
  faulty : (n : ℕ) → ((state : State) (p : ℕ) → take k state p ≡ halt [] n p) → Behind k

pub behind_by : {k : _} → KindView k → Behind k
unfolding kind_of
behind_by is_white = taken (λ state p. refl)
behind_by is_control = taken (λ state p. refl)
behind_by is_return = taken (λ state p. refl)
behind_by is_plain = taken (λ state p. refl)
behind_by is_open = taken (λ state p. refl)
behind_by is_close = taken (λ state p. refl)
behind_by is_less = taken (λ state p. refl)
behind_by is_greater = taken (λ state p. refl)
behind_by is_at = taken (λ state p. refl)
behind_by is_comma = taken (λ state p. refl)
behind_by is_semicolon = taken (λ state p. refl)
behind_by is_colon = taken (λ state p. refl)
behind_by is_backslash = taken (λ state p. refl)
behind_by is_quote = taken (λ state p. refl)
behind_by is_above = faulty byte_above_127 (λ state p. refl)
