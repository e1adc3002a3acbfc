-- The kinds of bytes by cases, and which bytes are data as the plain text writes them. Assumes nothing.
use Prim.Native.Nat.{ℕ, ◌<◌}
use native.Mathlib.Decide.{dec_lt}
use native.Mathlib.Omega.{arith}
use mathlib.Core.Path.{◌≡◌, refl}
use mathlib.Core.Bool.{Bool, true, false}
use mathlib.Core.List.{List, [], ◌∷◌}
use borrow.Author.Tests.{ne_eqb}
use lib.Dec.{eqb, T}
use lib.ListN.{get_or, get_or-eq_default}
use mir.Val.{has_key}
use Rattle.octets.specs.Believed.Choice.{pick, either}
use Rattle.octets.specs.Believed.Classes.{class_of, class_table, white, control, letter, open_parenthesis, close_parenthesis, less_than, greater_than, at_sign, comma, semicolon, colon, backslash, quote, above127, dot, open_bracket, close_bracket}
use Rattle.octets.proofs.Tables.{at}
use Rattle.octets.specs.Believed.Tests.{every}
use Rattle.scanner.specs.Believed.Kinds.{kind_of_class, kind_of}
use Rattle.scanner.proofs.MoveLaws.{tag}
use Rattle.plain.specs.Believed.PlainText.{needs_backslash}

-- ---- the kinds of RFC 733 by cases

pub data KindView : _ → Type 0 where
  is_white : KindView (kind_of_class white)
  is_control : KindView (kind_of_class control)
  is_return : KindView (kind_of [] 13)
  is_plain : KindView (kind_of_class letter)
  is_open : KindView (kind_of_class open_parenthesis)
  is_close : KindView (kind_of_class close_parenthesis)
  is_less : KindView (kind_of_class less_than)
  is_greater : KindView (kind_of_class greater_than)
  is_at : KindView (kind_of_class at_sign)
  is_comma : KindView (kind_of_class comma)
  is_semicolon : KindView (kind_of_class semicolon)
  is_colon : KindView (kind_of_class colon)
  is_backslash : KindView (kind_of_class backslash)
  is_quote : KindView (kind_of_class quote)
  is_above : KindView (kind_of_class above127)

or_else : (test : Bool) {a b : _} → KindView a → KindView b → KindView (pick test a b)
or_else true x y = x
or_else false x y = y

class_view : (c : ℕ) → eqb c dot ≡ false → eqb c open_bracket ≡ false → eqb c close_bracket ≡ false → KindView (kind_of_class c)
class_view c d o e =
    or_else (eqb c white) is_white (or_else (eqb c control) is_control (or_else (eqb c open_parenthesis) is_open (or_else (eqb c close_parenthesis) is_close
    (or_else (eqb c less_than) is_less (or_else (eqb c greater_than) is_greater (or_else (eqb c at_sign) is_at (or_else (eqb c comma) is_comma
    (or_else (eqb c semicolon) is_semicolon (or_else (eqb c colon) is_colon (or_else (eqb c backslash) is_backslash (or_else (eqb c quote) is_quote
    (or_else (eqb c above127) is_above (rw (d, o, e) is_plain)))))))))))))

-- a class that the table has nowhere
abbrev is_not : ℕ → ℕ → Bool
is_not d class = pick (eqb class d) false true

is_false : (test : Bool) → T (pick test false true) → test ≡ false
is_false true h = absurd h
is_false false h = refl

absent : (d : ℕ) → T (every (λ b class. is_not d class) 0 class_table) → T (is_not d 0) → (b : ℕ) → eqb (get_or class_table b 0) d ≡ false
unfolding class_table
absent d t z b =
    elim (dec_lt b 256) [
      | yes h ↦ is_false (eqb (get_or class_table b 0) d) (at (λ b class. is_not d class) class_table 0 t b (omega arith))
      | no h ↦ rw (get_or-eq_default class_table 0 {n = b} (omega arith)) (is_false (eqb 0 d) z)
    ]

-- the kind of any byte; RFC 733 has no class for a dot or a square bracket
pub byte_view : (b : ℕ) → KindView (kind_of class_table b)
unfolding kind_of class_table class_of
byte_view b = or_else (eqb b 13) is_return (class_view (get_or class_table b 0) (absent dot tt tt b) (absent open_bracket tt tt b) (absent close_bracket tt tt b))

-- ---- data

-- the kinds of `Data` and `Taken`
abbrev pub data_keys : List ℕ
data_keys = 0 ∷ 1 ∷ 3 ∷ 4 ∷ 5 ∷ 8 ∷ 10 ∷ 11 ∷ []

abbrev pub taken_keys : List ℕ
taken_keys = 0 ∷ 1 ∷ 2 ∷ 3 ∷ 4 ∷ 5 ∷ 6 ∷ 7 ∷ 8 ∷ 10 ∷ 11 ∷ []

-- a byte of this kind is data as the plain text writes it: as it is, or after a backslash
abbrev pub fits : ℕ → ℕ → Bool
fits b n = pick (needs_backslash b) (has_key taken_keys n) (has_key data_keys n)

abbrev pub IsDatum : ℕ → Type 0
IsDatum b = T (fits b (tag (kind_of class_table b)))

-- a byte of an atom
abbrev pub IsPlain : ℕ → Type 0
IsPlain b = kind_of class_table b ≡ kind_of_class letter

-- the tag of the bytes above 127
abbrev pub above_tag : ℕ
above_tag = 9

abbrev class_tag : ℕ → ℕ → ℕ
class_tag b class = tag (pick (eqb b 13) (kind_of [] 13) (kind_of_class class))

every_fits : T (every (λ b class. either (eqb (class_tag b class) above_tag) (fits b (class_tag b class))) 0 class_table)
unfolding class_table class_of kind_of
every_fits = tt

no_other : (x y : Bool) → T (either x y) → x ≡ false → T y
no_other true y t e = absurd cc
no_other false y t e = t

-- past the table's end stands white space
past_table : (b : ℕ) → 255 < b → IsDatum b
unfolding kind_of class_table class_of
past_table b h =
    rw (ne_eqb b 34 (λ e. omega arith), ne_eqb b 92 (λ e. omega arith), ne_eqb b 13 (λ e. omega arith), ne_eqb b 10 (λ e. omega arith), get_or-eq_default class_table 0 {n = b} (omega arith)) tt

-- every byte that is not above 127 is data as the plain text writes it
pub datum : (b : ℕ) → eqb (tag (kind_of class_table b)) above_tag ≡ false → IsDatum b
unfolding kind_of
datum b e =
    elim (dec_lt b 256) [
      | yes h ↦ no_other (eqb (class_tag b (get_or class_table b 0)) above_tag) _ (at (λ b class. either (eqb (class_tag b class) above_tag) (fits b (class_tag b class))) class_table 0 every_fits b (unfold class_table in omega arith)) e
      | no h ↦ past_table b (omega arith)
    ]
