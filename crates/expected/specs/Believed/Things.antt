-- Document 02, CR 3: "what could have stood at the refused place: word, "at", each mark, or the end", over the grammar and apart
-- from any reader.
use Rattle.std.specs.Prelude.{ℕ, ◌+◌, ◌≤◌, ◌≡◌, Bool, true, List, ◌++◌}
use Rattle.octets.specs.Believed.Choice.{pick}
use Rattle.scanner.specs.Believed.Symbols.{Symbol}
use Rattle.scanner.specs.declared.Class.{Class}
use Rattle.scanner.specs.declared.Class.TheVariants.{Atom, Quoted, At, LessThan, GreaterThan, Comma, Semicolon, Colon}
use Rattle.grammar.specs.Believed.Grammar.{levels}
use Rattle.grammar.specs.Believed.Language.{AtMost, up_to, GoesOn, Refusal, refused}
use Rattle.grammar.specs.Believed.Rfc733.{Derivation, DerivedList, RightWithin}

-- ---- what may be named

-- word, "at", "@", each of the other marks, or the end of the body
pub data Thing : Type 0 where
  word at at_sign less_than greater_than comma semicolon colon body_end : Thing

-- a symbol of a class is such a thing: a word is an atom or a quoted-string; "at" and "@" are one class; the end is no symbol
pub data IsOf : Thing → Class → Type 0 where
  an_atom : IsOf word Atom
  a_quoted : IsOf word Quoted
  an_at : IsOf at At
  an_at_sign : IsOf at_sign At
  a_less_than : IsOf less_than LessThan
  a_greater_than : IsOf greater_than GreaterThan
  a_comma : IsOf comma Comma
  a_semicolon : IsOf semicolon Semicolon
  a_colon : IsOf colon Colon

-- ---- what could stand

-- some list of at most `limit` levels goes on with this symbol after these
abbrev pub GoesOnWith : ℕ → List (Symbol Class) → Symbol Class → Type 0
GoesOnWith limit before x = GoesOn DerivedList levels (AtMost limit) (up_to before x)

-- some list of at most `limit` levels goes on with such a thing after these symbols; for the end: they are such a list
pub data Could (limit : ℕ) (before : List (Symbol Class)) : Thing → Type 0 where
  goes_on : {thing : Thing} (x : Symbol Class) → IsOf thing x.class → GoesOnWith limit before x → Could limit before thing
  ends : {k : Derivation} → DerivedList k before → levels k ≤ limit → Could limit before body_end

-- a thing is named exactly if it could stand after these symbols
pub record Exactly (limit : ℕ) (before : List (Symbol Class)) (named : Thing → Bool) : Type 0 where
  pub only : (thing : Thing) → named thing ≡ true → Could limit before thing
  pub all : (thing : Thing) → Could limit before thing → named thing ≡ true

-- .. at the place where these symbols are rightly refused with 8, 9 or 10
abbrev pub ExactlyWhereRefused : ℕ → List (Symbol Class) → (Thing → Bool) → Type 0
ExactlyWhereRefused limit symbols named =
    (why : Refusal) (before rest : List (Symbol Class)) → RightWithin limit symbols (refused why rest) → symbols ≡ before ++ rest → Exactly limit before named

-- .. and at the end of symbols that are a list
abbrev pub ExactlyAtTheEnd : ℕ → List (Symbol Class) → (Thing → Bool) → Type 0
ExactlyAtTheEnd limit symbols named = (k : Derivation) → DerivedList k symbols → levels k ≤ limit → Exactly limit symbols named

-- ---- as one number

-- a number, if the thing is named
abbrev pub if_named : Bool → ℕ → ℕ
if_named named n = pick named n 0

-- the sum of what is named
abbrev pub sum_of : (Thing → Bool) → ℕ
sum_of named =
    if_named (named word) 1 + if_named (named at) 2 + if_named (named less_than) 4 + if_named (named greater_than) 8 + if_named (named at_sign) 16
    + if_named (named comma) 32 + if_named (named semicolon) 64 + if_named (named colon) 128 + if_named (named body_end) 256

-- ---- symbols that are alike here

-- two symbols of one class, or two words
pub data Alike (x y : Symbol Class) : Type 0 where
  same_class : x.class ≡ y.class → Alike x y
  both_words : IsOf word x.class → IsOf word y.class → Alike x y

-- where a list goes on with one of them it goes on with the other: an atom and a quoted-string, "at" and "@"
abbrev pub AlikeGoOn : Type 0
AlikeGoOn = (limit : ℕ) (before : List (Symbol Class)) (x y : Symbol Class) → Alike x y → GoesOnWith limit before x → GoesOnWith limit before y
