-- Examples of comments, of places where one may stand, and of words, by evaluation of the definitions; worked out from document 01, "Symbols". Assumes nothing.
use Prim.Native.Nat.{ℕ}
use mathlib.Core.Path.{◌≡◌, refl}
use mathlib.Core.Bool.{true, false}
use native.Mathlib.Omega.{arith}
use mathlib.Core.List.{List, [], ◌∷◌, ◌++◌}
use Rattle.octets.specs.Believed.Classes.{class_of, class_table}
use Rattle.octets.specs.Believed.Letters.{lower, same}
use Rattle.octets.specs.Believed.Octets.{line_feed_byte, return_byte}
use Rattle.octets.specs.Believed.Text.{bytes}
use Rattle.scanner.specs.Believed.Kinds.{kind_of}
use Rattle.scanner.specs.Believed.Characters.{characters_from}
use Rattle.plain.specs.Believed.Meaning.{Word, atom, quoted_string}
use Rattle.equality.specs.Believed.Cards.{SameWord}
use Rattle.equality.specs.Believed.Comments.{is_comment, comment_may_follow}

data Row : Type 0 where
  -- bytes that are one comment, and bytes that are not
  comment no_comment : List ℕ → Row
  -- a text whose body starts at a position, after which a comment may stand, and one after which none may
  place no_place : List ℕ → ℕ → Row
  -- two that are the same word, and two that are not
  same_word other_word : Word → Word → Row

abbrev Holds : Row → Type 0
Holds (comment b) = is_comment b ≡ true
Holds (no_comment b) = is_comment b ≡ false
Holds (place text start) = comment_may_follow text start ≡ true
Holds (no_place text start) = comment_may_follow text start ≡ false
Holds (same_word one other) = SameWord one other
Holds (other_word one other) = SameWord one other → ⊥

abbrev AllHold : List Row → Type 0
AllHold [] = Unit {0}
AllHold (row ∷ rows) = Holds row × AllHold rows

-- two texts with CRLF between them
abbrev folded : List ℕ → List ℕ → List ℕ
folded front back = front ++ (return_byte ∷ line_feed_byte ∷ back)

abbrev rows : List Row
rows =
    comment (bytes "()")
    -- a comment in it; a quote is data
    ∷ comment (bytes "(a(b)\")")
    -- a backslash takes the next byte
    ∷ comment (bytes "(\\)\\()")
    -- a fold; CRLF after a backslash is no fold, and the backslash takes the CR
    ∷ comment (folded (bytes "(") (bytes " )"))
    ∷ comment (folded (bytes "(\\") (bytes ")"))
    -- no byte, no "(", no ")"
    ∷ no_comment []
    ∷ no_comment (bytes "x")
    ∷ no_comment (bytes "(a")
    ∷ no_comment (bytes "(\\)")
    -- more than one comment, or more than a comment
    ∷ no_comment (bytes "(a)(b)")
    ∷ no_comment (bytes "(a) ")
    -- a stray CR
    ∷ no_comment (folded (bytes "(") (bytes ")"))
    -- outside, in an atom, in a comment, after a quoted-string
    ∷ place [] 0
    ∷ place (bytes "To: a at") 3
    ∷ place (bytes "a (b(\\\\") 0
    ∷ place (bytes "\"(\"") 0
    -- in a quoted-string, after a backslash there, after one in a comment, after a fault
    ∷ no_place (bytes "\"a") 0
    ∷ no_place (bytes "\"a\\") 0
    ∷ no_place (bytes "(a\\") 0
    ∷ no_place (folded (bytes "a") []) 0
    -- the meaning counts, its case and the quotes too
    ∷ same_word (quoted_string (bytes "a b")) (quoted_string (bytes "a b"))
    ∷ other_word (atom (bytes "A")) (atom (bytes "a"))
    ∷ other_word (atom (bytes "a")) (quoted_string (bytes "a"))
    ∷ other_word (quoted_string (bytes "a")) (atom (bytes "a"))
    ∷ []

-- "A" is not "a"
case_counts : SameWord (atom (bytes "A")) (atom (bytes "a")) → ⊥
case_counts e = let z : ◌≡◌ {A = ℕ} 65 97 = cc in omega (arith, z)

rows_hold : AllHold rows
unfolding characters_from kind_of class_of class_table lower same
rows_hold = (refl, (refl, (refl, (refl, (refl, (refl, (refl, (refl, (refl, (refl, (refl, (refl, (refl, (refl, (refl, (refl, (refl, (refl, (refl, (refl, (refl, (case_counts, ((λ e. e), ((λ e. e), tt))))))))))))))))))))))))
