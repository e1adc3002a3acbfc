-- Texts and what each of their bytes is, worked out by hand from document 02, in one table with one statement over its rows. Assumes nothing.
use mathlib.Core.Path.{◌≡◌, refl}
use mathlib.Core.List.{List, [], ◌∷◌, ◌++◌}
use Prim.Native.Nat.{ℕ, ◌+◌}
use lib.ListN.{length, replicate}
use Rattle.octets.specs.Believed.Classes.{class_of, class_table}
use Rattle.octets.specs.Believed.Letters.{lower, same}
use Rattle.octets.specs.Believed.Text.{bytes}
use Rattle.scanner.specs.Believed.Kinds.{kind_of}
use Rattle.scanner.specs.Believed.Characters.{characters_from}
use Rattle.scanner.specs.Believed.Scanning.{scan_from, parted}
use Rattle.scanner.specs.Believed.Answers.{unless_fault}
use Rattle.scanner.specs.Believed.Categories.{between, category_of, category_at}
use Rattle.scanner.specs.declared.Category.{Category}
use Rattle.scanner.specs.declared.Category.TheVariants.{White, Comment, Word, At, Mark, Nothing}
use Rattle.scanner.proofs.Examples.{crlf}

-- a message, a body of it, and what each place from the message's first byte to the position after its last is
pub record Row : Type 0 where
  pub message : List ℕ
  pub start : ℕ
  pub end : ℕ
  pub told : List Category

pub row : List ℕ → ℕ → ℕ → List Category → Row
row message start end told = record { message = message; start = start; end = end; told = told }

-- a message that is a body
pub whole : List ℕ → List Category → Row
whole message told = row message 0 (length message) told

-- what the places from p on are, one for each byte left and one more
pub told_from : List ℕ → ℕ → ℕ → ℕ → List ℕ → List Category
told_from message start end p [] = category_at message start end p ∷ []
told_from message start end p (b ∷ rest) = category_at message start end p ∷ told_from message start end (p + 1) rest

-- each place is what stands beside its text
pub data Right : List Row → Type 0 where
  none : Right []
  and : {r : Row} {rows : List Row} → told_from r.message r.start r.end 0 r.message ≡ r.told → Right rows → Right (r ∷ rows)

-- words and marks
marks : Row
marks = whole (bytes "g:<a@b>,;") (Word ∷ Mark ∷ Mark ∷ Word ∷ Mark ∷ Word ∷ Mark ∷ Mark ∷ Mark ∷ Nothing ∷ [])

-- parentheses are comment, quotes are word
quotes : Row
quotes = whole (bytes "(x) \"q\"") (Comment ∷ Comment ∷ Comment ∷ White ∷ Word ∷ Word ∷ Word ∷ Nothing ∷ [])

-- "at" in any case of letters; quoted it is a word
at_alone : Row
at_alone = whole (bytes "a At b") (Word ∷ White ∷ At ∷ At ∷ White ∷ Word ∷ Nothing ∷ [])

at_quoted : Row
at_quoted = whole (bytes "\"at\"@b") (Word ∷ Word ∷ Word ∷ Word ∷ Mark ∷ Word ∷ Nothing ∷ [])

-- a fold between symbols, in a comment and in a quoted-string
fold_between : Row
fold_between = whole (bytes "a@b," ++ (crlf ++ bytes " c@d")) (Word ∷ Mark ∷ Word ∷ Mark ∷ White ∷ White ∷ White ∷ Word ∷ Mark ∷ Word ∷ Nothing ∷ [])

fold_in_comment : Row
fold_in_comment = whole (bytes "(" ++ (crlf ++ bytes "\t) a")) (Comment ∷ Comment ∷ Comment ∷ Comment ∷ Comment ∷ White ∷ Word ∷ Nothing ∷ [])

fold_in_quoted : Row
fold_in_quoted = whole (bytes "\"" ++ (crlf ++ bytes " \" a")) (Word ∷ Word ∷ Word ∷ Word ∷ Word ∷ White ∷ Word ∷ Nothing ∷ [])

-- comments right after an atom, one in another, with what backslashes take, and at the end
comments : Row
comments = whole (bytes "a(b(\\)))c () ") (Word ∷ Comment ∷ Comment ∷ Comment ∷ Comment ∷ Comment ∷ Comment ∷ Comment ∷ Word ∷ White ∷ Comment ∷ Comment ∷ White ∷ Nothing ∷ [])

-- no symbol at all
no_symbol : Row
no_symbol = whole (bytes " (,) ") (White ∷ Comment ∷ Comment ∷ Comment ∷ White ∷ Nothing ∷ [])

-- a symbol that fits no rule
stray : Row
stray = whole (bytes "a )") (Word ∷ White ∷ Nothing ∷ Nothing ∷ [])

-- a fault, before or after the place
faulty : Row
faulty = whole (bytes "a \"b") (replicate 5 Nothing)

-- places outside the body
inner : Row
inner = row (bytes "To: a@b c") 4 7 (Nothing ∷ Nothing ∷ Nothing ∷ Nothing ∷ Word ∷ Mark ∷ Word ∷ Nothing ∷ Nothing ∷ Nothing ∷ [])

-- no such body
out_of_order : Row
out_of_order = row (bytes "a@b") 0 4 (replicate 4 Nothing)

pub table : List Row
table =
    marks ∷ quotes ∷ at_alone ∷ at_quoted ∷ fold_between ∷ fold_in_comment ∷ fold_in_quoted ∷ comments ∷ no_symbol ∷ stray ∷ faulty ∷ inner ∷ out_of_order ∷ []

pub right : Right table
unfolding crlf row whole told_from marks quotes at_alone at_quoted fold_between fold_in_comment fold_in_quoted comments no_symbol stray faulty inner out_of_order table between category_of unless_fault parted scan_from characters_from kind_of class_of class_table lower same
right =
    and refl (and refl (and refl (and refl (and refl (and refl (and refl (and refl (and refl (and refl (and refl (and refl (and refl none))))))))))))
