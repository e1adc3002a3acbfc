-- Document 02, CR 4: the length of a symbol's meaning and whether it stands apart, worked out by hand, in one table with one statement over its rows. Assumes nothing.
use mathlib.Core.Path.{◌≡◌, refl}
use mathlib.Core.Bool.{true, false}
use mathlib.Core.List.{List, [], ◌∷◌, ◌++◌}
use Prim.Native.Nat.{ℕ}
use Rattle.octets.specs.Believed.Classes.{class_of, class_table}
use Rattle.octets.specs.Believed.Letters.{lower, same}
use Rattle.octets.specs.Believed.Text.{bytes}
use Rattle.scanner.specs.Believed.Kinds.{kind_of}
use Rattle.scanner.specs.Believed.Characters.{characters_from}
use Rattle.scanner.specs.Believed.Scanning.{taken_data, scan_from, parted, scan}
use Rattle.scanner.specs.Believed.Answers.{found_at, next_of}
use Rattle.scanner.specs.declared.Class.TheVariants.{Atom, Quoted, LessThan, Stray}
use Rattle.scanner.specs.declared.Next.{Next}
use Rattle.scanner.specs.declared.Next.TheVariants.{Ended, Fault}
use Rattle.scanner.proofs.Examples.{crlf}

-- a text, a position, and the first symbol from there on
pub record Row : Type 0 where
  pub text : List ℕ
  pub at : ℕ
  pub first : Next

abbrev row : List ℕ → ℕ → Next → Row
row text at first = record { text = text; at = at; first = first }

pub data Right : List Row → Type 0 where
  none : Right []
  and : {r : Row} {rows : List Row} → next_of (scan r.text r.at) ≡ r.first → Right rows → Right (r ∷ rows)

-- an empty quoted-string; one with a quote and a backslash, each after a backslash; a fold in it, and one whose CRLF a backslash takes
abbrev lengths : List Row
lengths =
    row (bytes "\"\"") 0 (found_at Quoted 0 2 0 false)
    ∷ row (bytes "\"a\\\"b\\\\\"") 0 (found_at Quoted 0 8 4 false)
    ∷ row (bytes "\"a" ++ (crlf ++ bytes " b\"")) 0 (found_at Quoted 0 7 3 false)
    ∷ row (bytes "\"a\\" ++ (crlf ++ bytes " b\"")) 0 (found_at Quoted 0 8 5 false)
    ∷ row (bytes ")") 0 (found_at Stray 0 1 1 false)
    ∷ row (bytes "\\") 0 (found_at Stray 0 1 1 false)
    ∷ row (bytes "BBN-TENEXA") 0 (found_at Atom 0 10 10 false)
    ∷ []

-- white space, a comment, a fold and all of them; a mark right before it; what stands before the position is not looked at; no symbol, and a fault
abbrev gaps : List Row
gaps =
    row (bytes " a") 0 (found_at Atom 1 2 1 true)
    ∷ row (bytes " a") 1 (found_at Atom 1 2 1 false)
    ∷ row (bytes "a(c)b") 1 (found_at Atom 4 5 1 true)
    ∷ row (bytes "a" ++ (crlf ++ bytes " b")) 1 (found_at Atom 4 5 1 true)
    ∷ row (bytes "a(()\t)" ++ (crlf ++ bytes "\t\"b\"")) 1 (found_at Quoted 9 12 1 true)
    ∷ row (bytes "<x") 0 (found_at LessThan 0 1 1 false)
    ∷ row (bytes "<x") 1 (found_at Atom 1 2 1 false)
    ∷ row (bytes "a (c) ") 1 Ended
    ∷ row (bytes "a (c") 1 (Fault 6 2)
    ∷ []

abbrev pub table : List Row
table = lengths ++ gaps

pub right : Right table
unfolding crlf parted scan_from taken_data characters_from kind_of class_of class_table lower same
right = and refl (and refl (and refl (and refl (and refl (and refl (and refl (and refl (and refl (and refl (and refl (and refl (and refl (and refl (and refl (and refl none)))))))))))))))
