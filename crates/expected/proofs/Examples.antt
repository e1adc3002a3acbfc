-- What is named for some refused bodies, by evaluation of the definitions; worked out from document 02, CR 3. Assumes nothing.
use Prim.Native.Nat.{ℕ, ◌+◌}
use mathlib.Core.Path.{◌≡◌, refl}
use mathlib.Core.List.{List, [], ◌∷◌, ◌++◌}
use lib.ListN.{length, replicate}
use Rattle.octets.specs.Believed.Classes.{class_of, class_table}
use Rattle.octets.specs.Believed.Letters.{lower, same}
use Rattle.octets.specs.Believed.Text.{bytes}
use Rattle.scanner.specs.Believed.Kinds.{kind_of}
use Rattle.scanner.specs.Believed.Characters.{characters_from}
use Rattle.scanner.specs.Believed.Scanning.{scan_from, symbols_of, parted}
use Rattle.scanner.specs.Believed.Answers.{unless_fault}
use Rattle.expected.specs.Executable.Named.{expected_in}

-- a body, read as a message of its own, and what is named for it
data Row : Type 0 where
  row : List ℕ → ℕ → Row

abbrev AllHold : List Row → Type 0
AllHold [] = Unit {0}
AllHold (row body names ∷ rows) = (expected_in body 0 (length body) ≡ names) × AllHold rows

-- so many "<", and then a text
abbrev behind : ℕ → List ℕ → List ℕ
behind many text = replicate many 60 ++ text

-- word 1, "at" 2, "<" 4, ">" 8, "@" 16, "," 32, ";" 64, ":" 128, the end 256
abbrev rows : List Row
rows =
    -- after a node nothing but "at", a comma or the end
    row (bytes "a at b c") (2 + 16 + 32 + 256)
    -- a typed address wants an address
    ∷ row (bytes ":A:;;") (1 + 4 + 128)
    -- the atom may be a typed one, or begin a name
    ∷ row (bytes ":A") (1 + 2 + 4 + 16 + 128)
    ∷ row (bytes "x") (1 + 2 + 4 + 16 + 128)
    -- at 64 levels the colon of a typed address opens nothing, and "<" would open level 65
    ∷ row (behind 63 (bytes ":A;")) (1 + 2 + 16 + 128)
    -- .. and after a quoted-string the colon would open it
    ∷ row (behind 63 (bytes ":\"A\":")) (1 + 2 + 16 + 32 + 64)
    ∷ row (behind 65 []) (1 + 8 + 32)
    -- after "at" nothing but a word
    ∷ row (bytes "a at at") 1
    -- where a list begins
    ∷ row (bytes ")") (1 + 4 + 32 + 128 + 256)
    -- a fault of scanning: nothing
    ∷ row (bytes "a (") 0
    ∷ []

rows_hold : AllHold rows
unfolding scan_from parted symbols_of characters_from kind_of class_of class_table lower same unless_fault
rows_hold = (refl, (refl, (refl, (refl, (refl, (refl, (refl, (refl, (refl, (refl, tt))))))))))
