-- Examples of the request, in one table with one statement over its rows; `check_expansion` runs these and more. Assumes nothing.
use Prim.Native.Nat.{ℕ, ◌-◌}
use mathlib.Core.Path.{◌≡◌, refl}
use mathlib.Core.Bool.{Bool, true}
use mathlib.Core.List.{List, [], ◌∷◌, ◌++◌}
use lib.Dec.{eqb}
use lib.ListN.{length, replicate}
use Rattle.octets.specs.Believed.Choice.{both}
use Rattle.octets.specs.Believed.Classes.{class_of, class_table}
use Rattle.octets.specs.Believed.Letters.{lower, same, same_bytes}
use Rattle.octets.specs.Believed.Numbers.{store_record_size, store_name_size}
use Rattle.octets.specs.Believed.Text.{bytes}
use Rattle.octets.specs.Believed.Answers.{number_of, position_of, count_of}
use Rattle.scanner.specs.Believed.Kinds.{kind_of}
use Rattle.scanner.specs.Believed.Characters.{characters_from}
use Rattle.scanner.specs.Believed.Scanning.{scan_from, symbols_of, parted}
use Rattle.scanner.specs.Believed.Answers.{unless_fault}
use Rattle.expansion.specs.Believed.Outcome.{expand_outcome}

-- a record of a store: its name padded with zeros, its list with spaces
abbrev stored : List ℕ → List ℕ → List ℕ
stored name list = name ++ (replicate (store_name_size - length name) 0 ++ (list ++ replicate (store_record_size - store_name_size - length list) 32))

abbrev X : List ℕ
X = bytes ":Include: a at x"

-- number, position, count, text and openings, with this room
record Row : Type 0 where
  body : List ℕ
  store : List ℕ
  room : ℕ
  number : ℕ
  position : ℕ
  count : ℕ
  text : List ℕ
  openings : ℕ

abbrev right : Row → Bool
right r =
    let o = expand_outcome r.body 0 (length r.body) r.store (replicate r.room 170) in
    both (eqb (number_of o.answer) r.number) (both (eqb (position_of o.answer) r.position) (both (eqb (count_of o.answer) r.count)
    (both (same_bytes o.text (r.text ++ replicate (r.room - length r.text) 170)) (eqb o.openings r.openings))))

abbrev all : List Row → Bool
all [] = true
all (r ∷ rs) = both (right r) (all rs)

-- accepted with a text, refused, or short of room
abbrev gives : List ℕ → List ℕ → List ℕ → ℕ → Row
gives body store text openings = record { body = body; store = store; room = 200; number = 0; position = 0; count = length text; text = text; openings = openings }

abbrev refuses : List ℕ → List ℕ → ℕ → ℕ → ℕ → Row
refuses body store n p openings = record { body = body; store = store; room = 200; number = n; position = p; count = 0; text = []; openings = openings }

abbrev rows : List Row
rows =
    gives (bytes "u@v," ++ (X ++ bytes ",w@y")) (stored (bytes "a at x") []) (bytes "u at v, w at y") 1
    ∷ gives (bytes ": " ++ (X ++ bytes ";")) (stored (bytes "a at x") (bytes "A: i@j;")) (bytes ":, A: i at j;;") 1
    ∷ gives (bytes ": " ++ (X ++ bytes ", A: b@c;;")) (stored (bytes "a at x") (bytes ",")) (bytes ":, A: b at c;;") 1
    ∷ refuses (bytes "\"\", " ++ X) (stored (bytes "a at x") (bytes "\"\", \"\", :Include: no at no")) 19 4 1
    ∷ refuses (bytes "\"\", " ++ X) (stored (bytes "a at x") (bytes "\"\", :Include: b@y") ++ stored (bytes "b at y") (bytes "a@b c")) 8 1 1
    ∷ refuses X (stored [] [] ++ stored (bytes "a at x") (replicate 65 60 ++ replicate 65 62)) 10 1 0
    ∷ refuses (bytes "<" ++ (X ++ bytes ">")) (stored (bytes "a at x") (replicate 64 60 ++ replicate 64 62)) 10 1 0
    ∷ refuses (replicate 63 60 ++ (X ++ replicate 63 62)) (stored (bytes "a at x") (bytes ":Include:<b at y>") ++ stored (bytes "b at y") []) 10 63 0
    ∷ gives (replicate 63 60 ++ (X ++ replicate 63 62)) (stored (bytes "a at x") (bytes ":Include:b at y") ++ stored (bytes "b at y") []) (replicate 63 60 ++ replicate 63 62) 2
    ∷ refuses (bytes ":Postal: " ++ X) (stored (bytes "a at x") (bytes "m@h")) 19 9 0
    ∷ refuses (bytes ":Include: " ++ X) (stored (bytes "a at x") (bytes "m@h")) 19 0 0
    ∷ gives (bytes ":Postal:<" ++ (X ++ bytes ">")) (stored (bytes "a at x") (bytes "m@h")) (bytes ":Postal: <m at h>") 1
    ∷ refuses (bytes ":Include:<a at x,\"q\">") (stored (bytes "a at x") []) 19 0 0
    ∷ gives (bytes ":Include: p <zz at z, a@x>") (stored (bytes "b") [] ++ (stored (bytes "a at x") (bytes "m@h") ++ stored (bytes "a at x") (bytes "n@h"))) (bytes "m at h") 1
    ∷ gives (bytes ":Include:<b@y,a@x>") (stored (bytes "a at x") (bytes "m@h") ++ stored (bytes "b at y") (bytes "n@h")) (bytes "n at h") 1
    ∷ refuses (bytes ":Include: A at x") (stored (bytes "a at x") []) 19 0 0
    ∷ refuses (bytes ":Include:<>") (stored [] []) 19 0 0
    ∷ refuses X (stored (bytes "a at x") (bytes "m@h" ++ (0 ∷ []))) 7 0 0
    ∷ gives (bytes ":Include: " ++ (replicate 59 97 ++ bytes " at x")) (stored (replicate 59 97 ++ bytes " at x") (bytes "m@h")) (bytes "m at h") 1
    ∷ refuses X (stored (bytes "a at x ") []) 19 0 0
    ∷ refuses X (stored (bytes "a at x") X) 20 0 64
    ∷ record { body = X; store = stored (bytes "a at x") (bytes "m@h"); room = 5; number = 11; position = 0; count = 6; text = []; openings = 1 }
    ∷ []

pub examples_hold : all rows ≡ true
unfolding kind_of class_table class_of characters_from scan_from parted symbols_of unless_fault lower same
examples_hold = refl
