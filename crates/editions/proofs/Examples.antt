-- The examples of the request, from bytes to answer and records, in one table with one statement over its rows. Assumes nothing.
use Prim.Native.Nat.{ℕ, ◌*◌}
use mathlib.Core.Path.{◌≡◌, refl}
use mathlib.Core.Bool.{Bool, true}
use mathlib.Core.List.{List, [], ◌∷◌, ◌++◌}
use lib.Dec.{eqb}
use lib.ListN.{length, replicate}
use lib.Seq.{sets}
use Rattle.octets.specs.Believed.Choice.{both}
use Rattle.octets.specs.Believed.Classes.{class_of, class_table, class_of822, class_table822}
use Rattle.records.specs.Believed.AddressRecords.{address_record_size}
use Rattle.octets.specs.Believed.Letters.{lower, same, same_bytes}
use Rattle.octets.specs.Believed.Text.{bytes}
use Rattle.octets.specs.Believed.Answers.{number_of, position_of, count_of}
use Rattle.records.specs.Believed.AddressRecords.{AddressRecord, record_by, table_bytes}
use Rattle.scanner.specs.Believed.Kinds.{kind_of}
use Rattle.scanner.specs.Believed.Characters.{characters_from}
use Rattle.scanner.specs.Believed.Scanning.{scan_from, parted, symbols_of}
use Rattle.scanner.specs.Believed.Answers.{unless_fault}
use Rattle.editions.specs.Believed.Outcome.{outcome_of}

-- number and position, and the records, with room for four
record Row : Type 0 where
  edition : ℕ
  body : List ℕ
  number : ℕ
  position : ℕ
  records : List AddressRecord

abbrev lent : List ℕ
lent = replicate (4 * address_record_size) 170

abbrev right : Row → Bool
right r =
    let o = outcome_of r.edition r.body 0 (length r.body) lent in
    both (eqb (number_of o.answer) r.number) (both (eqb (position_of o.answer) r.position) (both (eqb (count_of o.answer) (length r.records))
    (same_bytes o.table (sets lent 0 (table_bytes r.records)))))

abbrev all : List Row → Bool
all [] = true
all (r ∷ rs) = both (right r) (all rs)

abbrev gives : List ℕ → List AddressRecord → Row
gives body records = record { edition = 822; body = body; number = 0; position = 0; records = records }

abbrev refuses : List ℕ → ℕ → ℕ → Row
refuses body number position = record { edition = 822; body = body; number = number; position = position; records = [] }

abbrev examples : List Row
examples =
    gives (bytes "a.b@c.d") (record_by 1 0 0 0 7 0 3 ∷ [])
    ∷ gives (bytes "x:a@b,,y<c@d>;") (record_by 3 0 0 0 14 0 1 ∷ record_by 1 1 1 2 5 2 3 ∷ record_by 2 1 1 7 13 7 8 ∷ record_by 1 2 3 9 12 9 10 ∷ [])
    ∷ refuses (bytes "x:y:;;") 8 3
    ∷ refuses (bytes ":;") 8 0
    ∷ refuses (bytes "a@\"b\"") 8 2
    ∷ refuses (bytes "J. Smith <a@b>") 8 9
    ∷ refuses (bytes "a at b") 9 6
    ∷ gives (bytes "at@at") (record_by 1 0 0 0 5 0 2 ∷ [])
    ∷ refuses (bytes "\"q\"") 9 3
    ∷ refuses (bytes "a@b@c") 8 3
    ∷ refuses (bytes "a b@c") 8 3
    ∷ refuses (bytes "a@[1[2]") 23 2
    ∷ gives (bytes "a@[1\\[2]") (record_by 1 0 0 0 8 0 1 ∷ [])
    ∷ refuses (bytes "a@[" ++ (13 ∷ bytes "]")) 7 3
    ∷ refuses (bytes "a@[" ++ (255 ∷ bytes "[")) 3 3
    ∷ refuses (bytes "a@[[" ++ (255 ∷ [])) 23 2
    ∷ refuses (bytes "a b [") 23 4
    ∷ refuses (bytes "[a]@b") 8 0
    ∷ gives (bytes "a . b @ c . d") (record_by 1 0 0 0 13 0 5 ∷ [])
    ∷ refuses (bytes "<a@b>") 8 0
    ∷ gives (bytes "x <,@a,,@b,:c@d>") (record_by 2 0 0 0 16 0 1 ∷ record_by 1 1 1 12 15 12 13 ∷ [])
    ∷ refuses (bytes "x<,:c@d>") 8 3
    ∷ refuses (bytes "a]") 8 1
    ∷ gives (bytes "a@[ x" ++ (13 ∷ 10 ∷ bytes " y ]. z")) (record_by 1 0 0 0 14 0 1 ∷ [])
    ∷ record { edition = 66269; body = bytes "a"; number = 21; position = 0; records = [] }
    ∷ record { edition = 733; body = bytes "a.b at [c]"; number = 0; position = 0; records = record_by 1 0 0 0 10 0 3 ∷ [] }
    ∷ []

pub examples_hold : all examples ≡ true
unfolding class_of class_table class_of822 class_table822 kind_of characters_from scan_from parted symbols_of unless_fault lower same
examples_hold = refl
