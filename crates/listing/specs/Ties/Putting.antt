-- What the functions below the entry point do.
use Rattle.std.specs.Prelude.{◌≡◌, ℕ, zero, suc, ◌+◌, ◌*◌, ◌≤◌, ◌<◌, List, [], ◌∷◌, length}
use Rattle.octets.specs.Believed.Numbers.{table_records}
use Rattle.octets.specs.Believed.Octets.{space_byte}
use Rattle.octets.specs.declared.answers.Answer.{Answer}
use Rattle.octets.specs.declared.answers.Answer.TheVariants.{Accepted, Refused, NoRoom}
use Rattle.records.specs.Believed.FieldRecords.{Field, field_in}
use Rattle.header.specs.Believed.Fields.{fields_of, header_of}
use Rattle.listing.specs.Believed.Lines.{decimal}

-- ---- bounds of what is put

-- the most bytes of a line
abbrev pub line_limit : ℕ
line_limit = 160

-- the most bytes of the lines of a body
abbrev pub body_limit : ℕ
body_limit = table_records * line_limit

-- the most bytes of the lines of a field
abbrev pub field_limit : ℕ
field_limit = line_limit + body_limit

-- ---- tables

-- `many` things by their numbers, from `i` on
unfoldable pub tabulate : {A : Type 0} → (ℕ → A) → ℕ → ℕ → List A
tabulate thing zero i = []
tabulate thing (suc many) i = thing i ∷ tabulate thing many (i + 1)

-- a number after one SPACE
abbrev pub number : ℕ → List ℕ → List ℕ
number n rest = space_byte ∷ decimal n rest

-- four numbers
abbrev pub four : ℕ → ℕ → ℕ → ℕ → List ℕ → List ℕ
four w x y z rest = number w (number x (number y (number z rest)))

-- ---- what a table of fields holds

-- the name of a field lies in its message
pub record Named (message : List ℕ) (f : Field) : Type 0 where
  pub order : f.name_start ≤ f.name_end
  pub within : f.name_end ≤ length message

-- .. of each of the first records of a table
abbrev pub AllNamed : List ℕ → List ℕ → ℕ → Type 0
AllNamed message table many = (i : ℕ) → i < many → Named message (field_in table i)

-- a table after an accepted answer holds the fields of the message
pub record Holds (message table : List ℕ) (many : ℕ) : Type 0 where
  pub few : many ≤ table_records
  pub named : AllNamed message table many
  pub are : tabulate (field_in table) many 0 ≡ fields_of (header_of message)

abbrev pub Fits : List ℕ → List ℕ → Answer → Type 0
Fits message table (Accepted many) = Holds message table many
Fits message table (Refused number position) = Unit {0}
Fits message table (NoRoom needed) = Unit {0}
