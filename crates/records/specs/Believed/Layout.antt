-- Document 01, "Stored tables are records of one fixed size, with no header": the bytes of records, over any layout.
use Rattle.std.specs.Prelude.{ℕ, ◌+◌, ◌*◌, List, [], ◌∷◌, ◌++◌, take}
use Rattle.octets.specs.Believed.Stored.{bytes_of, number_at}

-- a part of a record: one byte, or a number in so many bytes, high byte first
pub data Part : Type 0 where
  byte : Part
  number : ℕ → Part

-- the bytes that it takes
abbrev pub width_of : Part → ℕ
width_of byte = 1
width_of (number width) = width

-- .. and those of a number stored in it
abbrev pub part_bytes : Part → ℕ → List ℕ
part_bytes byte x = x ∷ []
part_bytes (number width) x = bytes_of width x

-- the bytes that parts take, one after the other
abbrev pub size_of : List Part → ℕ
size_of [] = 0
size_of (part ∷ parts) = width_of part + size_of parts

-- where the i-th of them, from 0, stands
abbrev pub offset_of : List Part → ℕ → ℕ
offset_of parts i = size_of (take i parts)

-- the bytes of numbers, each in its part; a number that is missing is 0
abbrev pub bytes_by : List Part → List ℕ → List ℕ
bytes_by [] xs = []
bytes_by (part ∷ parts) [] = part_bytes part 0 ++ bytes_by parts []
bytes_by (part ∷ parts) (x ∷ xs) = part_bytes part x ++ bytes_by parts xs

-- the numbers in the parts from an offset on, of what stands at a place of a table; past its end stand zeros
abbrev pub numbers_from : List Part → ℕ → List ℕ → ℕ → List ℕ
numbers_from [] offset table at = []
numbers_from (part ∷ parts) offset table at =
    number_at (width_of part) table (at + offset) ∷ numbers_from parts (offset + width_of part) table at

-- how records of a kind are stored: the parts of one, its numbers in their order, and the record of such numbers
pub record Layout (A : Type 0) : Type 0 where
  pub parts : List Part
  pub numbers : A → List ℕ
  pub from : List ℕ → A

module _ {A : Type 0} (layout : Layout A) where
  -- the bytes that a record takes
  abbrev pub size_in : ℕ
  size_in = size_of layout.parts

  -- the bytes of a record
  abbrev pub bytes_in : A → List ℕ
  bytes_in r = bytes_by layout.parts (layout.numbers r)

  -- the bytes of a table of records
  abbrev pub table_in : List A → List ℕ
  table_in [] = []
  table_in (r ∷ rs) = bytes_in r ++ table_in rs

  -- the record at a place of a table
  abbrev pub record_at : List ℕ → ℕ → A
  record_at table at = layout.from (numbers_from layout.parts 0 table at)

  -- the record with a number in a table
  abbrev pub record_with : List ℕ → ℕ → A
  record_with table i = record_at table (i * size_in)
