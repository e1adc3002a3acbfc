-- The bytes of records, as document 01 has them. Assumes nothing.
use mathlib.Core.Path.{◌≡◌, refl}
use mathlib.Core.List.{[], ◌∷◌}
use Rattle.records.specs.Believed.FieldRecords.{field_of, field_table}
use Rattle.records.specs.Believed.AddressRecords.{record_by, table_bytes}

-- the one field of `To: Al at X` CRLF
field_bytes : field_table (field_of 0 2 3 11 ∷ []) ≡ 0 ∷ 0 ∷ 0 ∷ 2 ∷ 0 ∷ 3 ∷ 0 ∷ 11 ∷ []
field_bytes = refl

-- the bytes of example 8's records
example8_bytes : table_bytes (record_by 3 0 0 0 6 0 0 ∷ record_by 3 1 1 2 5 2 3 ∷ [])
    ≡ 3 ∷ 0 ∷ 0 ∷ 0 ∷ 0 ∷ 0 ∷ 0 ∷ 6 ∷ 0 ∷ 0 ∷ 0 ∷ 0 ∷ 3 ∷ 1 ∷ 0 ∷ 1 ∷ 0 ∷ 2 ∷ 0 ∷ 5 ∷ 0 ∷ 2 ∷ 0 ∷ 3 ∷ []
example8_bytes = refl
