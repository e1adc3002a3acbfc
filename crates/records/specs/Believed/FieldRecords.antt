-- Document 01, "Fields": the field record.
use Rattle.std.specs.Prelude.{ℕ, List, [], ◌∷◌, get_or}
use Rattle.octets.specs.Believed.Numbers.{number_width}
use Rattle.records.specs.Believed.Layout.{Layout, number, size_in, bytes_in, table_in, record_at, record_with}

-- where a field's name and body start and end
pub record Field : Type 0 where
  pub name_start : ℕ
  pub name_end : ℕ
  pub body_start : ℕ
  pub body_end : ℕ

-- the field with these positions
abbrev pub field_of : ℕ → ℕ → ℕ → ℕ → Field
field_of name_start name_end body_start body_end =
    record { name_start = name_start; name_end = name_end; body_start = body_start; body_end = body_end }

-- .. of zeros: what is read past the records
abbrev pub no_field : Field
no_field = field_of 0 0 0 0

-- name start, name end, body start, body end, each high byte first
abbrev pub field_layout : Layout Field
field_layout =
    record {
      parts = number number_width ∷ number number_width ∷ number number_width ∷ number number_width ∷ [];
      numbers = λ f. f.name_start ∷ f.name_end ∷ f.body_start ∷ f.body_end ∷ [];
      from = λ xs. field_of (get_or xs 0 0) (get_or xs 1 0) (get_or xs 2 0) (get_or xs 3 0);
    }

-- the bytes of a field record
abbrev pub field_record_size : ℕ
field_record_size = size_in field_layout

abbrev pub field_bytes : Field → List ℕ
field_bytes f = bytes_in field_layout f

-- the bytes of a table of field records
abbrev pub field_table : List Field → List ℕ
field_table fs = table_in field_layout fs

-- the field whose record stands at a place of a table, and that whose record has a number; past its end stand zeros
abbrev pub field_from : List ℕ → ℕ → Field
field_from table at = record_at field_layout table at

abbrev pub field_in : List ℕ → ℕ → Field
field_in table i = record_with field_layout table i
