-- Document 01, "Addresses": the address record.
use Rattle.std.specs.Prelude.{ℕ, List, [], ◌∷◌, get_or}
use Rattle.octets.specs.Believed.Numbers.{number_width}
use Rattle.records.specs.Believed.Layout.{Layout, byte, number, offset_of, size_in, bytes_in, table_in, record_at, record_with}

-- kind; depth, the number of addresses it lies in; parent's record number plus 1, or 0; its span; the span of its name
pub record AddressRecord : Type 0 where
  pub kind : ℕ
  pub depth : ℕ
  pub parent : ℕ
  pub start : ℕ
  pub end : ℕ
  pub name_start : ℕ
  pub name_end : ℕ

-- .. of these numbers, in this order
abbrev pub record_by : ℕ → ℕ → ℕ → ℕ → ℕ → ℕ → ℕ → AddressRecord
record_by kind depth parent start end name_start name_end =
    record { kind = kind; depth = depth; parent = parent; start = start; end = end; name_start = name_start; name_end = name_end }

-- .. of zeros: what is read past the records
abbrev pub no_record : AddressRecord
no_record = record_by 0 0 0 0 0 0 0

-- a byte for kind and one for depth; then parent, start, end, name start, name end, each high byte first
abbrev pub address_layout : Layout AddressRecord
address_layout =
    record {
      parts = byte ∷ byte
          ∷ number number_width ∷ number number_width ∷ number number_width ∷ number number_width ∷ number number_width ∷ [];
      numbers = λ r. r.kind ∷ r.depth ∷ r.parent ∷ r.start ∷ r.end ∷ r.name_start ∷ r.name_end ∷ [];
      from = λ xs. record_by (get_or xs 0 0) (get_or xs 1 0) (get_or xs 2 0) (get_or xs 3 0) (get_or xs 4 0) (get_or xs 5 0) (get_or xs 6 0);
    }

-- which of its numbers the end is, and where it stands
abbrev pub end_number : ℕ
end_number = 4

abbrev pub end_offset : ℕ
end_offset = offset_of address_layout.parts end_number

-- the bytes of an address record
abbrev pub address_record_size : ℕ
address_record_size = size_in address_layout

abbrev pub record_bytes : AddressRecord → List ℕ
record_bytes r = bytes_in address_layout r

-- the bytes of a table of address records
abbrev pub table_bytes : List AddressRecord → List ℕ
table_bytes rs = table_in address_layout rs

-- the record at a place of a table, and that with a number; past its end stand zeros
abbrev pub record_from : List ℕ → ℕ → AddressRecord
record_from table at = record_at address_layout table at

abbrev pub record_in : List ℕ → ℕ → AddressRecord
record_in table i = record_with address_layout table i
