-- What finding one field answers, from what a message holds there.
use Rattle.std.specs.Prelude.{◌≡◌, Bool, leb, List, ℕ, ◌+◌, ◌≤◌, length, Option, Some, None, Result, Ok, Err}
use Rattle.octets.specs.Believed.Choice.{both}
use Rattle.octets.specs.Believed.Answers.{fault as fault_at}
use Rattle.octets.specs.declared.answers.Fault.{Fault}
use Rattle.records.specs.Believed.FieldRecords.{Field}
use Rattle.records.specs.declared.field.FieldRecord.{FieldRecord}
use Rattle.header.specs.Believed.Fields.{Header, field, ended, fault, in_body, header_at}

-- a field's record
abbrev pub record_of : Field → FieldRecord
record_of f = record { name = record { start = f.name_start; end = f.name_end }; body = record { start = f.body_start; end = f.body_end } }

-- the first field, none at the header's end, or the fault
unfoldable pub first_of : Header → Result (Option FieldRecord) Fault
first_of (field f rest) = Ok (Some (record_of f))
first_of ended = Ok None
first_of (fault number position) = Err (fault_at number position)

-- the same of what found a field or a fault
abbrev pub given : Result FieldRecord Fault → Result (Option FieldRecord) Fault
given (Ok f) = Ok (Some f)
given (Err e) = Err e

-- how many fields there are, after `count` others, or the fault
unfoldable pub count_in : ℕ → Header → Result ℕ Fault
count_in count (field f rest) = count_in (count + 1) rest
count_in count ended = Ok count
count_in count (fault number position) = Err (fault_at number position)

-- a plain byte of a body neither ends it nor is a fault in it
abbrev pub plain : ℕ → Bool
plain b = both (leb 14 b) (leb b 127)

-- the bytes from one position up to another are a body's, so it goes on from there
pub record GoesOn (message : List ℕ) (at r : ℕ) : Type 0 where
  pub from : at ≤ r
  pub within : r ≤ length message
  pub same : (name end start : ℕ) → header_at message at (in_body name end start) ≡ header_at message r (in_body name end start)

-- how many fields are stored beside the table first
abbrev pub staged_fields : ℕ
staged_fields = 256
