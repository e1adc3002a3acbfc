-- Document 01, "Checked examples": the lines of a message, with its address bodies read by the rules of an edition, 733 or 822. Each function
-- puts its text before the bytes `rest`.
use Rattle.std.specs.Prelude.{ℕ, List, [], ◌∷◌, ltb, ℤ, Result, Ok, Err}
use Rattle.octets.specs.Believed.Choice.{pick}
use Rattle.octets.specs.Believed.Numbers.{table_records, too_little_room}
use Rattle.octets.specs.Believed.Text.{part}
use Rattle.octets.specs.declared.answers.Answer.{Answer}
use Rattle.octets.specs.declared.answers.Answer.TheVariants.{Accepted, Refused, NoRoom}
use Rattle.octets.specs.declared.answers.Fault.{Fault}
use Rattle.records.specs.Believed.FieldRecords.{Field}
use Rattle.header.specs.Believed.Fields.{fields_of, header_of}
use Rattle.header.specs.Believed.Split.{answer_for}
use Rattle.header.specs.Believed.Names.{known_of, holds_addresses}
use Rattle.header.specs.declared.names.Known.{Known}
use Rattle.header.specs.declared.names.Known.TheVariants as known
use Rattle.scanner.specs.declared.Class.{Class}
use Rattle.grammar.specs.Believed.Grammar.{Forest}
use Rattle.grammar.specs.Believed.Records.{count, records}
use Rattle.addresses.specs.Believed.Outcome.{Outcome, refusal}
use Rattle.editions.specs.Believed.Outcome.{read_of}
use Rattle.dates.specs.Believed.Outcome.{date_answer}
use Rattle.listing.specs.Believed.Lines.{field_line, address_line, date_line, refused_line}

-- the texts of things, one after the other
unfoldable pub each : {A : Type 0} → (A → List ℕ → List ℕ) → List A → List ℕ → List ℕ
each text [] rest = rest
each text (a ∷ more) rest = text a (each text more rest)

-- ---- bodies

-- what is printed of a list: a line for each of its records, or 11 where a table has no room for them
abbrev pub listed : {N : Type 0} → List ℕ → Forest Class N → Outcome
listed rest k =
    pick (ltb table_records (count k)) (record { answer = NoRoom (count k); table = rest })
    (record { answer = Accepted (count k); table = each address_line (records k) rest })

-- what is printed if a body is accepted, else the line of the refusal
abbrev pub unless_refused : Answer → List ℕ → List ℕ
unless_refused (Accepted written) text = text
unless_refused (Refused number position) text = refused_line number position text
unless_refused (NoRoom needed) text = refused_line too_little_room 0 text

-- a body that holds an address list, by the rules of the edition with a number; of any other number it is refused
abbrev pub address_body : ℕ → List ℕ → ℕ → ℕ → List ℕ → List ℕ
address_body edition message start end rest =
    let o = read_of edition (refusal rest) (λ N k. listed rest k) message start end in
    unless_refused o.answer o.table

-- a body that holds a date, from its answer
abbrev pub date_text : Result ℤ Fault → List ℕ → List ℕ
date_text (Ok seconds) rest = date_line seconds rest
date_text (Err f) rest = refused_line f.number f.position rest

-- a body whose name holds no address list: only a date gives a line
abbrev pub other_body : Known → List ℕ → ℕ → ℕ → List ℕ → List ℕ
other_body known.Date message start end rest = date_text (date_answer message start end) rest
other_body known.From message start end rest = rest
other_body known.ReplyTo message start end rest = rest
other_body known.To message start end rest = rest
other_body known.Cc message start end rest = rest
other_body known.Bcc message start end rest = rest
other_body known.Other message start end rest = rest

-- the lines of a body, by the name of its field
abbrev pub body : ℕ → Known → List ℕ → ℕ → ℕ → List ℕ → List ℕ
body edition k message start end rest =
    pick (holds_addresses k) (address_body edition message start end rest) (other_body k message start end rest)

-- ---- headers

-- a field's line, followed by the lines of its body
unfoldable pub field_text : ℕ → List ℕ → Field → List ℕ → List ℕ
field_text edition message f rest =
    field_line f (body edition (known_of (part message f.name_start f.name_end)) message f.body_start f.body_end rest)

-- each field with its body; a refused header gives one line and nothing else
abbrev pub header_text : ℕ → List ℕ → Answer → List ℕ
header_text edition message (Accepted fields) = each (field_text edition message) (fields_of (header_of message)) []
header_text edition message (Refused number position) = refused_line number position []
header_text edition message (NoRoom needed) = refused_line too_little_room 0 []

-- what the program of an edition prints for a message
abbrev pub listing : ℕ → List ℕ → List ℕ
listing edition message = header_text edition message (answer_for table_records message)
