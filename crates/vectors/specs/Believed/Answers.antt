-- The lines of an answer, of a lent part afterwards, and of symbols. Each function puts its text before the bytes `rest`.
use Rattle.std.specs.Prelude.{ℕ, zero, suc, ◌+◌, ◌*◌, ◌-◌, ◌%◌, Bool, true, List, [], ◌∷◌, ◌++◌, eqb, leb, ℤ, pos, negsuc, take, drop}
use Rattle.octets.specs.Believed.Answers.{number_of, position_of, count_of}
use Rattle.octets.specs.Believed.Choice.{pick, both}
use Rattle.records.specs.Believed.FieldRecords.{Field, field_record_size, field_in}
use Rattle.octets.specs.Believed.Numbers.{no_list_goes_on}
use Rattle.octets.specs.Believed.Octets.{line_feed_byte, space_byte}
use Rattle.octets.specs.Believed.Text.{bytes}
use Rattle.octets.specs.declared.answers.Answer.{Answer}
use Rattle.octets.specs.declared.answers.Answer.TheVariants.{Accepted, Refused, NoRoom}
use Rattle.scanner.specs.Believed.Answers.{next_in_body}
use Rattle.scanner.specs.declared.Class.{Class}
use Rattle.scanner.specs.declared.Class.TheVariants.{Atom, Quoted, At, LessThan, GreaterThan, Comma, Semicolon, Colon, Stray, Dot, Literal}
use Rattle.scanner.specs.declared.Next.{Next}
use Rattle.scanner.specs.declared.Next.TheVariants.{Found, Ended, Fault}
use Rattle.records.specs.Believed.AddressRecords.{AddressRecord, record_in}
use Rattle.addresses.specs.Believed.Outcome.{Outcome}
use Rattle.listing.specs.Believed.Lines.{spaced}

-- ---- lines

-- a mark, and numbers
unfoldable pub line : ℕ → List ℕ → List ℕ → List ℕ
line mark numbers rest = space_byte ∷ space_byte ∷ mark ∷ spaced numbers (line_feed_byte ∷ rest)

-- a text in brackets
unfoldable pub bracketed : List ℕ → List ℕ → List ℕ
bracketed text rest = bytes "  [" ++ (text ++ (bytes "]\n" ++ rest))

-- "=": the number, position and count of an answer
abbrev pub answer_line : Answer → List ℕ → List ℕ
answer_line a rest = line 61 (number_of a ∷ position_of a ∷ count_of a ∷ []) rest

-- "+" or "-": a value by its size
abbrev pub value_line : ℤ → List ℕ → List ℕ
value_line (pos n) rest = line 43 (n ∷ []) rest
value_line (negsuc n) rest = line 45 ((n + 1) ∷ []) rest

-- ---- a lent part afterwards

-- what stands in a room when it is lent
abbrev pub untouched_byte : ℕ
untouched_byte = 170

-- .. and in a path
abbrev pub untouched_number : ℕ
untouched_number = 9999

-- the records or bytes that are written, of which there are less than 65,536
abbrev pub written : Answer → ℕ
written (Accepted many) = many % 65536
written (Refused number position) = 0
written (NoRoom needed) = 0

-- the numbers of an address record
abbrev pub address_numbers : AddressRecord → List ℕ
address_numbers r = r.kind ∷ r.depth ∷ r.parent ∷ r.start ∷ r.end ∷ r.name_start ∷ r.name_end ∷ []

-- the positions of a field record
abbrev pub field_numbers : Field → List ℕ
field_numbers f = f.name_start ∷ f.name_end ∷ f.body_start ∷ f.body_end ∷ []

-- "*": a record of a size
unfoldable pub row_line : ℕ → List ℕ → ℕ → List ℕ → List ℕ
row_line size table i rest =
    line 42 (pick (eqb size field_record_size) (field_numbers (field_in table i)) (address_numbers (record_in table i))) rest

-- so many records from one on
unfoldable pub rows : ℕ → List ℕ → ℕ → ℕ → List ℕ → List ℕ
rows size table zero i rest = rest
rows size table (suc many) i rest = row_line size table i (rows size table many (i + 1) rest)

-- the first bytes of a part; nothing if there are none
unfoldable pub front_text : List ℕ → ℕ → List ℕ → List ℕ
front_text table many rest = pick (eqb many 0) rest (bracketed (take many table) rest)

-- bytes, or records, of more than ten the first two and the last two
unfoldable pub counted : ℕ → List ℕ → ℕ → List ℕ → List ℕ
counted size table many rest =
    pick (eqb size 1) (front_text table many rest)
    (pick (leb many 10) (rows size table many 0 rest) (rows size table 2 0 (rows size table 2 (many - 2) rest)))

-- a room is as it was lent
unfoldable pub untouched : List ℕ → Bool
untouched [] = true
untouched (b ∷ room) = both (eqb b untouched_byte) (untouched room)

-- "!": a part is not as it was from a place on
unfoldable pub kept_note : List ℕ → ℕ → List ℕ → List ℕ
kept_note table from rest = pick (untouched (drop from table)) rest (line 33 (from ∷ []) rest)

-- an answer, and the lent part afterwards, which holds records of a size or bytes
unfoldable pub given : ℕ → Answer → List ℕ → List ℕ → List ℕ
given size a table rest = answer_line a (counted size table (written a) (kept_note table (written a * size) rest))

-- .. of an outcome
abbrev pub given_by : ℕ → Outcome → List ℕ → List ℕ
given_by size o rest = given size o.answer o.table rest

-- an answer refuses by 8 at a place
abbrev pub refuses_at : Answer → ℕ → Bool
refuses_at a place = both (eqb (number_of a) no_list_goes_on) (eqb (position_of a) place)

-- ---- symbols

-- a class of symbols by a byte: a " @ < > , ; : ) . [
abbrev pub mark_of : Class → ℕ
mark_of Atom = 97
mark_of Quoted = 34
mark_of At = 64
mark_of LessThan = 60
mark_of GreaterThan = 62
mark_of Comma = 44
mark_of Semicolon = 59
mark_of Colon = 58
mark_of Stray = 41
mark_of Dot = 46
mark_of Literal = 91

-- a symbol by its mark and its place, the length of its meaning, and 1 where it stands apart, and then what follows; or "!" and the fault
abbrev pub symbol_then : Next → (ℕ → List ℕ) → List ℕ → List ℕ
symbol_then (Found symbol) more rest = line (mark_of symbol.class) (symbol.start ∷ symbol.end ∷ symbol.length ∷ pick symbol.apart 1 0 ∷ []) (more symbol.end)
symbol_then Ended more rest = rest
symbol_then (Fault number position) more rest = line 33 (number ∷ position ∷ []) rest

-- each symbol of a body from a place on, at most so many
unfoldable pub symbols : ℕ → List ℕ → ℕ → ℕ → List ℕ → List ℕ
symbols zero message at end rest = rest
symbols (suc left) message at end rest = symbol_then (next_in_body message at end) (λ p. symbols left message p end rest) rest
