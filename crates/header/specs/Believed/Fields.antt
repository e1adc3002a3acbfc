-- Document 01, "Fields": the fields of a message.
use Rattle.std.specs.Prelude.{ℕ, ◌+◌, Bool, not, List, [], ◌∷◌, eqb, ltb, drop, get_or}
use Rattle.octets.specs.Believed.Choice.{pick, both, either}
use Rattle.octets.specs.Believed.Classes.{within, is_white}
use Rattle.octets.specs.Believed.Numbers.{name_fault, byte_above_127, header_not_ended}
use Rattle.octets.specs.Believed.Octets.{colon_byte}
use Rattle.octets.specs.Believed.Text.{crlf_at}
use Rattle.records.specs.Believed.FieldRecords.{Field, field_of}

-- the fields in order, and then the header's end or the first fault: its number and position
pub data Header : Type 0 where
  field : Field → Header → Header
  ended : Header
  fault : ℕ → ℕ → Header

-- the fields, in order
abbrev pub fields_of : Header → List Field
fields_of (field f rest) = f ∷ fields_of rest
fields_of ended = []
fields_of (fault number position) = []

-- a name holds 33 to 126 without the colon, and SPACE and HTAB
unfoldable pub name_holds : ℕ → Bool
name_holds b = either (is_white b) (both (within 33 126 b) (not (eqb b colon_byte)))

-- it starts with such a byte that is neither SPACE nor HTAB
unfoldable pub name_starts_with : ℕ → Bool
name_starts_with b = both (name_holds b) (not (is_white b))

-- the first of these bytes are CR and LF
unfoldable pub crlf : List ℕ → Bool
crlf bytes = crlf_at bytes 0

-- they are CR and LF that are not followed by SPACE or HTAB
unfoldable pub ends_body : List ℕ → Bool
ends_body bytes = both (crlf bytes) (not (is_white (get_or bytes 2 0)))

-- a state of splitting: at a line start; in a name with its start and the end of its bytes so far that are no white space;
-- in a body with the name's start and end and its own start; before the LF of the CRLF that ended a body
pub data State : Type 0 where
  line_start : State
  in_name : ℕ → ℕ → State
  in_body : ℕ → ℕ → ℕ → State
  before_line_feed : State

-- what a byte does: it leads on; it ends a field and leads on; it ends the header; it is a fault
pub data Move : Type 0 where
  go : State → Move
  give : Field → State → Move
  stop : Move
  refuse : ℕ → ℕ → Move

-- a line start: an empty line ends the header, else a name starts; here and below `bytes` are the byte at `at` and all after it
unfoldable pub at_line_start : List ℕ → ℕ → Move
at_line_start bytes at = pick (crlf bytes) stop (pick (name_starts_with (get_or bytes 0 0)) (go (in_name at (at + 1))) (refuse name_fault at))

-- a name: the colon ends it, and white space does not move its end
unfoldable pub at_name : ℕ → ℕ → List ℕ → ℕ → Move
at_name name_start name_end bytes at =
    pick (eqb (get_or bytes 0 0) colon_byte) (go (in_body name_start name_end (at + 1)))
    (pick (name_holds (get_or bytes 0 0)) (go (in_name name_start (pick (is_white (get_or bytes 0 0)) name_end (at + 1)))) (refuse name_fault at))

-- a body: a byte above 127 is a fault, and the first CRLF that SPACE or HTAB does not follow ends it
unfoldable pub at_body : ℕ → ℕ → ℕ → List ℕ → ℕ → Move
at_body name_start name_end body_start bytes at =
    pick (ltb 127 (get_or bytes 0 0)) (refuse byte_above_127 at)
    (pick (ends_body bytes)
    (give (field_of name_start name_end body_start at) before_line_feed)
    (go (in_body name_start name_end body_start)))

-- what the first of these bytes does in each state
abbrev pub move : State → List ℕ → ℕ → Move
move line_start bytes at = at_line_start bytes at
move (in_name name_start name_end) bytes at = at_name name_start name_end bytes at
move (in_body name_start name_end body_start) bytes at = at_body name_start name_end body_start bytes at
move before_line_feed bytes at = go line_start

-- the message ends: at a line start the header ends with it, anywhere else without a CRLF
abbrev pub at_end : State → ℕ → Header
at_end line_start at = ended
at_end (in_name name_start name_end) at = fault header_not_ended at
at_end (in_body name_start name_end body_start) at = fault header_not_ended at
at_end before_line_feed at = fault header_not_ended at

-- a move, and what the bytes after it hold
abbrev pub follow : Move → (State → Header) → Header
follow (go state) rest = rest state
follow (give f state) rest = field f (rest state)
follow stop rest = ended
follow (refuse number position) rest = fault number position

-- what the bytes from position `at` on hold
unfoldable pub header_from : List ℕ → ℕ → State → Header
header_from [] at state = at_end state at
header_from (b ∷ bytes) at state = follow (move state (b ∷ bytes) at) (λ next. header_from bytes (at + 1) next)

-- what a message holds from position `at` on
abbrev pub header_at : List ℕ → ℕ → State → Header
header_at message at state = header_from (drop at message) at state

-- the header of a message
abbrev pub header_of : List ℕ → Header
header_of message = header_from message 0 line_start
