-- Document 01, "Fields" and "Answer numbers": the field records of a message, the answer of splitting it, and the lent table afterwards.
use Rattle.std.specs.Prelude.{ℕ, ◌+◌, List, ltb, length}
use Rattle.std.proofs.lemmas.List.Edits.{sets}
use Rattle.octets.specs.Believed.Choice.{pick}
use Rattle.octets.specs.Believed.Numbers.{message_limit, message_too_long}
use Rattle.octets.specs.Believed.Stored.{room_for}
use Rattle.octets.specs.declared.answers.Answer.{Answer}
use Rattle.octets.specs.declared.answers.Answer.TheVariants.{Accepted, Refused, NoRoom}
use Rattle.records.specs.Believed.FieldRecords.{field_record_size, field_table}
use Rattle.header.specs.Believed.Fields.{Header, field, ended, fault, fields_of, header_of}

-- the answer where `room` records fit and `count` fields came before: a fault comes before too little room
unfoldable pub answer_in : ℕ → ℕ → Header → Answer
answer_in room count (field f rest) = answer_in room (count + 1) rest
answer_in room count ended = pick (ltb room count) (NoRoom count) (Accepted count)
answer_in room count (fault number position) = Refused number position

-- the answer where `room` records fit: a message over its limit comes first
unfoldable pub answer_for : ℕ → List ℕ → Answer
answer_for room message =
    pick (ltb message_limit (length message)) (Refused message_too_long message_limit) (answer_in room 0 (header_of message))

-- the answer for a lent table
abbrev pub split_answer : List ℕ → List ℕ → Answer
split_answer message table = answer_for (room_for field_record_size table) message

-- the table after an answer: the records at its front if the message is accepted, else as it was
abbrev pub table_after : Answer → List ℕ → List ℕ → List ℕ
table_after (Accepted written) message table = sets table 0 (field_table (fields_of (header_of message)))
table_after (Refused number position) message table = table
table_after (NoRoom needed) message table = table

-- the table after splitting
abbrev pub split_table : List ℕ → List ℕ → List ℕ
split_table message table = table_after (split_answer message table) message table
