-- What is put for a line of vectors. Each function but the last two puts its text before the bytes `rest`.
use Rattle.std.specs.Prelude.{ℕ, ◌%◌, false, List, [], ◌∷◌, ◌++◌, eqb, length, take, replicate}
use Rattle.octets.specs.Believed.Choice.{pick}
use Rattle.octets.specs.Believed.Letters.{same_bytes}
use Rattle.records.specs.Believed.FieldRecords.{field_record_size}
use Rattle.records.specs.Believed.AddressRecords.{address_record_size}
use Rattle.octets.specs.Believed.Octets.{line_feed_byte}
use Rattle.octets.specs.Believed.Stored.{number_at}
use Rattle.scanner.specs.Believed.Answers.{body_scanned}
use Rattle.reply.specs.Believed.Reply.{left_for_from}
use Rattle.header.specs.Believed.Names.{known_of, known_number, compared_of, holds_addresses}
use Rattle.header.specs.Believed.Split.{split_answer, split_table}
use Rattle.addresses.specs.Believed.Outcome.{outcome}
use Rattle.editions.specs.Believed.Outcome.{outcome_of}
use Rattle.plain.specs.Believed.Written.{plain_outcome}
use Rattle.expansion.specs.Believed.Outcome as expansion
use Rattle.dates.specs.Believed.Answers as date
use Rattle.dates.specs.Believed.Outcome.{date_answer}
use Rattle.touch.specs.Believed.Answers as touch
use Rattle.touch.specs.Believed.Touched.{touched}
use Rattle.vectors.specs.Believed.Putting.{Text, text, putting}
use Rattle.vectors.specs.Believed.Reading.{before, behind, start_of, end_of, edition_of, place_of, room_of, decoded}
use Rattle.vectors.specs.Believed.Answers.{line, answer_line, value_line, untouched_byte, untouched_number, given, given_by, front_text, refuses_at, symbols}

-- ---- what is run

-- addresses, by-table, edition, fields and plain: the entry points that fill a lent part of bytes
unfoldable pub read_text : ℕ → List ℕ → List ℕ → List ℕ → List ℕ → List ℕ
read_text letter head message table rest =
    pick (eqb letter 97) (given_by address_record_size (outcome message (start_of head) (end_of head message) table) rest)
    (pick (eqb letter 98) (given_by address_record_size (outcome message (start_of head) (end_of head message) table) rest)
    (pick (eqb letter 101) (given_by address_record_size (outcome_of (edition_of head) message (start_of head) (end_of head message) table) rest)
    (pick (eqb letter 102) (given field_record_size (split_answer message table) (split_table message table) rest)
    (pick (eqb letter 112) (given_by 1 (plain_outcome message (start_of head) (end_of head message) table) rest) rest))))

-- known: the number of a known name, whether it holds an address list, and how many were compared letter by letter
unfoldable pub known_text : List ℕ → List ℕ → List ℕ
known_text name rest = line 61 (known_number (known_of name) ∷ pick (holds_addresses (known_of name)) 1 0 ∷ compared_of name ∷ []) rest

-- date: what is told, and the value
unfoldable pub date_text : List ℕ → List ℕ → List ℕ → List ℕ
date_text head message rest =
    let a = date_answer message (start_of head) (end_of head message) in
    line 61 (date.number_of a ∷ date.position_of a ∷ date.count_of a ∷ []) (value_line (date.value_of a) rest)

-- reply: the length of the body, and its front
unfoldable pub chosen_text : List ℕ → List ℕ → List ℕ
chosen_text body rest = line 61 (length body ∷ []) (front_text body 64 rest)

-- scan: the answer, and each symbol
unfoldable pub scan_text : List ℕ → List ℕ → List ℕ → List ℕ
scan_text head message rest =
    answer_line (body_scanned message (start_of head) (end_of head message)) (symbols 65536 message (start_of head) (end_of head message) rest)

-- touch: what is told, and "*" and the path
unfoldable pub touch_text : List ℕ → List ℕ → List ℕ → List ℕ → List ℕ
touch_text head message path rest =
    let o = touched message (start_of head) (end_of head message) (place_of head) path in
    let a = o.answer in
    line 61 (touch.number_of a ∷ touch.position_of a ∷ touch.count_of a ∷ touch.category_of a ∷ touch.names_of a ∷ []) (line 42 o.path rest)

-- open: "#" and the openings, the answer and the text
unfoldable pub open_text : List ℕ → List ℕ → List ℕ → List ℕ → List ℕ → List ℕ
open_text head message store room rest =
    let o = expansion.expand_outcome message (start_of head) (end_of head message) store room in
    line 35 (o.openings ∷ []) (given 1 o.answer o.text rest)

-- compare: the answers of both plain texts, and "&" and 1 if the texts are the same
unfoldable pub compare_text : List ℕ → List ℕ → List ℕ → List ℕ → List ℕ → List ℕ
compare_text message other room spare rest =
    let o = plain_outcome message 0 (length message) room in
    let p = plain_outcome other 0 (length other) spare in
    answer_line o.answer (answer_line p.answer (line 38 (pick (same_bytes o.table p.table) 1 0 ∷ []) rest))

-- unfit: 1 if the list is refused by 8 at the place
unfoldable pub unfit_text : List ℕ → List ℕ → List ℕ → List ℕ → List ℕ
unfit_text head message table rest =
    let o = outcome_of (edition_of head) message 0 (length message) table in
    line 61 (pick (refuses_at o.answer (place_of head)) 1 0 ∷ []) rest

-- by the letter of the word
unfoldable pub vector_text : ℕ → List ℕ → List ℕ → List ℕ → List ℕ → List ℕ → List ℕ → List ℕ → List ℕ
vector_text letter head message other store room spare rest =
    pick (eqb letter 100) (date_text head message rest)
    (pick (eqb letter 107) (known_text message rest)
    (pick (eqb letter 114) (chosen_text (pick (left_for_from message) other message) rest)
    (pick (eqb letter 115) (scan_text head message rest)
    (pick (eqb letter 116) (touch_text head message (replicate (room_of 8 head % 71) untouched_number) rest)
    (pick (eqb letter 111) (open_text head message store room rest)
    (pick (eqb letter 99) (compare_text message other room spare rest)
    (pick (eqb letter 117) (unfit_text head message room rest) (read_text letter head message room rest))))))))

-- ---- a line

-- with rooms of the size that is asked for
unfoldable pub vector_with : ℕ → List ℕ → List ℕ → List ℕ → List ℕ → List ℕ → List ℕ
vector_with letter head message other store rest =
    let room = replicate (room_of 4096 head % 65536) untouched_byte in
    vector_text letter head message other store room room rest

-- the front of what a text stands for
abbrev pub message : List ℕ → List ℕ
message text = take 65536 (decoded false text)

-- from what stands before and after the first "|"
unfoldable pub parts_text : ℕ → List ℕ → List ℕ → List ℕ → List ℕ → List ℕ
parts_text letter head tail store rest = vector_with letter head (message (before 124 tail)) (message (behind 124 tail)) store rest

-- a line, and what it gives with the store
abbrev pub answer_of : List ℕ → List ℕ → List ℕ
answer_of line store = line ++ (line_feed_byte ∷ parts_text (number_at 1 line 0) (before 124 line) (behind 124 line) store [])

-- lists: the store afterwards, and how much of it is used; any other line leaves it as it is
abbrev pub kept_lists : List ℕ → List ℕ → ℕ → Text
kept_lists line store used = pick (eqb (number_at 1 line 0) 108) (putting store 0 (decoded false (behind 124 line))) (text store used)
