-- Document 01, "Sizes" and "Answer numbers", and what document 02 adds: each limit and each number by a name.
use Rattle.std.specs.Prelude.{ℕ}

-- the most bytes that a message has
abbrev pub message_limit : ℕ
message_limit = 32768

-- the most levels of addresses
abbrev pub level_limit : ℕ
level_limit = 64

-- the records that a table holds which the program or a tool keeps itself
abbrev pub table_records : ℕ
table_records = 2048

-- the bytes of a record of the store of lists, and of the name in it
abbrev pub store_record_size : ℕ
store_record_size = 512

abbrev pub store_name_size : ℕ
store_name_size = 64

-- the most openings of stored lists
abbrev pub opening_limit : ℕ
opening_limit = 64

-- the bytes of a position, and of any other number of a record but kind and depth
abbrev pub number_width : ℕ
number_width = 2

-- 0: accepted
abbrev pub accepted : ℕ
accepted = 0

-- 1: message over its limit
abbrev pub message_too_long : ℕ
message_too_long = 1

-- 2: fault in a field name
abbrev pub name_fault : ℕ
name_fault = 2

-- 3: byte above 127
abbrev pub byte_above_127 : ℕ
byte_above_127 = 3

-- 4: header ends without CRLF
abbrev pub header_not_ended : ℕ
header_not_ended = 4

-- 5: quoted-string not closed
abbrev pub quoted_not_closed : ℕ
quoted_not_closed = 5

-- 6: comment not closed
abbrev pub comment_not_closed : ℕ
comment_not_closed = 6

-- 7: stray control byte
abbrev pub stray_control : ℕ
stray_control = 7

-- 8: no list goes on with this symbol
abbrev pub no_list_goes_on : ℕ
no_list_goes_on = 8

-- 9: body ends too soon
abbrev pub ends_too_soon : ℕ
ends_too_soon = 9

-- 10: level 65 opened
abbrev pub too_many_levels : ℕ
too_many_levels = 10

-- 11: lent room less than needed
abbrev pub too_little_room : ℕ
too_little_room = 11

-- 12: date of wrong form
abbrev pub date_form : ℕ
date_form = 12

-- 13: body start after body end, or end after message
abbrev pub body_out_of_order : ℕ
body_out_of_order = 13

-- 14: date of right form, impossible
abbrev pub date_impossible : ℕ
date_impossible = 14

-- 19: Include that leads to no stored list
abbrev pub leads_nowhere : ℕ
leads_nowhere = 19

-- 20: opening number 65
abbrev pub too_many_openings : ℕ
too_many_openings = 20

-- 21: an edition other than 733 and 822
abbrev pub edition_unknown : ℕ
edition_unknown = 21

-- 23: domain literal not closed, or with a bare "[" in it
abbrev pub literal_not_closed : ℕ
literal_not_closed = 23
