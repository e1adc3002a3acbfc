-- Document 01's own input and its two lines, and others worked out by hand, in one table with one statement. Assumes nothing.
use mathlib.Core.Path.{◌≡◌, refl}
use mathlib.Core.List.{List, [], ◌∷◌, ◌++◌}
use Prim.Native.Nat.{ℕ}
use Prim.Native.String.{String}
use Rattle.octets.specs.Believed.Classes.{class_of, class_of822, class_table, class_table822}
use Rattle.octets.specs.Believed.Letters.{lower, same}
use Rattle.octets.specs.Believed.Octets.{return_byte, line_feed_byte}
use Rattle.octets.specs.Believed.Text.{bytes}
use Rattle.scanner.specs.Believed.Characters.{characters_from}
use Rattle.scanner.specs.Believed.Kinds.{kind_of}
use Rattle.scanner.specs.Believed.Scanning.{scan_from, symbols_of, parted}
use Rattle.scanner.specs.Believed.Answers.{unless_fault}
use Rattle.header.specs.Believed.Fields.{name_holds, name_starts_with, crlf, ends_body, at_line_start, at_name, at_body, header_from}
use Rattle.header.specs.Believed.Names.{known_names, known_in}
use Rattle.header.specs.Believed.Split.{answer_in, answer_for}
use Rattle.dates.specs.Believed.Names.{called, place}
use Rattle.dates.specs.Believed.Parts.{is_mark, is_run, key_of, runs, parts}
use Rattle.dates.specs.Believed.Grammar.{decimal, offset_of}
use Rattle.dates.specs.Believed.Calendar.{leap, month_length, days_before_month, days_of_years, day_number}
use Rattle.dates.specs.Executable.Form.{first_key, first_bytes, after, done, digit_run_of, name_of, second_after, minute_after, time_of, zone_named, zone_signed, zone_of, day_name_of, day_of, year_of, past_dash, reading_of}
use Rattle.dates.specs.Believed.Answers.{day_exists, time_exists, name_true, moment_of}
use Rattle.dates.specs.Believed.Outcome.{date_answer}
use Rattle.listing.specs.Believed.Lines.{digits_of, signed, spaced}
use Rattle.listing.specs.Believed.Listing.{each, field_text, listing}

-- an edition, lines of a message, each ended by CRLF, and the lines printed for it, each ended by LF
pub record Row : Type 0 where
  pub edition : ℕ
  pub message : List String
  pub printed : List String

-- texts, each with these bytes after it
abbrev pub ended : List ℕ → List String → List ℕ
ended end [] = []
ended end (line ∷ lines) = bytes line ++ (end ++ ended end lines)

abbrev pub rows : List Row
rows =
    record { edition = 733; message = "To: Al at X" ∷ []; printed = "field 0 2 3 11" ∷ "address 1 0 0 4 11 4 6" ∷ [] }
    ∷ record { edition = 733; message = "Date: 1 Jan 1900 0000 +0100" ∷ []; printed = "field 0 4 5 27" ∷ "date -3600" ∷ [] }
    ∷ record { edition = 733; message = "To: x" ∷ "cc :" ∷ []; printed = "field 0 2 3 5" ∷ "refused 9 5" ∷ "field 7 9 11 11" ∷ [] }
    ∷ record { edition = 733; message = "Subject: x" ∷ []; printed = "field 0 7 8 10" ∷ [] }
    ∷ record { edition = 733; message = "To" ∷ []; printed = "refused 2 2" ∷ [] }
    ∷ record { edition = 733; message = "To: a.b at [c]" ∷ []; printed = "field 0 2 3 14" ∷ "address 1 0 0 4 14 4 7" ∷ [] }
    ∷ record { edition = 822; message = "To: a.b@[c]" ∷ "Date: 1 Jan 1900 0000 +0100" ∷ []; printed = "field 0 2 3 11" ∷ "address 1 0 0 4 11 4 7" ∷ "field 13 17 18 40" ∷ "date -3600" ∷ [] }
    ∷ record { edition = 822; message = "cc: x:y<@a:b@c>;" ∷ []; printed = "field 0 2 3 16" ∷ "address 3 0 0 4 16 4 5" ∷ "address 2 1 1 6 15 6 7" ∷ "address 1 2 2 11 14 11 12" ∷ [] }
    ∷ record { edition = 822; message = "To: a at b" ∷ "cc: a@[" ∷ []; printed = "field 0 2 3 10" ∷ "refused 9 10" ∷ "field 12 14 15 19" ∷ "refused 23 18" ∷ [] }
    ∷ record { edition = 66269; message = "To: a@b" ∷ []; printed = "field 0 2 3 7" ∷ "refused 21 0" ∷ [] }
    ∷ []

-- each row of a table holds
abbrev pub AllHold : List Row → Type 0
AllHold [] = Unit {0}
AllHold (row ∷ more) = (listing row.edition (ended (return_byte ∷ line_feed_byte ∷ []) row.message) ≡ ended (line_feed_byte ∷ []) row.printed) × AllHold more

pub rows_hold : AllHold rows
unfolding scan_from parted symbols_of characters_from kind_of class_of class_of822 class_table class_table822 lower same unless_fault name_holds name_starts_with crlf ends_body at_line_start at_name at_body header_from known_names known_in answer_in answer_for called place is_mark is_run key_of runs parts decimal offset_of leap month_length days_before_month days_of_years day_number first_key first_bytes after done digit_run_of name_of second_after minute_after time_of zone_named zone_signed zone_of day_name_of day_of year_of past_dash reading_of day_exists time_exists name_true moment_of date_answer digits_of signed spaced each field_text
rows_hold = (refl, (refl, (refl, (refl, (refl, (refl, (refl, (refl, (refl, (refl, tt))))))))))
