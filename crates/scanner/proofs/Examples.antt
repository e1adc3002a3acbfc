-- Texts and what they scan to, worked out by hand from document 01 and, of a taken line end, document 02, in one table with one statement over its rows. Assumes nothing.
use mathlib.Core.Path.{◌≡◌, refl}
use mathlib.Core.Bool.{true}
use mathlib.Core.List.{List, [], ◌∷◌, ◌++◌}
use Prim.Native.Nat.{ℕ}
use lib.ListN.{replicate}
use Rattle.octets.specs.Believed.Classes.{class_of, class_table}
use Rattle.octets.specs.Believed.Letters.{lower, same}
use Rattle.octets.specs.Believed.Text.{bytes}
use Rattle.scanner.specs.Believed.Symbols.{Symbol}
use Rattle.scanner.specs.Believed.Kinds.{kind_of}
use Rattle.scanner.specs.Believed.Characters.{characters_from}
use Rattle.scanner.specs.Believed.Scanning.{Scanned, ended, next, fault_at, symbol, taken_data, scan_from, parted, scan}
use Rattle.scanner.specs.declared.Class.{Class}
use Rattle.scanner.specs.declared.Class.TheVariants.{Atom, Quoted, At, LessThan, GreaterThan, Comma, Semicolon, Colon, Stray}

-- a text and what it scans to
pub record Row : Type 0 where
  pub text : List ℕ
  pub scans : Scanned

pub row : List ℕ → Scanned → Row
row text scans = record { text = text; scans = scans }

-- each text scans to what stands beside it
pub data Right : List Row → Type 0 where
  none : Right []
  and : {r : Row} {rows : List Row} → scan r.text 0 ≡ r.scans → Right rows → Right (r ∷ rows)

-- a symbol that stands apart
abbrev apart : Symbol Class → Symbol Class
apart x = record { class = x.class; lexeme = record { start = x.lexeme.start; end = x.lexeme.end; meaning = x.lexeme.meaning; apart = true } }

unfoldable pub crlf : List ℕ
crlf = 13 ∷ 10 ∷ []

-- RFC 733's own: a comment in a comment, and "at" between comments
nested : Row
nested =
    row (bytes "Muhammed(I am (the) greatest)Ali at(the)WBA")
    (next (symbol Atom 0 8 (bytes "Muhammed")) (next (apart (symbol Atom 29 32 (bytes "Ali"))) (next (apart (symbol At 33 35 (bytes "at"))) (next (apart (symbol Atom 40 43 (bytes "WBA"))) ended))))

-- RFC 733's own: a quoted-string, a mark and an atom
sysmail : Row
sysmail = row (bytes "\":sysmail\"@ Some-Host") (next (symbol Quoted 0 10 (bytes ":sysmail")) (next (symbol At 10 11 (bytes "@")) (next (apart (symbol Atom 12 21 (bytes "Some-Host"))) ended)))

-- a fold parts two atoms
folded_atoms : Row
folded_atoms = row (bytes "ab" ++ (crlf ++ bytes " cd")) (next (symbol Atom 0 2 (bytes "ab")) (next (apart (symbol Atom 5 7 (bytes "cd"))) ended))

-- in a quoted-string its CRLF is no datum, and its white space is
folded_quoted : Row
folded_quoted = row (bytes "\"a" ++ (crlf ++ bytes " b\"")) (next (symbol Quoted 0 7 (bytes "a b")) ended)

-- a backslash right before it takes its CRLF, and not the white space after it
folded_taken : Row
folded_taken = row (bytes "\"a\\" ++ (crlf ++ bytes " b\"")) (next (symbol Quoted 0 8 (bytes "a" ++ (crlf ++ bytes " b"))) ended)

closed_after_taken : Row
closed_after_taken = row (bytes "\"\\" ++ (crlf ++ bytes " \"x")) (next (symbol Quoted 0 6 (crlf ++ bytes " ")) (next (symbol Atom 6 7 (bytes "x")) ended))

taken_twice : Row
taken_twice = row (bytes "\"\\" ++ (crlf ++ bytes "\t\\" ++ (crlf ++ bytes "\t\""))) (next (symbol Quoted 0 10 (crlf ++ bytes "\t" ++ (crlf ++ bytes "\t"))) ended)

-- .. unless the backslash is itself taken
folded_after_taken : Row
folded_after_taken = row (bytes "\"a\\\\" ++ (crlf ++ bytes " b\"")) (next (symbol Quoted 0 9 (bytes "a\\ b")) ended)

third_backslash : Row
third_backslash = row (bytes "\"a\\\\\\" ++ (crlf ++ bytes " \"")) (next (symbol Quoted 0 9 (bytes "a\\" ++ (crlf ++ bytes " "))) ended)

-- it takes a CR before the fold, and then the CRLF is dropped
return_before_fold : Row
return_before_fold = row (bytes "\"a\\" ++ (13 ∷ crlf ++ bytes " b\"")) (next (symbol Quoted 0 9 (bytes "a" ++ (13 ∷ bytes " b"))) ended)

-- no fold: CR is taken, and LF is a datum by itself
return_then_line_feed : Row
return_then_line_feed = row (bytes "\"\\" ++ (crlf ++ bytes "b\"")) (next (symbol Quoted 0 6 (crlf ++ bytes "b")) ended)

-- the white space of the fold is not there
half_taken : Row
half_taken = row (bytes "\"a\\" ++ crlf) (fault_at 5 0)

-- in a comment, also after a backslash
folded_comment : Row
folded_comment = row (bytes "(a" ++ (crlf ++ bytes " b) c")) (next (apart (symbol Atom 8 9 (bytes "c"))) ended)

taken_in_comment : Row
taken_in_comment = row (bytes "(a\\" ++ (crlf ++ bytes " ) c")) (next (apart (symbol Atom 8 9 (bytes "c"))) ended)

-- a CRLF whose white space is not there is no fold
half_fold : Row
half_fold = row (bytes "a" ++ crlf) (next (symbol Atom 0 1 (bytes "a")) (fault_at 7 1))

-- each mark; the dot and the brackets are ordinary; a lone ")" or backslash fits no rule
marks : Row
marks =
    row (bytes "<a.b>@,;:)\\[c]")
    (next (symbol LessThan 0 1 (bytes "<")) (next (symbol Atom 1 4 (bytes "a.b")) (next (symbol GreaterThan 4 5 (bytes ">")) (next (symbol At 5 6 (bytes "@"))
    (next (symbol Comma 6 7 (bytes ",")) (next (symbol Semicolon 7 8 (bytes ";")) (next (symbol Colon 8 9 (bytes ":")) (next (symbol Stray 9 10 (bytes ")"))
    (next (symbol Stray 10 11 (bytes "\\")) (next (symbol Atom 11 14 (bytes "[c]")) ended))))))))))

-- "at" in any case of letters; quoted it is a word
at_cases : Row
at_cases = row (bytes "at At AT aT \"at\" ate") (next (symbol At 0 2 (bytes "at")) (next (apart (symbol At 3 5 (bytes "At"))) (next (apart (symbol At 6 8 (bytes "AT"))) (next (apart (symbol At 9 11 (bytes "aT"))) (next (apart (symbol Quoted 12 16 (bytes "at"))) (next (apart (symbol Atom 17 20 (bytes "ate"))) ended))))))

-- 5 at its opening quote, 6 at the outermost "(", each only at the end
open_quoted : Row
open_quoted = row (bytes "\"ab") (fault_at 5 0)

open_comment : Row
open_comment = row (bytes "(") (fault_at 6 0)

open_inner : Row
open_inner = row (bytes "x (a (b) ") (next (symbol Atom 0 1 (bytes "x")) (fault_at 6 2))

taking_at_end : Row
taking_at_end = row (bytes "\"ab\\") (fault_at 5 0)

-- a CR in an open quoted-string is 7 before 5
return_quoted : Row
return_quoted = row (bytes "\"a" ++ (13 ∷ bytes "b")) (fault_at 7 2)

-- .. unless a backslash takes it
return_taken : Row
return_taken = row (bytes "\"\\" ++ (13 ∷ bytes "\"")) (next (symbol Quoted 0 4 (13 ∷ [])) ended)

-- a byte above 127, also one that a backslash would take
above : Row
above = row (bytes "a" ++ (200 ∷ [])) (next (symbol Atom 0 1 (bytes "a")) (fault_at 3 1))

above_taken : Row
above_taken = row (bytes "\"\\" ++ (128 ∷ bytes "\"")) (fault_at 3 2)

above_comment : Row
above_comment = row (bytes "(\\" ++ (255 ∷ bytes ")")) (fault_at 3 2)

-- DEL and a bare LF are 7 outside and data inside
delete : Row
delete = row (127 ∷ []) (fault_at 7 0)

line_feed : Row
line_feed = row (bytes "a" ++ (10 ∷ [])) (next (symbol Atom 0 1 (bytes "a")) (fault_at 7 1))

controls_quoted : Row
controls_quoted = row (bytes "\"" ++ (127 ∷ 10 ∷ 9 ∷ 0 ∷ bytes "\"")) (next (symbol Quoted 0 6 (127 ∷ 10 ∷ 9 ∷ 0 ∷ [])) ended)

controls_comment : Row
controls_comment = row (bytes "(" ++ (127 ∷ 10 ∷ bytes ")")) ended

-- a quote in a comment is data, and so is a parenthesis in a quoted-string
quote_in_comment : Row
quote_in_comment = row (bytes "(a \" b) c") (next (apart (symbol Atom 8 9 (bytes "c"))) ended)

comment_in_quoted : Row
comment_in_quoted = row (bytes "\"(\" x") (next (symbol Quoted 0 3 (bytes "(")) (next (apart (symbol Atom 4 5 (bytes "x"))) ended))

-- comments nest without a limit of their own
deep_comment : Row
deep_comment = row (replicate 300 40 ++ (replicate 300 41 ++ bytes "x")) (next (apart (symbol Atom 600 601 (bytes "x"))) ended)

pub table : List Row
table =
    nested ∷ sysmail ∷ folded_atoms ∷ folded_quoted ∷ folded_taken ∷ closed_after_taken ∷ taken_twice ∷ folded_after_taken ∷ third_backslash ∷ return_before_fold ∷ return_then_line_feed ∷ half_taken ∷ folded_comment ∷ taken_in_comment ∷ half_fold ∷ marks ∷ at_cases ∷ open_quoted ∷ open_comment ∷ open_inner ∷ taking_at_end
    ∷ return_quoted ∷ return_taken ∷ above ∷ above_taken ∷ above_comment ∷ delete ∷ line_feed ∷ controls_quoted ∷ controls_comment ∷ quote_in_comment ∷ comment_in_quoted
    ∷ deep_comment ∷ []

pub right : Right table
unfolding row crlf nested sysmail folded_atoms folded_quoted folded_taken closed_after_taken taken_twice folded_after_taken third_backslash return_before_fold return_then_line_feed half_taken folded_comment taken_in_comment half_fold marks at_cases open_quoted open_comment open_inner taking_at_end return_quoted return_taken above above_taken above_comment delete line_feed controls_quoted controls_comment quote_in_comment comment_in_quoted deep_comment table parted scan_from taken_data characters_from kind_of class_of class_table lower same
right =
    and refl (and refl (and refl (and refl (and refl (and refl (and refl (and refl (and refl (and refl (and refl (and refl (and refl (and refl (and refl (and refl (and refl (and refl (and refl (and refl (and refl (and refl (and refl (and refl (and refl (and refl (and refl (and refl (and refl (and refl (and refl (and refl (and refl none))))))))))))))))))))))))))))))))
