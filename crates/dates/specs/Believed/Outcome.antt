-- The answer for a body: 1, 13, the first fault of scanning, then 12, then 14.
-- What a body writes is read by `Form`; `ByGrammar` says the same without it.
use Rattle.std.specs.Prelude.{ℕ, List, take, ℤ, Option, Some, None, Result, Ok, Err}
use Rattle.octets.specs.Believed.Classes.{class_table}
use Rattle.octets.specs.Believed.Numbers.{date_form, date_impossible}
use Rattle.octets.specs.Believed.Answers.{fault}
use Rattle.octets.specs.declared.answers.Fault.{Fault}
use Rattle.scanner.specs.Believed.Scanning.{Scanned, scan}
use Rattle.scanner.specs.Believed.Answers.{body_checked, unless_fault}
use Rattle.dates.specs.Believed.Parts.{parts}
use Rattle.dates.specs.Executable.Form.{reading_of}
use Rattle.dates.specs.Believed.Answers.{moment_of}
use Rattle.dates.specs.declared.form.Written.{Written}

-- refused with a number at a position
abbrev pub refused : ℕ → ℕ → Result ℤ Fault
refused number position = Err (fault number position)

-- 14 at the start, or the seconds
abbrev pub moment_answer : ℕ → Option ℤ → Result ℤ Fault
moment_answer start None = refused date_impossible start
moment_answer start (Some value) = Ok value

-- 12, then 14
abbrev pub reading_answer : ℕ → Option Written → Result ℤ Fault
reading_answer start None = refused date_form start
reading_answer start (Some w) = moment_answer start (moment_of w)

-- the answer for what a body scans to
abbrev pub scanned_answer : List ℕ → ℕ → Scanned → Result ℤ Fault
scanned_answer classes start scanned = unless_fault refused scanned (reading_answer start (reading_of (parts classes scanned)))

-- the answer for the body of a message from `start` up to `end`
unfoldable pub date_answer : List ℕ → ℕ → ℕ → Result ℤ Fault
date_answer message start end = body_checked refused message start end (scanned_answer class_table start (scan (take end message) start))
