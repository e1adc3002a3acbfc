-- What the entry points answer, in document 01's order of checks: 1, 13, then the first fault of scanning; and what the next symbol tells.
use Rattle.std.specs.Prelude.{ℕ, Bool, List, ltb, length, take}
use Rattle.std.proofs.Math.Option.{Option, none, some}
use Rattle.octets.specs.Believed.Choice.{pick, either}
use Rattle.octets.specs.Believed.Classes.{class_table}
use Rattle.octets.specs.Believed.Numbers.{message_limit, accepted, message_too_long, body_out_of_order}
use Rattle.octets.specs.declared.answers.Answer.{Answer}
use Rattle.octets.specs.declared.answers.Answer.TheVariants.{Accepted, Refused}
use Rattle.scanner.specs.Believed.Scanning.{Scanned, ended, next, fault_at, scan_by, scan}
use Rattle.scanner.specs.declared.Class.{Class}
use Rattle.scanner.specs.declared.Symbol.{Symbol}
use Rattle.scanner.specs.declared.Next.{Next}
use Rattle.scanner.specs.declared.Next.TheVariants.{Found, Ended, Fault}

-- the checks before a body is looked at, the numbers 1 and 13; where both pass, what else is answered
abbrev pub body_checked : {A : Type 0} → (ℕ → ℕ → A) → List ℕ → ℕ → ℕ → A → A
body_checked refused message start end otherwise =
    pick (ltb message_limit (length message)) (refused message_too_long message_limit)
    (pick (either (ltb end start) (ltb (length message) end)) (refused body_out_of_order 0) otherwise)

-- the first fault of scanning is refused; where there is none, what else is answered
unfoldable pub unless_fault : {A : Type 0} → (ℕ → ℕ → A) → Scanned → A → A
unless_fault refused ended otherwise = otherwise
unless_fault refused (next x rest) otherwise = unless_fault refused rest otherwise
unless_fault refused (fault_at number p) otherwise = refused number p

-- the first fault of scanning, if there is one; nothing is lent, so the count is 0
abbrev pub fault_of : Scanned → Answer
fault_of s = unless_fault Refused s (Accepted 0)

-- the answer of scanning the body of a message from `start` up to `end`, by a table of classes
abbrev pub scanned_by : List ℕ → List ℕ → ℕ → ℕ → Answer
scanned_by classes message start end = body_checked Refused message start end (fault_of (scan_by classes (take end message) start))

abbrev pub body_scanned : List ℕ → ℕ → ℕ → Answer
body_scanned message start end = scanned_by class_table message start end

-- a symbol that was found, by its class and its place, the length of its meaning, and whether it stands apart
abbrev pub found_at : Class → ℕ → ℕ → ℕ → Bool → Next
found_at class start end size apart = Found (record { class = class; start = start; end = end; length = size; apart = apart })

-- the first symbol, the end or the fault
abbrev pub next_of : Scanned → Next
next_of ended = Ended
next_of (next x rest) = found_at x.class x.lexeme.start x.lexeme.end (length x.lexeme.meaning) x.lexeme.apart
next_of (fault_at number p) = Fault number p

-- what is told of the next symbol: the number and position of a fault, 0 and 0 without one; and the symbol, if there is one
pub record NextTold : Type 0 where
  pub number : ℕ
  pub position : ℕ
  pub symbol : Option Symbol

abbrev pub next_told : Next → NextTold
next_told (Found symbol) = record { number = accepted; position = 0; symbol = some symbol }
next_told Ended = record { number = accepted; position = 0; symbol = none }
next_told (Fault number position) = record { number = number; position = position; symbol = none }

-- the next symbol at or after a position of a body that ends at `end`
abbrev pub next_in_body : List ℕ → ℕ → ℕ → Next
next_in_body message at end = body_checked Fault message at end (next_of (scan (take end message) at))
