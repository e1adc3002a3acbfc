-- Document 01, "Dates", over the grammar and apart from any reader: what is answered for a body.
use Rattle.std.specs.Prelude.{ℕ, ◌≤◌, ◌≡◌, List, ℤ, pos, length, take, Some, None, Result}
use Rattle.octets.specs.Believed.Classes.{class_table}
use Rattle.octets.specs.Believed.Numbers.{message_limit, accepted, date_form, date_impossible}
use Rattle.octets.specs.declared.answers.Answer.TheVariants as answer
use Rattle.octets.specs.declared.answers.Fault.{Fault}
use Rattle.scanner.specs.Believed.Scanning.{scan}
use Rattle.scanner.specs.Believed.Answers.{fault_of}
use Rattle.dates.specs.Believed.Parts.{Part, parts}
use Rattle.dates.specs.Believed.Grammar.{DateIs}
use Rattle.dates.specs.Believed.Answers.{moment_of, Told, told}
use Rattle.dates.specs.declared.form.Written.{Written}

-- accepted with a value
abbrev pub accepted_with : ℤ → Told
accepted_with value = record { number = accepted; position = 0; count = 0; value = value }

-- refused with a number at a position
abbrev pub refused_at : ℕ → ℕ → Told
refused_at number position = record { number = number; position = position; count = 0; value = pos 0 }

-- what is said of the parts of a body with this start, and of the answer
pub record Settled (l : List Part) (start : ℕ) (r : Result ℤ Fault) : Type 0 where
  -- they write one date at most
  pub one_date : (w v : Written) → DateIs l w → DateIs l v → w ≡ v
  -- a date of the form that says a moment: accepted, with its seconds
  pub possible : (w : Written) (value : ℤ) → DateIs l w → moment_of w ≡ Some value → told r ≡ accepted_with value
  -- a date of the form that says none: 14 at the start
  pub impossible : (w : Written) → DateIs l w → moment_of w ≡ None → told r ≡ refused_at date_impossible start
  -- no date of the form: 12 at the start
  pub no_date : ((w : Written) → DateIs l w → ⊥) → told r ≡ refused_at date_form start

-- of a body that scans without fault, with its positions in order, in a message within the limit
abbrev pub ByGrammar : List ℕ → ℕ → ℕ → Result ℤ Fault → Type 0
ByGrammar message start end r =
    length message ≤ message_limit → start ≤ end → end ≤ length message → fault_of (scan (take end message) start) ≡ answer.Accepted 0
    → Settled (parts class_table (scan (take end message) start)) start r
