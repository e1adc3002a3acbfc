-- The answer for a body that passes the checks 1 and 13, and what it is by the grammar. Assumes nothing.
use mathlib.Core.Path.{◌≡◌, refl, sym, ap, ◌∙◌}
use mathlib.Core.List.{List}
use Prim.Native.Nat.{ℕ, ◌≤◌}
use native.Mathlib.Omega.{arith}
use lib.ListN.{length, take}
use Rattle.std.specs.Prelude.{ℤ, Option, Some, None, Result, Err}
use Rattle.std.specs.Option.{ok_or}
use Rattle.octets.specs.Believed.Answers.{fault}
use Rattle.octets.specs.declared.answers.Fault.{Fault}
use Rattle.octets.specs.Believed.Classes.{class_table}
use Rattle.octets.specs.Believed.Numbers.{message_limit, date_form, date_impossible}
use Rattle.octets.specs.declared.answers.Answer.TheVariants as answer
use Rattle.scanner.specs.Believed.Scanning.{Scanned, scan}
use Rattle.scanner.specs.Believed.Answers.{fault_of, body_scanned}
use Rattle.scanner.proofs.BodyChecks.{in_order, unless_none, when_refused}
use Rattle.dates.specs.Believed.Parts.{Part, parts}
use Rattle.dates.specs.Executable.Form.{reading_of}
use Rattle.dates.specs.Ties.Steps.{left}
use Rattle.dates.specs.Believed.Answers.{told}
use Rattle.dates.specs.Believed.ByGrammar.{Settled, ByGrammar}
use Rattle.dates.specs.Believed.Outcome.{moment_answer, reading_answer, scanned_answer, refused, date_answer}
use Rattle.dates.specs.declared.form.Written.{Written}
use Rattle.dates.proofs.PartLaws.{left_here}
use Rattle.dates.proofs.GrammarLaws.{reads_right, unique}

-- what is read of parts settles them
settled : (l : List Part) (start : ℕ) → Settled l start (reading_answer start (reading_of l))
settled l start =
    let x = reads_right l in
    record {
      one_date = unique l;
      possible = λ w value d e. rw (x.read w d, e);
      impossible = λ w d e. rw (x.read w d, e);
      no_date = λ n. rw (x.unread n);
    }

module _ (message : List ℕ) (start end : ℕ) (h : length message ≤ message_limit) (k : start ≤ end) (l : end ≤ length message) where
  -- what the body scans to
  abbrev scanned : Scanned
  scanned = scan (take end message) start

  checked : date_answer message start end ≡ scanned_answer class_table start scanned
  unfolding date_answer
  checked = in_order refused message start end _ h k l

  module _ (e : fault_of scanned ≡ answer.Accepted 0) where
    -- no fault: what is read of the parts
    read : date_answer message start end ≡ reading_answer start (reading_of (parts class_table scanned))
    read = checked ∙ unless_none refused scanned _ e

    pub without_fault : (r : Option Written) → r ≡ reading_of (left class_table (take end message) start start) → reading_answer start r ≡ date_answer message start end
    without_fault r f =
        ap (λ (x : Option Written). reading_answer start x) f
        ∙ ap (λ (p : List Part). reading_answer start (reading_of p)) (left_here class_table (take end message) start start (omega arith)) ∙ sym read

    by_grammar : Settled (parts class_table scanned) start (date_answer message start end)
    by_grammar = rw read (settled (parts class_table scanned) start)

-- a body that is refused by the checks or by a fault
pub unread : (message : List ℕ) (start end : ℕ) {number p : ℕ} → answer.Refused number p ≡ body_scanned message start end → refused number p ≡ date_answer message start end
unfolding date_answer
unread message start end e = sym (when_refused message start end refused _ e)

-- no date of the form
pub no_form : (start : ℕ) {f : Fault} {r : Option Written} → r ≡ None → ◌≡◌ {A = Result Written Fault} (Err f) (ok_or r (fault date_form start))
    → ◌≡◌ {A = Result ℤ Fault} (Err f) (reading_answer start r)
no_form start {f} n e = let x : f ≡ fault date_form start = grind arith in rw (n, x)

-- a moment, or what is wrong
pub moment_or_fault : (start : ℕ) (m : Option ℤ) → ok_or m (fault date_impossible start) ≡ moment_answer start m
moment_or_fault start None = refl
moment_or_fault start (Some value) = refl

-- the two promises of the entry point
pub promised : (message : List ℕ) (start end : ℕ) {r : Result ℤ Fault} → r ≡ date_answer message start end
    → ((told r ≡ told (date_answer message start end)) × (r ≡ date_answer message start end)) × ByGrammar message start end r
promised message start end e = ((ap told e, e), rw e (by_grammar message start end))
