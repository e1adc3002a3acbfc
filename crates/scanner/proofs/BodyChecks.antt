-- The checks before a body is looked at, number 1 and then number 13, and the first fault of scanning. Assumes nothing.
use mathlib.Core.Path.{◌≡◌, refl, sym, ◌∙◌}
use mathlib.Core.Bool.{Bool, true, false}
use mathlib.Core.List.{List, [], ◌∷◌}
use Prim.Native.Nat.{ℕ, ◌≤◌, ◌<◌}
use native.Mathlib.Decide.{dec_lt}
use native.Mathlib.Omega.{arith}
use borrow.Author.Tests.{lt-ltb, le-ltb}
use lib.Dec.{ltb}
use lib.ListN.{length, take}
use types.Run.{OneOf, miss}
use denote.Enum.Declared.{tag_of}
use Rattle.octets.specs.Believed.Choice.{pick, either}
use Rattle.octets.specs.Believed.Classes.{class_table}
use Rattle.octets.specs.Believed.Numbers.{message_limit, message_too_long, body_out_of_order}
use Rattle.octets.specs.declared.answers.Answer.{Answer}
use Rattle.octets.specs.declared.answers.Answer.TheVariants.{Accepted, Refused}
use Rattle.octets.specs.contracts.answers.Answer.{the_type}
use Rattle.octets.proofs.ChoiceLaws.{either_true}
use Rattle.scanner.specs.Believed.Scanning.{Scanned, ended, next, fault_at, scan_by, scan}
use Rattle.scanner.specs.Believed.Answers.{body_checked, unless_fault, fault_of, scanned_by, body_scanned}

module _ {A : Type 0} (refused : ℕ → ℕ → A) (message : List ℕ) (start end : ℕ) (otherwise : A) where
  pub too_long : message_limit < length message → body_checked refused message start end otherwise ≡ refused message_too_long message_limit
  too_long h = rw (lt-ltb message_limit (length message) h)

  pub out_of_order : length message ≤ message_limit → end < start → body_checked refused message start end otherwise ≡ refused body_out_of_order 0
  out_of_order h k = rw (le-ltb message_limit (length message) h, lt-ltb end start k)

  pub past_the_end : length message ≤ message_limit → length message < end → body_checked refused message start end otherwise ≡ refused body_out_of_order 0
  past_the_end h k = rw (le-ltb message_limit (length message) h, lt-ltb (length message) end k, either_true (ltb end start))

  pub in_order : length message ≤ message_limit → start ≤ end → end ≤ length message → body_checked refused message start end otherwise ≡ otherwise
  in_order h k l = rw (le-ltb message_limit (length message) h, le-ltb end start k, le-ltb (length message) end l)

-- ---- the first fault of scanning

module _ {A : Type 0} (refused : ℕ → ℕ → A) where
  -- where there is a fault ..
  pub unless_refused : (s : Scanned) (otherwise : A) {number p : ℕ} → Refused number p ≡ fault_of s → unless_fault refused s otherwise ≡ refused number p
  unfolding unless_fault
  unless_refused ended otherwise e = absurd (let z : ◌≡◌ {A = ℕ} 0 1 = cc in omega arith)
  unless_refused (next x rest) otherwise e = unless_refused rest otherwise e
  unless_refused (fault_at n q) otherwise {number} {p} e = let i : number ≡ n = cc in let j : p ≡ q = cc in rw (i, j)

  -- .. and where there is none
  pub unless_none : (s : Scanned) (otherwise : A) → fault_of s ≡ Accepted 0 → unless_fault refused s otherwise ≡ otherwise
  unfolding unless_fault
  unless_none ended otherwise e = refl
  unless_none (next x rest) otherwise e = unless_none rest otherwise e
  unless_none (fault_at n p) otherwise e = absurd (let z : ◌≡◌ {A = ℕ} 0 1 = cc in omega arith)

-- where there is no fault, none is scanned
pub no_fault : (s : Scanned) {number p : ℕ} → fault_of s ≡ Accepted 0 → s ≡ fault_at number p → ⊥
unfolding unless_fault
no_fault s {number} {p} h e = let f : Refused number p ≡ Accepted 0 = rw e at h in let z : ◌≡◌ {A = ℕ} 0 1 = cc in omega arith

-- any but Refused
abbrev pub NotRefused : Answer → Type 0
NotRefused r = OneOf (0 ∷ 2 ∷ []) (tag_of the_type r)

not_refused : {r : Answer} {number p : ℕ} → NotRefused r → r ≡ Refused number p → ⊥
not_refused o e = miss (0 ∷ 2 ∷ []) 1 tt (rw e at o)

-- a scan gives the first fault or none
pub fault_or_none : (s : Scanned) (r : Answer) → r ≡ fault_of s → NotRefused r → fault_of s ≡ Accepted 0
unfolding unless_fault
fault_or_none ended r e o = refl
fault_or_none (next x rest) r e o = fault_or_none rest r e o
fault_or_none (fault_at n p) r e o = absurd (not_refused o e)

-- ---- a body within its message, and that within its limit

pub record Ordered (message : List ℕ) (start end : ℕ) : Type 0 where
  pub short : length message ≤ message_limit
  pub ordered : start ≤ end
  pub inside : end ≤ length message

-- the checks refuse a body, or it is one
pub data CheckCase (message : List ℕ) (start end : ℕ) : Type 0 where
  unfit : (number p : ℕ) → Refused number p ≡ body_checked Refused message start end (Accepted 0) → CheckCase message start end
  fit : Ordered message start end → CheckCase message start end

module _ (message : List ℕ) (start end : ℕ) where
  check_case : CheckCase message start end
  check_case =
      elim (dec_lt message_limit (length message)) [
        | yes h ↦ unfit message_too_long message_limit (sym (too_long Refused message start end (Accepted 0) h))
        | no h ↦ elim (dec_lt end start) [
          | yes k ↦ unfit body_out_of_order 0 (sym (out_of_order Refused message start end (Accepted 0) (omega arith) k))
          | no k ↦ elim (dec_lt (length message) end) [
            | yes l ↦ unfit body_out_of_order 0 (sym (past_the_end Refused message start end (Accepted 0) (omega arith) l))
            | no l ↦ fit (record { short = omega arith; ordered = omega arith; inside = omega arith })
          ]
        ]
      ]

  -- what `check_body` does not refuse
  pub passed : (r : Answer) → r ≡ body_checked Refused message start end (Accepted 0) → NotRefused r → Ordered message start end
  passed r e o = elim check_case [ unfit number p f ↦ absurd (not_refused o (e ∙ sym f)) | fit x ↦ x ]

  module _ {A : Type 0} (refused : ℕ → ℕ → A) (otherwise : A) where
    pub in_its_order : Ordered message start end → body_checked refused message start end otherwise ≡ otherwise
    in_its_order x = in_order refused message start end otherwise x.short x.ordered x.inside

    by_tests : (a b : Bool) {number p : ℕ} (s : Scanned) → Refused number p ≡ pick a (Refused message_too_long message_limit) (pick b (Refused body_out_of_order 0) (fault_of s))
        → pick a (refused message_too_long message_limit) (pick b (refused body_out_of_order 0) (unless_fault refused s otherwise)) ≡ refused number p
    by_tests true b {number} {p} s e = let i : number ≡ message_too_long = cc in let j : p ≡ message_limit = cc in rw (i, j)
    by_tests false true {number} {p} s e = let i : number ≡ body_out_of_order = cc in let j : p ≡ 0 = cc in rw (i, j)
    by_tests false false s e = unless_refused refused s otherwise e

    by_checks : {number p : ℕ} (s : Scanned) → Refused number p ≡ body_checked Refused message start end (fault_of s) → body_checked refused message start end (unless_fault refused s otherwise) ≡ refused number p
    by_checks s e = by_tests (ltb message_limit (length message)) (either (ltb end start) (ltb (length message) end)) s e

    -- what it refuses is refused so, whatever is answered of others
    pub not_passed : {number p : ℕ} → Refused number p ≡ body_checked Refused message start end (Accepted 0) → body_checked refused message start end otherwise ≡ refused number p
    unfolding unless_fault
    not_passed e = by_checks ended e

-- ---- a body, scanned by any classes

-- it passes the checks and has no fault
pub record CleanBy (classes message : List ℕ) (start end : ℕ) : Type 0 where
  pub short : length message ≤ message_limit
  pub ordered : start ≤ end
  pub inside : end ≤ length message
  pub faultless : fault_of (scan_by classes (take end message) start) ≡ Accepted 0

-- a body is refused, or clean
pub data BodyCaseBy (classes message : List ℕ) (start end : ℕ) : Type 0 where
  refused_body : (number p : ℕ) → Refused number p ≡ scanned_by classes message start end → BodyCaseBy classes message start end
  clean_body : CleanBy classes message start end → BodyCaseBy classes message start end

-- a scan has a first fault or none
data FaultCase (r : Answer) : Type 0 where
  faulty : (number p : ℕ) → Refused number p ≡ r → FaultCase r
  faultless : r ≡ Accepted 0 → FaultCase r

fault_case : (s : Scanned) → FaultCase (fault_of s)
unfolding unless_fault
fault_case ended = faultless refl
fault_case (next x rest) = fault_case rest
fault_case (fault_at number p) = faulty number p refl

module _ (classes message : List ℕ) (start end : ℕ) where
  pub body_case_by : BodyCaseBy classes message start end
  body_case_by =
      elim (check_case message start end) [
        | unfit number p f ↦ refused_body number p (sym (not_passed message start end Refused _ f))
        | fit x ↦ elim (fault_case (scan_by classes (take end message) start)) [
          | faulty number p e ↦ refused_body number p (e ∙ sym (in_its_order message start end Refused _ x))
          | faultless e ↦ clean_body (record { short = x.short; ordered = x.ordered; inside = x.inside; faultless = e })
        ]
      ]

  -- what `scan_by` does not refuse
  pub clean_by : (r : Answer) → r ≡ scanned_by classes message start end → NotRefused r → CleanBy classes message start end
  clean_by r e o = elim body_case_by [ refused_body number p f ↦ absurd (not_refused o (e ∙ sym f)) | clean_body x ↦ x ]

  module _ {A : Type 0} (refused : ℕ → ℕ → A) (otherwise : A) where
    -- .. so something else is answered
    pub when_clean_by : CleanBy classes message start end → body_checked refused message start end (unless_fault refused (scan_by classes (take end message) start) otherwise) ≡ otherwise
    when_clean_by x = in_order refused message start end _ x.short x.ordered x.inside ∙ unless_none refused (scan_by classes (take end message) start) otherwise x.faultless

    -- a refused one is so with the same number and position, whatever is answered of others
    pub when_refused_by : {number p : ℕ} → Refused number p ≡ scanned_by classes message start end
        → body_checked refused message start end (unless_fault refused (scan_by classes (take end message) start) otherwise) ≡ refused number p
    when_refused_by e = by_checks message start end refused otherwise (scan_by classes (take end message) start) e

-- ---- a body that `scan_body` has looked at

abbrev pub Clean : List ℕ → ℕ → ℕ → Type 0
Clean message start end = CleanBy class_table message start end

module _ (message : List ℕ) (start end : ℕ) where
  pub body_case : BodyCaseBy class_table message start end
  body_case = body_case_by class_table message start end

  -- it is not refused ..
  pub clean : (r : Answer) → r ≡ body_scanned message start end → NotRefused r → Clean message start end
  clean r e o = clean_by class_table message start end r e o

  module _ {A : Type 0} (refused : ℕ → ℕ → A) (otherwise : A) where
    -- .. so something else is answered
    pub when_clean : Clean message start end → body_checked refused message start end (unless_fault refused (scan (take end message) start) otherwise) ≡ otherwise
    when_clean x = when_clean_by class_table message start end refused otherwise x

    -- it is refused, and so with the same number and position
    pub when_refused : {number p : ℕ} → Refused number p ≡ body_scanned message start end → body_checked refused message start end (unless_fault refused (scan (take end message) start) otherwise) ≡ refused number p
    when_refused e = when_refused_by class_table message start end refused otherwise e
