-- What is answered for any message and positions, in any edition and whatever is written of a list: a refusal, or what is written of its one
-- derivation. Assumes nothing.
use mathlib.Core.Path.{◌≡◌, refl, sym, ap, ◌∙◌}
use mathlib.Core.List.{List}
use Prim.Native.Nat.{ℕ, ◌≤◌}
use native.Mathlib.Omega.{arith}
use lib.ListN.{length, take}
use Rattle.octets.specs.Believed.Numbers.{message_limit, level_limit}
use Rattle.octets.specs.declared.answers.Answer.TheVariants.{Accepted, Refused}
use Rattle.scanner.specs.Believed.Symbols.{Symbol}
use Rattle.scanner.specs.Believed.Scanning.{scan}
use Rattle.scanner.specs.Believed.Answers.{fault_of, body_scanned}
use Rattle.scanner.specs.declared.Class.{Class}
use Rattle.scanner.proofs.BodyChecks.{in_order, unless_refused, CleanBy, refused_body, clean_body, body_case_by, when_refused_by, Clean, body_case, when_refused}
use Rattle.grammar.specs.Believed.Grammar.{Forest, Derived, levels}
use Rattle.grammar.specs.Believed.Language.{Refusal, Verdict, accepted, refused, number, start_of, Right}
use Rattle.grammar.specs.Believed.Rfc733.{Derivation}
use Rattle.grammar.specs.Executable.{Decides}
use Rattle.grammar.proofs.Any.Reader.{answer_accepts, answer_derives}
use Rattle.grammar.specs.Executable.Machine733.{answer}
use Rattle.grammar.proofs.Rfc733.Condition3.{decides}
use Rattle.addresses.specs.Believed.Editions.{Edition, edition733}
use Rattle.addresses.specs.Believed.Editions.{symbols_in, body_symbols}
use Rattle.addresses.specs.Believed.Outcome.{by_verdict, read_in, read_within, body_read}
use Rattle.addresses.specs.Believed.Condition3.{IsListIn, IsList}
use Rattle.addresses.proofs.AnyEdition.{verdict_decides}

-- ---- in any edition

-- a body within its message that scans without fault to a list with this derivation
pub record ListBodyIn {N : Type 0} (edition : Edition N) (message : List ℕ) (start end : ℕ) (k : Forest Class N) : Type 0 where
  pub clean : CleanBy edition.classes message start end
  pub list : IsListIn edition (symbols_in edition message start end) k

-- a body that is refused with this number at this position, whatever is answered of it
abbrev pub RefusedIn : {N : Type 0} → Edition N → (List (Symbol Class) → Verdict Class (Forest Class N)) → List ℕ → ℕ → ℕ → ℕ → ℕ → Type 1
RefusedIn {N} edition verdict message start end n p = (A : Type 0) (refuse : ℕ → ℕ → A) (derive : Forest Class N → A) → read_in edition verdict refuse derive message start end ≡ refuse n p

-- refused, or a list
pub data JudgedIn {N : Type 0} (edition : Edition N) (verdict : List (Symbol Class) → Verdict Class (Forest Class N)) (message : List ℕ) (start end : ℕ) : Type 1 where
  refused_at : (n p : ℕ) → RefusedIn edition verdict message start end n p → JudgedIn edition verdict message start end
  listed : (k : Forest Class N) → ListBodyIn edition message start end k → JudgedIn edition verdict message start end

-- a clean body that is a list
pub list_body_in : {N : Type 0} (edition : Edition N) {message : List ℕ} {start end : ℕ} {k : Forest Class N} → CleanBy edition.classes message start end → IsListIn edition (symbols_in edition message start end) k → ListBodyIn edition message start end k
list_body_in edition x l = record { clean = x; list = l }

module _ {N : Type 0} (edition : Edition N) (least : ℕ) (answer_of : ℕ → List (Symbol Class) → Verdict Class (Forest Class N)) (right : Decides edition.grammar edition.list least answer_of) (below : least ≤ level_limit) where
  -- of a list it is answered what is to be answered of its derivation
  pub listed_read_in : {message : List ℕ} {start end : ℕ} {k : Forest Class N} → ListBodyIn edition message start end k
      → {A : Type 0} (refuse : ℕ → ℕ → A) (derive : Forest Class N → A) → read_in edition (answer_of level_limit) refuse derive message start end ≡ derive k
  listed_read_in {message} {start} {end} b refuse derive =
      verdict_decides edition (answer_of level_limit) message start end b.clean.short b.clean.ordered b.clean.inside b.clean.faultless refuse derive
      ∙ ap (by_verdict refuse derive end) (answer_accepts edition.grammar edition.list least answer_of right level_limit below b.list.derived b.list.within)

  module _ (message : List ℕ) (start end : ℕ) where
    by_verdict_lem : CleanBy edition.classes message start end → (v : Verdict Class (Forest Class N)) → answer_of level_limit (symbols_in edition message start end) ≡ v → JudgedIn edition (answer_of level_limit) message start end
    by_verdict_lem x (accepted k) e =
        let d = answer_derives edition.grammar edition.list least answer_of right level_limit below {xs = symbols_in edition message start end} e in
        listed k (list_body_in edition x (record { derived = d.0; within = d.1 }))
    by_verdict_lem x (refused why rest) e =
        refused_at (number why) (start_of end rest)
        (λ A refuse derive. verdict_decides edition (answer_of level_limit) message start end x.short x.ordered x.inside x.faultless refuse derive ∙ ap (by_verdict refuse derive end) e)

    pub judged_in : JudgedIn edition (answer_of level_limit) message start end
    judged_in =
        elim (body_case_by edition.classes message start end) [
          | refused_body n p e ↦ refused_at n p (λ A refuse derive. when_refused_by edition.classes message start end refuse _ e)
          | clean_body x ↦ by_verdict_lem x _ refl
        ]

-- a body that is refused as condition 3 has it, whatever is answered of it
pub record RightlyRead {N : Type 0} (edition : Edition N) (verdict : List (Symbol Class) → Verdict Class (Forest Class N)) (message : List ℕ) (start end : ℕ) : Type 1 where
  pub why : Refusal
  pub rest : List (Symbol Class)
  pub right : Right (Derived edition.grammar edition.list) levels level_limit (symbols_in edition message start end) (refused why rest)
  pub reads : RefusedIn edition verdict message start end (number why) (start_of end rest)

-- the verdict on symbols that are no list: a refusal, as condition 3 has it
pub record RightlyRefused {N : Type 0} (edition : Edition N) (verdict : List (Symbol Class) → Verdict Class (Forest Class N)) (xs : List (Symbol Class)) : Type 0 where
  pub why : Refusal
  pub rest : List (Symbol Class)
  pub right : Right (Derived edition.grammar edition.list) levels level_limit xs (refused why rest)
  pub verdict_is : verdict xs ≡ refused why rest

module _ {N : Type 0} (edition : Edition N) (least : ℕ) (answer_of : ℕ → List (Symbol Class) → Verdict Class (Forest Class N)) (right : Decides edition.grammar edition.list least answer_of) (below : least ≤ level_limit) where
  pub no_list_refused : (xs : List (Symbol Class)) → ((k : Forest Class N) → IsListIn edition xs k → ⊥) → RightlyRefused edition (answer_of level_limit) xs
  no_list_refused xs none = by (answer_of level_limit xs) refl
    where
      by : (v : Verdict Class (Forest Class N)) → answer_of level_limit xs ≡ v → RightlyRefused edition (answer_of level_limit) xs
      by (accepted k) e = let d = answer_derives edition.grammar edition.list least answer_of right level_limit below {xs = xs} e in absurd (none k (record { derived = d.0; within = d.1 }))
      by (refused why rest) e = record { why = why; rest = rest; right = rw e at (right.right level_limit below xs); verdict_is = e }

  -- a clean body that is no list
  pub unlisted_in : (message : List ℕ) (start end : ℕ) → CleanBy edition.classes message start end → ((k : Forest Class N) → IsListIn edition (symbols_in edition message start end) k → ⊥) → RightlyRead edition (answer_of level_limit) message start end
  unlisted_in message start end x none =
      let r = no_list_refused (symbols_in edition message start end) none in
      record {
        why = r.why;
        rest = r.rest;
        right = r.right;
        reads = λ A refuse derive. verdict_decides edition (answer_of level_limit) message start end x.short x.ordered x.inside x.faultless refuse derive ∙ ap (by_verdict refuse derive end) r.verdict_is;
      }

-- ---- in RFC 733

abbrev pub ListBody : List ℕ → ℕ → ℕ → Derivation → Type 0
ListBody message start end k = ListBodyIn edition733 message start end k

abbrev pub RefusedBody : List ℕ → ℕ → ℕ → ℕ → ℕ → Type 1
RefusedBody message start end n p = RefusedIn edition733 (answer level_limit) message start end n p

abbrev pub Judged : List ℕ → ℕ → ℕ → Type 1
Judged message start end = JudgedIn edition733 (answer level_limit) message start end

module _ (message : List ℕ) (start end : ℕ) (short : length message ≤ message_limit) (ordered : start ≤ end) (inside : end ≤ length message) where
  -- a fault of scanning is refused ..
  pub faulty_read : {n p : ℕ} → Refused n p ≡ fault_of (scan (take end message) start) → RefusedBody message start end n p
  faulty_read e A refuse derive = in_order refuse message start end _ short ordered inside ∙ unless_refused refuse (scan (take end message) start) _ e

  -- .. and where there is none, the verdict on the symbols decides, with any limit of levels
  pub decided_read : (limit : ℕ) → fault_of (scan (take end message) start) ≡ Accepted 0 → {v : Verdict Class Derivation} → answer limit (body_symbols message start end) ≡ v
      → {A : Type 0} (refuse : ℕ → ℕ → A) (derive : Derivation → A) → read_within limit refuse derive message start end ≡ by_verdict refuse derive end v
  decided_read limit f e refuse derive = verdict_decides edition733 (answer limit) message start end short ordered inside f refuse derive ∙ ap (by_verdict refuse derive end) e

  -- a refusal by the verdict
  pub refused_read : fault_of (scan (take end message) start) ≡ Accepted 0 → {why : Refusal} {rest : List (Symbol Class)} → answer level_limit (body_symbols message start end) ≡ refused why rest → RefusedBody message start end (number why) (start_of end rest)
  refused_read f e A refuse derive = decided_read level_limit f e refuse derive

pub listed_read : {message : List ℕ} {start end : ℕ} {k : Derivation} → ListBody message start end k → {A : Type 0} (refuse : ℕ → ℕ → A) (derive : Derivation → A) → body_read refuse derive message start end ≡ derive k
listed_read b refuse derive = listed_read_in edition733 0 answer decides (omega arith) b refuse derive

-- a refusal is no acceptance
never : {n p m : ℕ} → Refused n p ≡ Accepted m → ⊥
never e = let z : ◌≡◌ {A = ℕ} 0 1 = cc in omega arith

module _ (message : List ℕ) (start end : ℕ) where
  pub list_body : {k : Derivation} → Clean message start end → IsList (body_symbols message start end) k → ListBody message start end k
  list_body x l = list_body_in edition733 x l

  pub judged : Judged message start end
  judged = judged_in edition733 0 answer decides (omega arith) message start end

  -- a body that passes the checks and scans without fault
  pub scanned_body : body_scanned message start end ≡ Accepted 0 → {k : Derivation} → IsList (body_symbols message start end) k → ListBody message start end k
  scanned_body e l = elim (body_case message start end) [ refused_body n p f ↦ absurd (never (f ∙ e)) | clean_body x ↦ list_body x l ]

  -- .. that is no list
  pub scanned_unlisted : body_scanned message start end ≡ Accepted 0 → ((k : Derivation) → IsList (body_symbols message start end) k → ⊥) → RightlyRead edition733 (answer level_limit) message start end
  scanned_unlisted e n =
      elim (body_case message start end) [ refused_body m p f ↦ absurd (never (f ∙ e)) | clean_body x ↦ unlisted_in edition733 0 answer decides (omega arith) message start end x n ]

  -- a body that fails the checks, or has a fault
  pub unscanned : {n p : ℕ} → body_scanned message start end ≡ Refused n p → RefusedBody message start end n p
  unscanned e A refuse derive = when_refused message start end refuse _ (sym e)

  pub list_scanned : {k : Derivation} → ListBody message start end k → body_scanned message start end ≡ Accepted 0
  list_scanned b = in_order Refused message start end _ b.clean.short b.clean.ordered b.clean.inside ∙ b.clean.faultless
