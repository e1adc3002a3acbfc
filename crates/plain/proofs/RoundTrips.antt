-- Condition 2: reading a plain text gives what it was made of; and equal plain texts mean equal addresses. Assumes nothing.
use Prim.Native.Nat.{ℕ, ◌≤◌}
use native.Mathlib.Omega.{arith}
use mathlib.Core.Path.{◌≡◌, sym, ap, ◌∙◌}
use mathlib.Core.List.{List, []}
use lib.ListN.{length, take}
use lib.Seq.{take-length}
use Rattle.octets.specs.Believed.Classes.{class_table}
use Rattle.octets.specs.Believed.Numbers.{message_limit, level_limit}
use Rattle.octets.specs.declared.answers.Answer.TheVariants.{Accepted, Refused}
use Rattle.scanner.specs.Believed.Scanning.{symbols_of, scan}
use Rattle.scanner.specs.Believed.Answers.{fault_of}
use Rattle.scanner.proofs.BodyChecks.{in_order}
use Rattle.grammar.specs.Believed.Grammar.{levels}
use Rattle.grammar.specs.Believed.Language.{accepted}
use Rattle.grammar.specs.Believed.Rfc733.{Derivation, DerivedList}
use Rattle.grammar.proofs.Rfc733.Trees.{list_then}
use Rattle.grammar.specs.Executable.Trees733.{as_forest}
use Rattle.grammar.proofs.Rfc733.Derivations.{forest_levels, forest_derived, tree_derived}
use Rattle.grammar.specs.Executable.Machine733.{answer}
use Rattle.grammar.proofs.Rfc733.Condition3.{one_derivation, answer_accepts}
use Rattle.plain.specs.Believed.Meaning.{Addresses, meaning, SameAddresses}
use Rattle.plain.specs.Believed.PlainText.{addresses_text, plain_text}
use Rattle.plain.specs.Ties.Walking.{written_text}
use Rattle.plain.specs.Believed.RoundTrip.{AcceptedBody, RoundTrip}
use Rattle.plain.proofs.TreeMeanings.{list_meaning, meaning_forest, addresses_depth, list_depth}
use Rattle.plain.proofs.Writable.{WritableList, list_of}
use Rattle.plain.proofs.Reading.{seen_faultless, seen_marks, seen_parted, reads_plain}
use Rattle.plain.proofs.Growing.{grown}
use Rattle.plain.proofs.Walks.{walk_plain}
use Rattle.plain.proofs.ScannedWords.{WritableSymbols, writable_symbols, writable_list}

-- the text scans without fault to symbols with a derivation of this meaning
pub record Reread (t : List ℕ) (m : Addresses) : Type 0 where
  pub again : Derivation
  pub faultless : fault_of (scan t 0) ≡ Accepted 0
  pub derived : DerivedList again (symbols_of (scan t 0))
  pub means : meaning again ≡ m
  pub deep : levels again ≡ addresses_depth m

pub reread_writable : (w : WritableList) → Reread (addresses_text (list_of w) []) (list_of w)
reread_writable w =
    let v = seen_parted 0 ((reads_plain w).from 0) in
    let (t, d, e, n) = grown w _ (seen_marks v) in
    record { again = as_forest t; faultless = seen_faultless v; derived = forest_derived d; means = meaning_forest t ∙ e; deep = forest_levels t ∙ n }

-- the symbols of any text, if they are derived
reread : (text : List ℕ) (at : ℕ) {k : Derivation} → DerivedList k (symbols_of (scan text at)) → Reread (plain_text k) (meaning k) × (levels k ≡ addresses_depth (meaning k))
reread text at {k} d =
    let (l, e, d') = tree_derived d in
    let m : meaning k ≡ list_meaning l = ap meaning e ∙ meaning_forest l in
    let g : WritableSymbols (list_then l []) = rw d'.yields (writable_symbols text at) in
    let (w, f) = writable_list l g in
    let q : meaning k ≡ list_of w = m ∙ sym f in
    (rw q (reread_writable w), ap levels e ∙ forest_levels l ∙ list_depth l ∙ ap addresses_depth (sym m))

-- a plain text within the message limit is accepted, with the same addresses, nesting, words and nodes, and written again it is the same bytes
pub round_trip : {message : List ℕ} {start end : ℕ} {k : Derivation} → AcceptedBody message start end k → length (plain_text k) ≤ message_limit → RoundTrip k
round_trip {message} {start} {end} {k} a h =
    let (r, n) = reread (take end message) start a.list.derived in
    let t : List ℕ = plain_text k in
    record {
      again = r.again;
      accepted =
          record {
            scans = in_order Refused t 0 (length t) (fault_of (scan (take (length t) t) 0)) h (omega arith) (omega arith) ∙ rw take-length r.faultless;
            list = record { derived = rw take-length r.derived; within = omega (arith, r.deep, n, a.list.within) };
          };
      same = r.means;
      text = ap (λ m. addresses_text m []) r.means;
    }

-- .. and no other derivation of it is accepted
pub only_round_trip : {message : List ℕ} {start end : ℕ} {k again : Derivation} → AcceptedBody message start end k → length (plain_text k) ≤ message_limit
    → AcceptedBody (plain_text k) 0 (length (plain_text k)) again → SameAddresses again k × (plain_text again ≡ plain_text k)
only_round_trip a h b =
    let r = round_trip a h in
    let e = one_derivation b.list.derived r.accepted.list.derived in
    (ap meaning e ∙ r.same, ap plain_text e ∙ r.text)

-- the reader's verdict on an accepted body is its derivation
pub verdict : {message : List ℕ} {start end : ℕ} {k : Derivation} → AcceptedBody message start end k → answer level_limit (symbols_of (scan (take end message) start)) ≡ accepted k
verdict a = answer_accepts level_limit a.list.derived a.list.within

-- what the walk writes of an accepted body is its plain text
pub written_accepted : {message : List ℕ} {start end : ℕ} {k : Derivation} → AcceptedBody message start end k → written_text class_table (take end message) start ≡ plain_text k
written_accepted a = walk_plain a.list.derived

-- two accepted bodies have the same plain text exactly if they have the same addresses
pub same_text : {message other : List ℕ} {start end start' end' : ℕ} {k k' : Derivation} → AcceptedBody message start end k → AcceptedBody other start' end' k'
    → (plain_text k ≡ plain_text k' → SameAddresses k k') × (SameAddresses k k' → plain_text k ≡ plain_text k')
same_text {message} {other} {start} {end} {start'} {end'} {k} {k'} a b = (there, λ e. ap (λ m. addresses_text m []) e)
  where
    there : plain_text k ≡ plain_text k' → SameAddresses k k'
    there e =
        let r = (reread (take end message) start a.list.derived).0 in
        let r' = (reread (take end' other) start' b.list.derived).0 in
        let d : DerivedList r'.again (symbols_of (scan (plain_text k) 0)) = rw e r'.derived in
        sym r.means ∙ ap meaning (one_derivation r.derived d) ∙ r'.means
