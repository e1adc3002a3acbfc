-- A whole body: the verdict, and what follows from it for the answer and the table. Assumes nothing.
use mathlib.Core.Path.{◌≡◌, refl, sym, ap, subst, ◌∙◌}
use mathlib.Core.Bool.{Bool}
use mathlib.Core.List.{List, [], ◌∷◌}
use Prim.Native.Nat.{ℕ}
use native.Mathlib.Nat.{zero-add}
use native.Mathlib.Omega.{arith}
use lib.ListN.{take}
use lib.Seq.{sets, length-take-le}
use Rattle.octets.specs.Believed.Classes.{class_table}
use Rattle.octets.specs.Believed.Numbers.{level_limit, no_list_goes_on}
use Rattle.octets.specs.declared.answers.Answer.{Answer}
use Rattle.octets.specs.declared.answers.Answer.TheVariants.{Accepted, Refused}
use Rattle.octets.proofs.AnswerLaws.{answered}
use Rattle.records.specs.Believed.AddressRecords.{table_bytes}
use Rattle.scanner.specs.Believed.Answers.{body_checked}
use Rattle.scanner.proofs.BodyChecks.{Ordered, refused_body, clean_body, body_case, when_refused, not_passed, in_its_order}
use Rattle.scanner.specs.declared.Next.{Next}
use Rattle.scanner.specs.Believed.Answers.{found_at}
use Rattle.grammar.specs.Believed.Language.{unfit, accepted, refused}
use Rattle.grammar.specs.Executable.Machine733.{as_forests, answer, top, list, run, judge}
use Rattle.grammar.proofs.Rfc733.Condition3.{decides}
use Rattle.grammar.specs.Executable.Trees733.{as_forest, Class, Lexeme, Sym, of, AddressList, idle, empty}
use Rattle.grammar.proofs.Rfc733.Complete.{done_list, complete_done_list}
use Rattle.grammar.proofs.Symbols.{each_of}
use Rattle.grammar.proofs.Rfc733.Readers.{ListEnds, ends_list}
use Rattle.grammar.proofs.Rfc733.TreeRecords.{tree_records, tree_count}
use Rattle.addresses.specs.Believed.Editions.{edition733}
use Rattle.addresses.specs.Believed.Outcome.{Outcome, AnsweredBy, refusal, outcome}
use Rattle.addresses.specs.Believed.Condition3.{Condition3}
use Rattle.addresses.specs.Ties.Steps.{symbols_from, symbols_on, symbols_ahead, lexeme_at, ListRead, ListStops}
use Rattle.addresses.specs.Ties.Whole.{Fitting, IsListed, IsRefused, FaultFirst}
use Rattle.addresses.specs.declared.Frame.{Frame}
use Rattle.addresses.proofs.AnyEdition as any

-- the outermost list, of at most so many levels
abbrev pub outermost : ℕ → Frame
outermost limit = record { level = record { left = limit; parent = 0 }; number = 0 }

-- ---- the verdict

at_the_end : (limit : ℕ) (l : AddressList) → judge (run limit (done_list top l) []) ≡ accepted l
at_the_end limit l = rw (complete_done_list top l)

-- a closing mark closes nothing there
not_closed : (limit : ℕ) (l : AddressList) (class : Class) (u : Lexeme) (ys : List Sym) → ListEnds (of class u ∷ ys) → judge (run limit (done_list top l) (of class u ∷ ys)) ≡ refused unfit (of class u ∷ ys)
not_closed limit l class u ys v =
    each_of (λ c. judge (run limit (done_list top l) (of c u ∷ ys)) ≡ refused unfit (of c u ∷ ys)) ends_list (rw (complete_done_list top l), (rw (complete_done_list top l), tt)) class v

module _ (classes text : List ℕ) where
  -- of a list from a position on, with so many levels
  module _ (limit at : ℕ) where
    pub verdict_listed : {last free : ℕ} {table after : List ℕ} (ahead : Next) (l : ListRead classes text at (outermost limit) table after ahead last free) → symbols_ahead classes text ahead ≡ [] → answer limit (symbols_from classes text at) ≡ accepted (as_forest l.tree)
    verdict_listed ahead l e = ap as_forests (ap judge (rw (zero-add limit) at (l.reads top tt) ∙ ap (run limit (done_list top l.tree)) e) ∙ at_the_end limit l.tree)

    pub verdict_stops : {number-told place : ℕ} (s : ListStops classes text at (outermost limit) number-told place) → answer limit (symbols_from classes text at) ≡ refused s.why s.rest
    verdict_stops s = ap as_forests (rw (zero-add limit) at (s.stops top tt))

    pub verdict_closed : {last free a b size : ℕ} {apart : Bool} {class : Class} {table after : List ℕ} → ListRead classes text at (outermost limit) table after (found_at class a b size apart) last free → answer limit (symbols_from classes text at) ≡ refused unfit (symbols_on classes text class a b apart)
    verdict_closed {a = a} {b = b} {apart = apart} {class = class} l = ap as_forests (ap judge (subst (λ (n : ℕ). run n (list top (idle empty)) (symbols_from classes text at) ≡ run n (done_list top l.tree) (of class (lexeme_at classes text class a b apart) ∷ symbols_from classes text b)) (zero-add limit) (l.reads top tt)) ∙ not_closed limit l.tree class (lexeme_at classes text class a b apart) (symbols_from classes text b) l.ends)

  pub whole_listed : {at last free : ℕ} {table after : List ℕ} (ahead : Next) → ListRead classes text at (outermost level_limit) table after ahead last free → symbols_ahead classes text ahead ≡ [] → IsListed (answer level_limit) classes text at table after free
  whole_listed {at} {table = table} ahead l e =
      record {
        derivation = as_forest l.tree;
        verdict_is = verdict_listed level_limit at ahead l e;
        count_is = omega (arith, l.count, tree_count l.tree);
        stored = l.stored ∙ ap (λ rs. sets table 0 (table_bytes rs)) (sym (tree_records l.tree));
      }

  pub whole_stops : {at number-told place : ℕ} → ListStops classes text at (outermost level_limit) number-told place → IsRefused (answer level_limit) classes text at number-told place
  whole_stops {at} s = record { why = s.why; rest = s.rest; verdict_is = verdict_stops level_limit at s; number_is = s.number_is; place_is = s.place_is }

  pub whole_closed : {at last free a b size : ℕ} {apart : Bool} {class : Class} {table after : List ℕ} → ListRead classes text at (outermost level_limit) table after (found_at class a b size apart) last free → IsRefused (answer level_limit) classes text at no_list_goes_on a
  whole_closed {at} l = record { why = unfit; rest = _; verdict_is = verdict_closed level_limit at l; number_is = refl; place_is = refl }

-- ---- condition 3

-- what the outcome says, condition 3 says
pub settles : (message : List ℕ) (start end : ℕ) (table : List ℕ) (r : Answer) (after : List ℕ) → AnsweredBy (outcome message start end table) r after → Condition3 message start end table r after
settles message start end table r after a = any.settles edition733 0 answer decides (omega arith) message start end table r after a

-- the two promises of the entry point
abbrev pub Promised : List ℕ → ℕ → ℕ → List ℕ → Answer → List ℕ → Type 0
Promised message start end table r after = AnsweredBy (outcome message start end table) r after × Condition3 message start end table r after

pub promised : (message : List ℕ) (start end : ℕ) (table : List ℕ) (o : Outcome) → outcome message start end table ≡ o → Promised message start end table o.answer o.table
promised message start end table o e =
    let a : AnsweredBy (outcome message start end table) o.answer o.table = answered (ap (λ (z : Outcome). z.answer) (sym e)) (ap (λ (z : Outcome). z.table) (sym e)) in
    (a, settles message start end table o.answer o.table a)

-- a body that the checks refuse
pub unfit_promised : (message : List ℕ) (start end : ℕ) (table : List ℕ) {n p : ℕ} → Refused n p ≡ body_checked Refused message start end (Accepted 0) → Promised message start end table (Refused n p) table
unfit_promised message start end table {n} {p} e = promised message start end table (refusal table n p) (not_passed message start end (refusal table) _ e)

-- a body that they pass: what is told first is its first fault, and then what is decided
pub first_promised : (message : List ℕ) (start end : ℕ) (table after : List ℕ) (r : Answer) → Ordered message start end
    → FaultFirst (answer level_limit) class_table (take end message) start table after r → Promised message start end table r after
first_promised message start end table after r o x =
    elim (body_case message start end) [
      | refused_body n p e ↦
          let q = x.faulty n p (e ∙ in_its_order message start end Refused _ o) in
          rw (q.0, q.1) (promised message start end table (refusal table n p) (when_refused message start end (refusal table) _ e))
      | clean_body c ↦
          let y = any.twice_outcome edition733 (answer level_limit) message start end c.short c.ordered c.inside c.faultless (x.clean (record { none = c.faultless })) in
          (y, settles message start end table r after y)
    ]

-- .. may be read
pub fitting : {message : List ℕ} {start end : ℕ} → Ordered message start end → Fitting (take end message) start
fitting {message} {end = end} o = let n = length-take-le end message o.inside in record { inside = omega (arith, n, o.ordered); short = omega (arith, n, o.inside, o.short) }
