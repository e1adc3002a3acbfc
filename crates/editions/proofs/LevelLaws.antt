-- No list of RFC 822 has more than 2 levels, so that 10 is never answered. Assumes nothing.
use Prim.Native.Nat.{ℕ}
use native.Mathlib.Omega.{arith}
use mathlib.Core.Path.{◌≡◌, refl, sym, ap, ◌∙◌}
use mathlib.Core.Bool.{Bool, true, false, true≢false}
use mathlib.Core.List.{List}
use lib.Dec.{ltb}
use lib.ListN.{length, take}
use Rattle.octets.specs.Believed.Choice.{pick, either}
use Rattle.octets.specs.Believed.Numbers.{message_limit, level_limit, message_too_long, body_out_of_order, too_many_levels}
use Rattle.octets.specs.Believed.Stored.{room_for}
use Rattle.octets.specs.declared.answers.Answer.{Answer}
use Rattle.octets.specs.Believed.Answers.{number_of}
use Rattle.records.specs.Believed.AddressRecords.{address_record_size}
use Rattle.scanner.specs.Believed.Scanning.{Scanned, ended, next, fault_at, scan_by}
use Rattle.scanner.specs.Believed.Symbols.{Symbol}
use Rattle.scanner.specs.Believed.Answers.{unless_fault}
use Rattle.scanner.specs.declared.Class.{Class}
use Rattle.scanner.proofs.FaultNumbers.{is_fault, Numbered, numbered_scan}
use Rattle.grammar.specs.Believed.Grammar.{Forest}
use Rattle.grammar.specs.Believed.Language.{unfit, unfinished, too_deep, Verdict, accepted, refused}
use Rattle.grammar.specs.Believed.Rfc822.{Nonterminal}
use Rattle.grammar.specs.Believed.Records.{count}
use Rattle.grammar.specs.Executable.Machine822.{read}
use Rattle.grammar.proofs.Rfc822.Condition3.{decides, never_ten}
use Rattle.addresses.specs.Believed.Editions.{edition822}
use Rattle.addresses.specs.Believed.Editions.{symbols_in}
use Rattle.addresses.specs.Believed.Outcome.{Outcome, refusal, derived, decided}
use Rattle.editions.specs.Believed.Outcome.{outcome822}

-- this answer is no refusal with 10
abbrev Shallow : Answer → Type 0
Shallow r = number_of r ≡ too_many_levels → ⊥

-- the checks of a body, and the faults of scanning, have other numbers
checked : (table : List ℕ) (a b : Bool) (o : Outcome) → Shallow o.answer → Shallow (pick a (refusal table message_too_long message_limit) (pick b (refusal table body_out_of_order 0) o)).answer
checked table true b o s = λ e. absurd (omega (arith, e))
checked table false true o s = λ e. absurd (omega (arith, e))
checked table false false o s = s

no_fault : (n : ℕ) → is_fault n ≡ true → n ≡ too_many_levels → ⊥
no_fault n h e = true≢false (sym h ∙ ap is_fault e)

scanned : (table : List ℕ) (s : Scanned) (o : Outcome) → Numbered s → Shallow o.answer → Shallow (unless_fault (refusal table) s o).answer
unfolding unless_fault
scanned table ended o n h = h
scanned table (next x rest) o n h = scanned table rest o n h
scanned table (fault_at number p) o n h = no_fault number n

-- a list is accepted, or there is too little room for it
listed : (table : List ℕ) (k : Forest Class Nonterminal) (t : Bool) → ltb (room_for address_record_size table) (count k) ≡ t → Shallow (derived table k).answer
listed table k true e = rw e (λ q. absurd (omega (arith, q)))
listed table k false e = rw e (λ q. absurd (omega (arith, q)))

-- the verdict is never that of too many levels
judged : (end : ℕ) (table : List ℕ) (xs : List (Symbol Class)) (v : Verdict Class (Forest Class Nonterminal)) → read level_limit xs ≡ v → Shallow (decided end table v).answer
judged end table xs (accepted k) e = listed table k _ refl
judged end table xs (refused unfit rest) e = λ q. absurd (omega (arith, q))
judged end table xs (refused unfinished rest) e = λ q. absurd (omega (arith, q))
judged end table xs (refused too_deep rest) e = absurd (never_ten level_limit (omega arith) xs rest (rw e at (decides.right level_limit (omega arith) xs)))

pub shallow : (message : List ℕ) (start end : ℕ) (table : List ℕ) → number_of (outcome822 message start end table).answer ≡ too_many_levels → ⊥
shallow message start end table =
    let symbols = symbols_in edition822 message start end in
    let scan = scan_by edition822.classes (take end message) start in
    checked table (ltb message_limit (length message)) (either (ltb end start) (ltb (length message) end)) (unless_fault (refusal table) scan (decided end table (read level_limit symbols)))
    (scanned table scan (decided end table (read level_limit symbols)) (numbered_scan edition822.classes (take end message) start) (judged end table symbols (read level_limit symbols) refl))
