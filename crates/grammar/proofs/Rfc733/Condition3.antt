-- Condition 3 for RFC 733: exactly one derivation; the machine's answer is right, and the only right one. Assumes nothing.
use Prim.Native.Nat.{ℕ, ◌≤◌}
use native.Mathlib.Omega.{arith}
use mathlib.Core.Path.{◌≡◌}
use mathlib.Core.List.{List}
use Rattle.scanner.specs.declared.Class.{Class}
use Rattle.grammar.specs.Believed.Grammar.{levels}
use Rattle.grammar.specs.Believed.Language.{GoesOn, Verdict, accepted}
use Rattle.grammar.specs.Believed.Rfc733.{list, rfc733, Derivation, DerivedList, RightWithin}
use Rattle.grammar.proofs.Any.Reader as any-reader
use Rattle.grammar.specs.Executable.{Decides733}
use Rattle.grammar.proofs.Any.Alike as alike
use Rattle.grammar.proofs.Any.Machine as any-machine
use Rattle.grammar.specs.Executable.Trees733.{Sym, as_forest}
use Rattle.grammar.proofs.Rfc733.Trees.{list_levels, DerivedTree}
use Rattle.grammar.specs.Executable.Machine733.{step, read, finish, start, answer}
use Rattle.grammar.proofs.Rfc733.Steps.{machine}
use Rattle.grammar.proofs.Rfc733.Derivations.{forest_levels, forest_derived, tree_derived}

-- ---- what is right of trees is right of derivations

trees : alike.Alike DerivedTree list_levels DerivedList levels as_forest
trees = record { derived = forest_derived; tree = tree_derived; levels = forest_levels }

pub goes_on_forest : (Levels : ℕ → Type 0) (xs : List Sym) → GoesOn DerivedTree list_levels Levels xs → GoesOn DerivedList levels Levels xs
goes_on_forest Levels xs g = alike.goes_to DerivedTree list_levels DerivedList levels as_forest trees Levels xs g

pub goes_on_tree : (Levels : ℕ → Type 0) (xs : List Sym) → GoesOn DerivedList levels Levels xs → GoesOn DerivedTree list_levels Levels xs
goes_on_tree Levels xs g = alike.goes_back DerivedTree list_levels DerivedList levels as_forest trees Levels xs g

-- ---- condition 3

-- the answer is right, for every list of symbols and every limit
pub answer_right : (limit : ℕ) (xs : List Sym) → RightWithin limit xs (answer limit xs)
answer_right limit xs =
    alike.right_alike DerivedTree list_levels DerivedList levels as_forest trees limit xs (read limit xs) (any-machine.right DerivedTree list_levels step finish start machine limit xs)

-- exactly one derivation: two derivations of the same symbols are equal, whatever their levels
pub one_derivation : {k k' : Derivation} {xs : List Sym} → DerivedList k xs → DerivedList k' xs → k ≡ k'
one_derivation {k} {k'} {xs} d e =
    alike.one_alike DerivedTree list_levels DerivedList levels as_forest trees (any-machine.unique DerivedTree list_levels step finish start machine) k k' xs d e

-- what is proved of this edition
pub decides : Decides733
decides = any-reader.decides_by rfc733 list 0 answer (λ limit h xs. answer_right limit xs) (λ k k' xs d e. one_derivation d e)

-- a right verdict is the answer
pub answer_only : (limit : ℕ) (xs : List Sym) (v : Verdict Class Derivation) → RightWithin limit xs v → v ≡ answer limit xs
answer_only limit xs v r = decides.only limit (omega arith) xs v r

-- a derivation of at most `limit` levels is accepted as itself
pub answer_accepts : (limit : ℕ) {k : Derivation} {xs : List Sym} → DerivedList k xs → levels k ≤ limit → answer limit xs ≡ accepted k
answer_accepts limit d v = any-reader.answer_accepts rfc733 list 0 answer decides limit (omega arith) d v

-- .. and only that is accepted
pub answer_derives : (limit : ℕ) {k : Derivation} {xs : List Sym} → answer limit xs ≡ accepted k → DerivedList k xs × (levels k ≤ limit)
answer_derives limit {k} {xs} e = any-reader.answer_derives rfc733 list 0 answer decides limit (omega arith) {xs = xs} e
