-- The records of a list in a body: at most half as many as the body has bytes, their starts ascend, and all lies in the body. Assumes nothing.
use mathlib.Core.Path.{◌≡◌, refl}
use mathlib.Core.Bool.{Bool, true, false}
use mathlib.Core.List.{List}
use Prim.Native.Nat.{ℕ, ◌+◌, ◌*◌, ◌≤◌, ◌<◌}
use native.Mathlib.Omega.{arith}
use lib.ListN.{length, take}
use lib.Seq.{length-take-le}
use Rattle.octets.specs.Believed.Choice.{pick}
use Rattle.octets.specs.Believed.Classes.{class_table}
use Rattle.scanner.proofs.Spans.{Placed, none, one, placed}
use Rattle.grammar.specs.Believed.Records.{count, records}
use Rattle.grammar.specs.Believed.Rfc733.{same_class, Derivation}
use Rattle.grammar.specs.Executable.Trees733.{Class, Quoted, Sym}
use Rattle.grammar.proofs.Symbols.{same_class_lem, least_bytes, InOrder}
use Rattle.grammar.proofs.Any.Order.{Ascending}
use Rattle.grammar.proofs.Rfc733.Order.{records_ascend, count_half}
use Rattle.grammar.specs.Believed.Language.{accepted}
use Rattle.grammar.specs.Executable.Machine733.{answer}
use Rattle.grammar.proofs.Rfc733.Condition3.{answer_derives}
use Rattle.addresses.specs.Believed.Editions.{body_symbols}
use Rattle.addresses.specs.Ties.Steps.{symbols_from}
use Rattle.addresses.proofs.Judgements.{ListBody}

least : (class : Class) (start end : ℕ) → start < end → (class ≡ Quoted → start + 2 ≤ end) → start + least_bytes class ≤ end
least class start end h q = by (same_class class Quoted) refl
  where
    by : (b : Bool) → same_class class Quoted ≡ b → start + pick b 2 1 ≤ end
    by true e = q (same_class_lem class Quoted e)
    by false e = omega arith

-- symbols that lie in a text stand one after the other
placed_in_order : {classes text : List ℕ} {end at : ℕ} {xs : List Sym} → at ≤ end → Placed classes text end at xs → InOrder at end xs
placed_in_order h none = h
placed_in_order h (one {x = x} a b c q m rest) = (a, least x.class x.lexeme.start x.lexeme.end b q, placed_in_order c rest)

module _ {message : List ℕ} {start end : ℕ} {k : Derivation} (b : ListBody message start end k) where
  pub in_body : InOrder start end (body_symbols message start end)
  in_body = let n = length-take-le end message b.clean.inside in rw n at (placed_in_order (omega (arith, n, b.clean.ordered)) (placed class_table (take end message) start))

  -- there are never more than half as many records as body bytes
  pub records_half : start + 2 * count k ≤ end
  records_half = count_half start end b.list.derived in_body

  -- the records go in order of start
  pub records_in_order : Ascending start end (records k)
  records_in_order = records_ascend start end b.list.derived in_body

-- .. of the symbols from a position on, by any classes
pub accepted_half : (classes text : List ℕ) (at limit : ℕ) {k : Derivation} → at ≤ length text → answer limit (symbols_from classes text at) ≡ accepted k → at + 2 * count k ≤ length text
accepted_half classes text at limit h e =
    count_half at (length text) (answer_derives limit {xs = symbols_from classes text at} e).0 (placed_in_order h (placed classes text at))
