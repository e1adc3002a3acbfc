-- What the next symbol tells of the symbols from a position on. Assumes nothing.
use mathlib.Core.Path.{◌≡◌, refl, sym, ap, ◌∙◌}
use mathlib.Core.Bool.{Bool}
use mathlib.Core.List.{List, [], ◌∷◌}
use Prim.Native.Nat.{ℕ}
use lib.Dec.{ltb}
use types.Run.{OneOf}
use denote.Enum.Declared.{tag_of}
use Rattle.scanner.specs.contracts.Next as next-declared
use Rattle.scanner.specs.Believed.Scanning.{scan_by, symbols_of}
use Rattle.scanner.specs.Believed.Answers.{unless_fault, fault_of, next_of}
use Rattle.scanner.specs.declared.Next.{Next}
use Rattle.scanner.specs.declared.Next.TheVariants.{Found, Ended, Fault}
use Rattle.scanner.proofs.Unfolding.{SymbolAt, found, found_apart, found_end, found_fault, fault_on}
use Rattle.addresses.specs.Ties.Steps.{symbols_from, symbols_on, symbols_ahead, Comes, fault_from, fault_ahead}
use Rattle.addresses.proofs.ClassCases.{no_symbol}

-- the next symbol at or after a position
pub record NextIs (classes text : List ℕ) (at : ℕ) (r : Next) : Type 0 where
  pub ok : Comes classes text at r
  pub same : symbols_from classes text at ≡ symbols_ahead classes text r
  pub faults : fault_from classes text at ≡ fault_ahead classes text r

module _ (classes text : List ℕ) where
  -- the next symbol is as it says, and a fault is where the symbols end
  pub next_is : (at : ℕ) (r : Next) → r ≡ next_of (scan_by classes text at) → NextIs classes text at r
  unfolding symbols_of unless_fault
  next_is at (Found symbol) e =
      let x : SymbolAt classes text at symbol.class symbol.start symbol.end = found classes text at e in
      let apart : ltb at symbol.start ≡ symbol.apart = sym (found_apart classes text at e) in
      record {
        ok = (x.from, record { starts = x.starts; within = x.within });
        same = ap symbols_of x.same ∙ ap (λ (b : Bool). symbols_on classes text symbol.class symbol.start symbol.end b) apart;
        faults = fault_on classes text x;
      }
  next_is at Ended e = let x = found_end classes text at e in record { ok = tt; same = ap symbols_of x; faults = ap fault_of x }
  next_is at (Fault number p) e = let x = found_fault classes text at e in record { ok = tt; same = ap symbols_of x; faults = ap fault_of x }

  -- no symbol is left
  pub none_left : (r : Next) → OneOf (1 ∷ 2 ∷ []) (tag_of next-declared.the_type r) → symbols_ahead classes text r ≡ []
  none_left r o = no_symbol (symbols_ahead classes text) [] refl (λ n p. refl) r o
