-- The symbol or the fault that comes first, as it is found below the entry points. Assumes nothing.
use mathlib.Core.Path.{◌≡◌, refl, ap, ◌∙◌}
use mathlib.Core.List.{List}
use Prim.Native.Nat.{ℕ}
use Rattle.std.specs.Prelude.{Option, None, Some, Result, Ok, Err}
use Rattle.octets.specs.declared.answers.Fault.{Fault as Refusal}
use Rattle.scanner.specs.Believed.Scanning.{Scanned, ended, next, fault_at, scan_by}
use Rattle.scanner.specs.Believed.Answers.{next_of}
use Rattle.octets.specs.Believed.Answers.{fault}
use Rattle.scanner.specs.Ties.Steps.{first_of, as_next}
use Rattle.scanner.specs.declared.Symbol.{Symbol}
use Rattle.scanner.specs.declared.Next.{Next}
use Rattle.scanner.specs.declared.Next.TheVariants.{Found, Ended, Fault}
use Rattle.scanner.proofs.Unfolding.{SymbolAt, found, found_end, found_fault}

pub first_next : (s : Scanned) → as_next (first_of s) ≡ next_of s
first_next ended = refl
first_next (next x rest) = refl
first_next (fault_at number p) = refl

-- what comes next, as what comes first
abbrev as_first : Next → Result (Option Symbol) Refusal
as_first (Found x) = Ok (Some x)
as_first Ended = Ok None
as_first (Fault number p) = Err (fault number p)

pub next_first : (s : Scanned) {coming : Next} → coming ≡ next_of s → as_first coming ≡ first_of s
next_first ended e = ap as_first e
next_first (next x rest) e = ap as_first e
next_first (fault_at number p) e = ap as_first e

module _ (classes text : List ℕ) (at : ℕ) where
  pub first_found : (x : Symbol) → Ok (Some x) ≡ first_of (scan_by classes text at) → SymbolAt classes text at x.class x.start x.end
  first_found x e = found classes text at {class = x.class} {start = x.start} {end = x.end} {size = x.length} {apart = x.apart} (ap as_next e ∙ first_next (scan_by classes text at))

  pub first_end : Ok None ≡ first_of (scan_by classes text at) → scan_by classes text at ≡ ended
  first_end e = found_end classes text at (ap as_next e ∙ first_next (scan_by classes text at))

  pub first_fault : (f : Refusal) → Err f ≡ first_of (scan_by classes text at) → scan_by classes text at ≡ fault_at f.number f.position
  first_fault f e = found_fault classes text at (ap as_next e ∙ first_next (scan_by classes text at))
