-- What it changes to be told which symbols stand apart: no fault, and of a symbol nothing else. Assumes nothing.
use mathlib.Core.Path.{◌≡◌, refl}
use Prim.Native.Nat.{ℕ}
use Rattle.octets.specs.declared.answers.Answer.TheVariants.{Accepted, Refused}
use Rattle.scanner.specs.Believed.Scanning.{Scanned, ended, next, fault_at, parted}
use Rattle.scanner.specs.Believed.Answers.{unless_fault, fault_of}

-- the first fault is the same
pub same_fault : {A : Type 0} (refused : ℕ → ℕ → A) (from : ℕ) (s : Scanned) (otherwise : A) → unless_fault refused (parted from s) otherwise ≡ unless_fault refused s otherwise
unfolding parted unless_fault
same_fault refused from ended otherwise = refl
same_fault refused from (next x rest) otherwise = same_fault refused x.lexeme.end rest otherwise
same_fault refused from (fault_at number p) otherwise = refl

pub fault_parted : (from : ℕ) (s : Scanned) → fault_of (parted from s) ≡ fault_of s
fault_parted from s = same_fault Refused from s (Accepted 0)
