-- `scanner::atom_from` meets its contract. Assumes nothing.
use mathlib.Core.Path.{sym, ap, ◌∙◌}
use native.Mathlib.Omega.{arith}
use Prim.Native.Nat.{ℕ}
use Rattle.octets.proofs.Parts.{part_length}
use Rattle.scanner.specs.Believed.Scanning.{Scanned, parted}
use Rattle.std.specs.Prelude.{Some, Ok}
use Rattle.scanner.specs.Ties.Steps.{symbol_of, first_of}
use Rattle.scanner.proofs.atom_from.Goals as goal

pub atom_class-class-requires : goal.atom_class-class-requires
atom_class-class-requires c = let y = c.atom_end-end.ensures in (omega (arith, c.requires.0, y.from), y.within)

pub overflow_sub-length : goal.overflow_sub-length
overflow_sub-length c = let y = c.atom_end-end.ensures in omega (arith, c.requires.0, y.from)

pub returns : goal.returns
unfolding parted
returns c =
    let a = c.args in
    let y = c.atom_end-end.ensures in
    λ from e.
    ap (λ (size : ℕ). Ok (Some (symbol_of c.atom_class-class.result a.start c.atom_end-end.result size a.apart))) (sym (part_length a.text.now _ _ y.within))
    ∙ rw (c.atom_class-class.ensures, e) (sym (ap (λ (s : Scanned). first_of (parted from s)) y.same))
