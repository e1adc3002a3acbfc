-- `scanner::atom_end_any` meets its contract. Assumes nothing.
use mathlib.Core.Path.{◌≡◌, ◌∙◌}
use native.Mathlib.Omega.{arith}
use borrow.Author.Rules.{rules}
use Rattle.scanner.specs.declared.ByteKind.TheVariants.{Plain}
use Rattle.scanner.proofs.MoveLaws.{atom_on, atom_ends, atom_last}
use Rattle.scanner.proofs.InsideLaws.{not_plain}
use Rattle.scanner.proofs.atom_end_any.Goals as goal

pub loop-kind-preserved : goal.loop-kind-preserved
loop-kind-preserved c =
    let k : c.in-Some.field-0.kind ≡ Plain = search rules in
    let x = rw k at c.in-Some.ensures in
    let l = c.loop-kind in (
      x.within,
      omega (arith, x.from, x.behind),
      l.invariant.2 ∙ atom_on c.args.start (omega arith) x,
    )

pub returns-then-ne : goal.returns-then-ne
returns-then-ne c =
    let l = c.loop-kind in
    let n : c.in-Some.field-0.kind ≡ Plain → ⊥ = search rules in
    record {
      same = l.invariant.2 ∙ atom_ends c.args.start _ c.in-Some.ensures (not_plain c.in-Some.field-0.kind n);
      from = l.invariant.1;
      within = l.invariant.0;
    }

pub returns : goal.returns
returns c =
    let a = c.args in
    let l = c.loop-kind in
    record {
      same = l.invariant.2 ∙ atom_last a.classes.now a.text.now a.start l.p _ c.in_default.ensures;
      from = l.invariant.1;
      within = l.invariant.0;
    }
