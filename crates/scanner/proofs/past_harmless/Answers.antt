-- `scanner::past_harmless` meets its contract. Assumes nothing.
use mathlib.Core.Path.{◌≡◌, ap, ◌∙◌}
use mathlib.Core.Logic.{◌⊎◌, inl, inr}
use mathlib.Core.List.{[], ◌∷◌}
use native.Mathlib.Omega.{arith}
use types.Run.{OneOf}
use Rattle.scanner.specs.declared.Class.{Class}
use Rattle.scanner.specs.declared.ByteKind.{ByteKind}
use Rattle.scanner.specs.declared.ByteKind.TheVariants.{White, Plain, Close, Backslash, Mark}
use Rattle.scanner.proofs.MoveLaws.{tag}
use Rattle.scanner.proofs.FaultLaws.{harmless_byte}
use Rattle.scanner.proofs.past_harmless.Goals as goal

harmless_kind : (kind : ByteKind) → (kind ≡ White) ⊎ ((kind ≡ Plain) ⊎ ((kind ≡ Close) ⊎ ((kind ≡ Backslash) ⊎ ((class : Class) × (kind ≡ Mark class))))) → OneOf (0 ∷ 3 ∷ 5 ∷ 7 ∷ 8 ∷ []) (tag kind)
harmless_kind kind (inl e) = inl (ap tag e)
harmless_kind kind (inr (inl e)) = inr (inl (ap tag e))
harmless_kind kind (inr (inr (inl e))) = inr (inr (inl (ap tag e)))
harmless_kind kind (inr (inr (inr (inl e)))) = inr (inr (inr (inl (ap tag e))))
harmless_kind kind (inr (inr (inr (inr (class, e))))) = inr (inr (inr (inr (ap tag e))))

pub loop-p-preserved : goal.loop-p-preserved
loop-p-preserved c =
    let a = c.args in
    let l = c.loop-p in
    record {
      from = omega (arith, l.invariant.from);
      same = l.invariant.same ∙ harmless_byte a.classes.now a.text.now l.p _ (omega arith) c.kind_of.ensures (harmless_kind c.kind_of.result c.in-White.is);
    }
