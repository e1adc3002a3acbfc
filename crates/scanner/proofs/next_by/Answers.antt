-- `scanner::next_by` meets its contract. Assumes nothing.
use mathlib.Core.Path.{◌≡◌, refl, sym, ap, ◌∙◌}
use mathlib.Core.Logic.{◌⊎◌, inl, inr}
use mathlib.Core.Bool.{Bool, true}
use mathlib.Core.List.{List, [], ◌∷◌}
use native.Mathlib.Omega.{arith}
use Prim.Native.Nat.{ℕ, ◌≤◌, ◌<◌}
use borrow.Author.Tests.{lt-ltb}
use lib.Dec.{ltb}
use types.Run.{OneOf, miss}
use Rattle.std.specs.Prelude.{Option, Result}
use Rattle.octets.specs.Believed.Numbers.{byte_above_127}
use Rattle.octets.specs.declared.answers.Fault.{Fault}
use Rattle.scanner.specs.Believed.Scanning.{Scanned, outside, in_quoted, in_literal, in_comment, go, halt, parted}
use Rattle.scanner.specs.Believed.Answers.{next_of}
use Rattle.scanner.specs.Ties.Steps.{first_of, as_next, outside_at, FirstCharacter, CommentEnds}
use Rattle.scanner.specs.declared.Next.{Next}
use Rattle.scanner.specs.declared.Symbol.{Symbol}
use Rattle.scanner.specs.declared.ByteKind.{ByteKind}
use Rattle.scanner.specs.declared.ByteKind.TheVariants.{White, Control, Return, Close, Backslash, CloseBracket}
use Rattle.scanner.proofs.FirstLaws.{first_next}
use Rattle.scanner.proofs.MoveLaws.{tag, at_end_lem, moves, atom_begins, mark_next, stray_next, control_next}
use Rattle.scanner.proofs.next_by.Goals as goal

-- a symbol that starts there stands apart as the position told
starts : (at : ℕ) {classes text : List ℕ} {p q here : ℕ} {apart : Bool} {kind : ByteKind} → apart ≡ ltb at p → FirstCharacter classes text p kind here q → (kind ≡ White → ⊥) → apart ≡ ltb at here
starts at e x n = rw (x.tight n) e

-- what comes next of what was scanned, from the position asked
abbrev from-asked : ℕ → Scanned → Next
from-asked at s = next_of (parted at s)

told_next : (at : ℕ) (s : Scanned) {r : Result (Option Symbol) Fault} → r ≡ first_of (parted at s) → as_next r ≡ from-asked at s
told_next at s e = ap as_next e ∙ first_next (parted at s)

-- further on outside, it stands apart
further : (classes text : List ℕ) (at p q : ℕ) → outside_at classes text at ≡ outside_at classes text p → at ≤ p → outside_at classes text p ≡ outside_at classes text q → p < q
    → (outside_at classes text at ≡ outside_at classes text q) × (at ≤ q) × (true ≡ ltb at q)
further classes text at p q e h f l = (e ∙ f, omega arith, sym (lt-ltb at q (omega arith)))

stray_kind : (kind : ByteKind) → (kind ≡ Close) ⊎ ((kind ≡ Backslash) ⊎ (kind ≡ CloseBracket)) → OneOf (5 ∷ 7 ∷ 11 ∷ []) (tag kind)
stray_kind kind (inl e) = inl (ap tag e)
stray_kind kind (inr (inl e)) = inr (inl (ap tag e))
stray_kind kind (inr (inr e)) = inr (inr (ap tag e))

control_kind : (kind : ByteKind) → (kind ≡ Control) ⊎ (kind ≡ Return) → OneOf (1 ∷ 2 ∷ []) (tag kind)
control_kind kind (inl e) = inl (ap tag e)
control_kind kind (inr e) = inr (ap tag e)

pub loop-kind-preserved-in-White : goal.loop-kind-preserved-in-White
loop-kind-preserved-in-White c =
    let l = c.loop-kind in
    let x = c.in-Some.ensures in
    further _ _ _ _ _ l.invariant.0 l.invariant.1 (moves (rw c.in-White.is at x) outside (go [] outside) refl) (omega (arith, x.from, x.behind))

pub loop-kind-preserved : goal.loop-kind-preserved
loop-kind-preserved c =
    let l = c.loop-kind in
    let x = c.in-Some.ensures in
    let y : CommentEnds _ _ _ _ _ = rw c.in-Ok.is at c.comment_end.ensures in
    further _ _ _ _ _ l.invariant.0 l.invariant.1 (moves (rw c.in-Open.is at x) outside (go [] (in_comment 0 _)) refl ∙ y.same) (omega (arith, x.from, x.behind, y.from))

pub returns-in-Err : goal.returns-in-Err
unfolding parted
returns-in-Err c =
    sym (ap (from-asked c.args.at) (c.loop-kind.invariant.0 ∙ moves (rw c.in-Open.is at c.in-Some.ensures) outside (go [] (in_comment 0 _)) refl ∙ rw c.in-Err.is at c.comment_end.ensures))

pub returns-in-Quote : goal.returns-in-Quote
returns-in-Quote c =
    let a = c.args in
    let l = c.loop-kind in
    let x = rw c.in-Quote.is at c.in-Some.ensures in
    c.told.ensures ∙ told_next a.at _ (c.quoted_end.ensures a.at (starts a.at l.invariant.2 x (λ k. cc))) ∙ sym (ap (from-asked a.at) (l.invariant.0 ∙ moves x outside (go [] (in_quoted _ [])) refl))

pub returns-in-Plain : goal.returns-in-Plain
returns-in-Plain c =
    let a = c.args in
    let l = c.loop-kind in
    let x = rw c.in-Plain.is at c.in-Some.ensures in
    told_next a.at _ (c.atom_from.ensures a.at (starts a.at l.invariant.2 x (λ k. cc))) ∙ sym (ap (from-asked a.at) (l.invariant.0 ∙ atom_begins x))

pub returns-in-Mark : goal.returns-in-Mark
unfolding parted
returns-in-Mark c =
    let l = c.loop-kind in
    let x = rw c.in-Mark.is at c.in-Some.ensures in
    rw (c.one_byte.ensures, starts c.args.at l.invariant.2 x (λ k. cc)) (sym (ap (from-asked c.args.at) (l.invariant.0 ∙ mark_next x)))

pub returns-in-Close : goal.returns-in-Close
unfolding parted
returns-in-Close c =
    let l = c.loop-kind in
    let x = c.in-Some.ensures in
    let o = stray_kind c.in-Some.field-0.kind c.in-Close.is in
    rw (c.one_byte-in-Close.ensures, starts c.args.at l.invariant.2 x (λ k. miss (5 ∷ 7 ∷ 11 ∷ []) 0 tt (rw k at o))) (sym (ap (from-asked c.args.at) (l.invariant.0 ∙ stray_next x o)))

pub returns-in-Control : goal.returns-in-Control
unfolding parted
returns-in-Control c = sym (ap (from-asked c.args.at) (c.loop-kind.invariant.0 ∙ control_next c.in-Some.ensures (control_kind c.in-Some.field-0.kind c.in-Control.is)))

pub returns-in-Above : goal.returns-in-Above
unfolding parted
returns-in-Above c =
    sym (ap (from-asked c.args.at) (c.loop-kind.invariant.0 ∙ moves (rw c.in-Above.is at c.in-Some.ensures) outside (halt [] byte_above_127 _) refl))

pub returns-in-OpenBracket : goal.returns-in-OpenBracket
returns-in-OpenBracket c =
    let a = c.args in
    let l = c.loop-kind in
    let x = rw c.in-OpenBracket.is at c.in-Some.ensures in
    c.told-in-OpenBracket.ensures ∙ told_next a.at _ (c.literal_end.ensures a.at (starts a.at l.invariant.2 x (λ k. cc))) ∙ sym (ap (from-asked a.at) (l.invariant.0 ∙ moves x outside (go [] (in_literal _)) refl))

pub returns : goal.returns
unfolding parted
returns c =
    let a = c.args in
    let l = c.loop-kind in
    sym (ap (from-asked a.at) (l.invariant.0 ∙ at_end_lem a.classes.now a.text.now l.p _ c.in_default.ensures))
