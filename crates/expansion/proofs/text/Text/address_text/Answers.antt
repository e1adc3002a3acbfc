use native.Mathlib.Omega.{arith}
use mathlib.Core.List.{[], ◌∷◌}
use Prim.Native.Nat.{◌≤◌}
use lib.ListN.{length}
use Rattle.plain.specs.Ties.Writing.{text_limit}
use Rattle.grammar.proofs.Rfc733.Readers.{ends_address}
use Rattle.addresses.proofs.ClassCases.{by_class, by_class_not}
use Rattle.plain.proofs.CanWrite.{can_write_lem}
use Rattle.plain.proofs.WalkSteps.{behind_less}
use Rattle.expansion.proofs.AddressTexts.{coming_first, comes, coming_none, coming_end, coming_next}
use borrow.Enum.Refused.{opened}
use Rattle.expansion.proofs.text.Text.address_text.Goals as goal

pub loop-coming-init : goal.loop-coming-init
loop-coming-init c = let a = c.args in coming_first a.self.now.classes.now a.self.now.bytes.now a.at a.own.now c.next_by-coming.ensures

pub shape_of-own-in_default : goal.shape_of-own-in_default
shape_of-own-in_default c = c.loop-coming.invariant.same_length

pub returns-in_default : goal.returns-in_default
returns-in_default c = coming_none c.loop-coming.invariant c.in_default.not-Found

pub shape_of-own-in-GreaterThan : goal.shape_of-own-in-GreaterThan
shape_of-own-in-GreaterThan c = c.loop-coming.invariant.same_length

pub returns-in-GreaterThan : goal.returns-in-GreaterThan
returns-in-GreaterThan c = coming_end c.loop-coming.invariant c.in-Found.is (by_class (4 ∷ 5 ∷ 6 ∷ []) ends_address tt c.in-Found.symbol.class c.in-GreaterThan.in-GreaterThan-own.keys1)

pub loop-coming-smaller : goal.loop-coming-smaller
loop-coming-smaller c =
    let e = c.in-Found.is in
    behind_less (comes c.loop-coming.invariant e) e c.next_by-coming-in_default-class.ensures

pub loop-coming-preserved : goal.loop-coming-preserved
loop-coming-preserved c =
    let l = c.loop-coming in
    let h : length c.args.self.now.bytes.now ≤ text_limit = omega (arith, c.args.self.now.short) in
    let x = comes l.invariant c.in-Found.is in
    let w = rw (can_write_lem c.args.self.now.bytes.now _ _ l.n (record { starts = x.starts; inside = x.within; short = h; low = omega (arith, l.invariant.counted, x.from, x.starts, x.within, h) })) at c.write_symbol-n.ensures in
    coming_next l.invariant c.in-Found.is (by_class_not (0 ∷ 1 ∷ 2 ∷ 3 ∷ 7 ∷ 8 ∷ 9 ∷ 10 ∷ []) ends_address tt c.in-Found.symbol.class (opened c.in_default-class.in_default-class-own.keys2)) h c.next_by-coming-in_default-class.ensures c.is_colon-colon.ensures c.write_symbol-n.auto.out w.0 w.1 c.after-place.ensures
