-- `scanner::category_at` meets its contract. Assumes nothing.
use mathlib.Core.Path.{◌≡◌, sym, ◌∙◌}
use mathlib.Core.Bool.{true, false}
use mathlib.Core.Logic.{◌⊎◌, inl, inr}
use mathlib.Core.List.{List}
use Prim.Native.Nat.{ℕ, ◌≤◌, ◌<◌}
use native.Mathlib.Omega.{arith}
use Rattle.std.specs.Ordering.{is_le, is_lt, nat_cmp}
use Rattle.std.proofs.lemmas.Bool.Decides.{nat_tests}
use Rattle.octets.specs.Believed.Classes.{class_of, class_table}
use Rattle.scanner.specs.Believed.Categories.{category_at}
use Rattle.scanner.specs.declared.Category.TheVariants.{Nothing}
use Rattle.scanner.proofs.BodyChecks.{Clean, clean}
use Rattle.scanner.proofs.CategoryLaws.{category_refused, category_ahead, category_past, category_inside}
use borrow.Enum.Refused.{opened}
use Rattle.scanner.proofs.category_at.Goals.{In_default}
use Rattle.scanner.proofs.category_at.Goals as goal

-- a body that is not refused
unrefused : (c : In_default) → Clean c.args.message.now c.args.start c.args.end
unrefused c = let a = c.args in clean a.message.now a.start a.end c.scan_body.result c.scan_body.ensures.outcome.1 (opened c.in_default.in_default-own.keys2)

-- what the test of a range tells
from_start : (start place : ℕ) → is_le (nat_cmp start place) ≡ true → start ≤ place
from_start start place e = grind (arith, nat_tests)

before_end : (place end : ℕ) → is_lt (nat_cmp place end) ≡ true → place < end
before_end place end e = grind (arith, nat_tests)

before_start : (start place : ℕ) → is_le (nat_cmp start place) ≡ false → place < start
before_start start place e = grind (arith, nat_tests)

from_end : (place end : ℕ) → is_lt (nat_cmp place end) ≡ false → end ≤ place
from_end place end e = grind (arith, nat_tests)

-- a place outside of the body is nothing
outside_body : (message : List ℕ) (start end place : ℕ) → Clean message start end → (is_le (nat_cmp start place) ≡ false) ⊎ (is_lt (nat_cmp place end) ≡ false) → Nothing ≡ category_at message start end place
outside_body message start end place x (inl e) = sym (category_ahead message start end place x (before_start start place e))
outside_body message start end place x (inr e) = sym (category_past message start end place x (from_end place end e))

pub returns-in-Refused : goal.returns-in-Refused
returns-in-Refused c =
    let a = c.args in
    sym (category_refused a.message.now a.start a.end a.place c.in-Refused.ensures.outcome.1)

pub returns-then-not-contains : goal.returns-then-not-contains
returns-then-not-contains c =
    let a = c.args in
    outside_body a.message.now a.start a.end a.place (unrefused (goal.at.returns-then-not-contains c).In_default) c.if-not-contains.ensures.cases

pub category_by-requires : goal.category_by-requires
unfolding class_table class_of
category_by-requires c =
    (from_start c.args.start c.args.place c.if-not-contains.ensures.cases.0, record { none = (unrefused (goal.at.category_by-requires c).In_default).faultless })

pub returns : goal.returns
unfolding class_table class_of
returns c =
    let a = c.args in
    let t = c.if-not-contains.ensures.cases in
    c.category_by.ensures ∙ sym (category_inside a.message.now a.start a.end a.place (unrefused (goal.at.returns c).In_default) (from_start a.start a.place t.0) (before_end a.place a.end t.1))
