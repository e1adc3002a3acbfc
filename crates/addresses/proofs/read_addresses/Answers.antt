-- `addresses::read_addresses` meets its contract. Assumes nothing.
use mathlib.Core.Path.{sym, ◌∙◌}
use native.Mathlib.Omega.{arith}
use lib.Seq.{length-take-le}
use Rattle.octets.specs.Believed.Classes.{class_table, class_of}
use Rattle.scanner.proofs.BodyChecks.{passed}
use Rattle.addresses.proofs.WholeLaws.{unfit_promised, first_promised, fitting}
use borrow.Enum.Refused.{opened}
use Rattle.addresses.proofs.read_addresses.Goals as goal

pub returns-in-Refused : goal.returns-in-Refused
returns-in-Refused c = let all = unfit_promised c.args.message.now c.args.start c.args.end c.args.table.now (sym c.in-Refused.is ∙ c.check_body.ensures) in record { outcome = all.0; condition3 = all.1 }

pub overflow_sub-end : goal.overflow_sub-end
overflow_sub-end c = omega (arith, (passed c.args.message.now c.args.start c.args.end c.check_body.result c.check_body.ensures (opened c.in_default.in_default-own.keys2)).ordered)

pub slice_bounds-read_body-end : goal.slice_bounds-read_body-end
slice_bounds-read_body-end c = sym (length-take-le _ c.args.message.now (passed c.args.message.now c.args.start c.args.end c.check_body.result c.check_body.ensures (opened c.in_default.in_default-own.keys2)).inside)

pub read_body-requires : goal.read_body-requires
unfolding class_table class_of
read_body-requires c =
    let x = passed c.args.message.now c.args.start c.args.end c.check_body.result c.check_body.ensures (opened c.in_default.in_default-own.keys2) in
    (fitting x, λ few. absurd (omega (arith, few, length-take-le _ c.args.message.now x.inside, c.if-end-start-gt-ONCE_LIMIT.true)))

pub returns-then-end-start-gt-ONCE_LIMIT : goal.returns-then-end-start-gt-ONCE_LIMIT
unfolding class_table class_of
returns-then-end-start-gt-ONCE_LIMIT c = let all = first_promised c.args.message.now c.args.start c.args.end c.args.table.now _ _ (passed c.args.message.now c.args.start c.args.end c.check_body.result c.check_body.ensures (opened c.in_default.in_default-own.keys2)) c.read_body.ensures in record { outcome = all.0; condition3 = all.1 }

pub returns : goal.returns
unfolding class_table class_of
returns c = let all = first_promised c.args.message.now c.args.start c.args.end c.args.table.now _ _ (passed c.args.message.now c.args.start c.args.end c.check_body.result c.check_body.ensures (opened c.in_default.in_default-own.keys2)) c.read_short.ensures in record { outcome = all.0; condition3 = all.1 }
