-- `plain::write_plain` meets its contract: the reader's answer comes first. Assumes nothing.
use native.Mathlib.Omega.{arith}
use mathlib.Core.Path.{sym}
use lib.Seq.{length-take-le}
use Rattle.octets.specs.Believed.Classes.{class_of, class_table}
use Rattle.octets.proofs.Parts.{no_front}
use Rattle.addresses.proofs.Told.{some_list}
use Rattle.plain.proofs.PlainLaws.{refused_promised, list_promised}
use borrow.Enum.Refused.{opened}
use Rattle.plain.proofs.write_plain.Goals as goal

pub slice_bounds-write_fitting-end : goal.slice_bounds-write_fitting-end
slice_bounds-write_fitting-end c =
    let a = c.args in
    let s = some_list a.message.now a.start a.end _ c.read_addresses.result c.read_addresses.ensures.outcome.answer_is (opened c.in_default.in_default-own.keys2) in
    sym (length-take-le _ a.message.now s.body.clean.inside)

pub write_fitting-requires : goal.write_fitting-requires
write_fitting-requires c =
    let a = c.args in
    let s = some_list a.message.now a.start a.end _ c.read_addresses.result c.read_addresses.ensures.outcome.answer_is (opened c.in_default.in_default-own.keys2) in
    let n = length-take-le a.end a.message.now s.body.clean.inside in
    (omega (arith, n, s.body.clean.ordered), omega (arith, n, s.body.clean.inside, s.body.clean.short))

pub returns-in-Refused : goal.returns-in-Refused
returns-in-Refused c =
    let a = c.args in
    let u = no_front c.read_addresses.new.table a.text.now c.read_addresses.auto.table in
    let all = refused_promised a.message.now a.start a.end a.text.now _ _ _ (rw c.in-Refused.is at c.read_addresses.ensures.outcome.answer_is) in record { outcome = rw u all.0; condition2 = rw u all.1 }

pub returns-in_default : goal.returns-in_default
unfolding class_table class_of
returns-in_default c =
    let a = c.args in
    let u = no_front c.read_addresses.new.table a.text.now c.read_addresses.auto.table in
    let s = some_list a.message.now a.start a.end _ c.read_addresses.result c.read_addresses.ensures.outcome.answer_is (opened c.in_default.in_default-own.keys2) in
    let all = list_promised a.message.now a.start a.end a.text.now s _ _ (rw u at c.write_fitting.ensures) in record { outcome = all.0; condition2 = all.1 }
