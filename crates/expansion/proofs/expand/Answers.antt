-- `expansion::expand` meets its contract. Assumes nothing.
use native.Mathlib.Omega.{arith}
use mathlib.Core.Path.{refl, sym}
use lib.Seq.{length-take-le}
use Rattle.octets.specs.Believed.Classes.{class_of, class_table}
use Rattle.octets.proofs.Parts.{no_front}
use Rattle.addresses.proofs.Told.{some_list}
use Rattle.expansion.proofs.EntryLaws.{refused_promised, list_promised}
use borrow.Enum.Refused.{opened}
use Rattle.expansion.proofs.expand.Goals as goal

pub slice_bounds-body-end : goal.slice_bounds-body-end
slice_bounds-body-end c =
    let a = c.args in
    let s = some_list a.message.now a.start a.end _ c.read_addresses.result c.read_addresses.ensures.outcome.answer_is (opened c.in_default.in_default-own.keys2) in
    sym (length-take-le _ a.message.now s.body.clean.inside)

pub invariant_of-body : goal.invariant_of-body
unfolding class_table class_of
invariant_of-body c =
    let a = c.args in
    let s = some_list a.message.now a.start a.end _ c.read_addresses.result c.read_addresses.ensures.outcome.answer_is (opened c.in_default.in_default-own.keys2) in
    record { known = refl; short = omega (arith, length-take-le a.end a.message.now s.body.clean.inside, s.body.clean.inside, s.body.clean.short) }

pub returns-in-Refused : goal.returns-in-Refused
returns-in-Refused c =
    let a = c.args in
    let u = no_front c.read_addresses.new.table a.text.now c.read_addresses.auto.table in
    let all = refused_promised a.message.now a.start a.end a.store.now a.text.now _ _ _ (rw c.in-Refused.is at c.read_addresses.ensures.outcome.answer_is) in record { outcome = rw u all.0; promises = rw u all.1 }

pub returns-in_default : goal.returns-in_default
unfolding class_table class_of
returns-in_default c =
    let a = c.args in
    let u = no_front c.read_addresses.new.table a.text.now c.read_addresses.auto.table in
    let s = some_list a.message.now a.start a.end _ c.read_addresses.result c.read_addresses.ensures.outcome.answer_is (opened c.in_default.in_default-own.keys2) in
    let all = list_promised a.message.now a.start a.end a.store.now a.text.now s _ _ (rw u at c.expand_list.ensures) in record { outcome = all.0; promises = all.1 }
