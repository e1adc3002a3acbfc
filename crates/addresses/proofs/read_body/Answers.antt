-- `addresses::read_body` meets its contract. Assumes nothing.
use mathlib.Core.Path.{refl}
use native.Mathlib.Omega.{arith}
use Rattle.octets.specs.Believed.Numbers.{level_limit}
use Rattle.addresses.proofs.BodyRecords.{accepted_half}
use Rattle.addresses.proofs.FirstLaws.{first_refused, first_no_room, first_copied, first_written}
use Rattle.addresses.proofs.read_body.Goals as goal

pub returns-in-Refused : goal.returns-in-Refused
returns-in-Refused c = first_refused c.args.classes.now c.args.text.now c.args.table.now ((rw c.in-Refused.is at c.read_whole.ensures).whole refl) c.fault_or.ensures

pub returns-then-table-count : goal.returns-then-table-count
returns-then-table-count c = first_no_room c.args.classes.now c.args.text.now c.args.table.now ((rw c.in-Listed.is at c.read_whole.ensures).whole refl) c.if-table-count.true

pub returns-then-count-staged : goal.returns-then-count-staged
returns-then-count-staged c =
    let a = c.args in
    first_copied a.classes.now a.text.now a.table.now a.staged.now c.read_whole.new.table ((rw c.in-Listed.is at c.read_whole.ensures).whole refl) (omega (arith, c.if-count-staged.true, c.read_whole.auto.table)) c.if-table-count.false c.copy_front.ensures

pub prove-unreachable-requires : goal.prove-unreachable-requires
prove-unreachable-requires c =
    let a = c.args in
    let l = ((rw c.in-Listed.is at c.read_whole.ensures).whole refl).listed in
    let room = c.requires.1 (omega (arith, c.if-prove.true)) in
    omega (arith, room, c.read_whole.auto.table, c.if-count-staged.false, l.count_is, accepted_half a.classes.now a.text.now a.at level_limit c.requires.0.inside l.verdict_is, c.if-prove.true)

pub returns-else-count-staged : goal.returns-else-count-staged
returns-else-count-staged c =
    let a = c.args in
    first_written a.classes.now a.text.now a.table.now c.read_whole-else-count-staged.new.table ((rw c.in-Listed.is at c.read_whole.ensures).whole refl) c.if-table-count.false c.read_whole-else-count-staged.result (c.read_whole-else-count-staged.ensures.whole refl)
