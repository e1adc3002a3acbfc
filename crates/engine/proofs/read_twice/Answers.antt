-- `engine::read_twice` meets its contract: the first run settles the answer, and only the second writes. Assumes nothing.
use Rattle.octets.proofs.Parts.{no_front}
use Rattle.addresses.proofs.AnyEdition.{twice_refused, twice_no_room, twice_written}
use Rattle.engine.proofs.read_twice.Goals as goal

pub returns-then-table-count : goal.returns-then-table-count
returns-then-table-count c =
    let u = no_front c.read_whole.new.table c.args.table.now c.read_whole.auto.table in
    rw u (twice_no_room _ _ _ c.args.table.now (rw c.in-Listed.is at c.read_whole.ensures) (rw u at c.if-table-count.true))

pub returns-in-Refused : goal.returns-in-Refused
returns-in-Refused c =
    let u = no_front c.read_whole.new.table c.args.table.now c.read_whole.auto.table in
    rw u (twice_refused _ _ _ c.args.table.now (rw c.in-Refused.is at c.read_whole.ensures))

pub returns-else-table-count : goal.returns-else-table-count
returns-else-table-count c =
    let table = c.args.table.now in
    let u = no_front c.read_whole.new.table table c.read_whole.auto.table in
    twice_written _ _ _ table _ (rw c.in-Listed.is at c.read_whole.ensures) (rw u at c.if-table-count.false) c.read_whole-in-Listed.result (rw u at c.read_whole-in-Listed.ensures)
