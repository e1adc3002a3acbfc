-- `addresses::read_whole` meets its contract. Assumes nothing.
use Rattle.std.specs.Prelude.{Ok, Err}
use Rattle.addresses.proofs.FirstLaws.{begun, body_stops, body_end, body_behind}
use Rattle.addresses.proofs.read_whole.Goals as goal

pub returns-in-Err : goal.returns-in-Err
returns-in-Err c =
    let a = c.args in
    let k = a.classes.now in
    let x = a.text.now in
    let w = c.new-walk in
    rw c.fault-fault.ensures (body_stops k x a.levels a.at c.in-Err.refusal c.read_list.new.self (begun k x a.levels a.at w.result w.ensures.0 w.ensures.1 a.table.now c.read_list.new.table (Err c.in-Err.refusal) c.read_list.new.self c.in-Err.ensures))

pub returns-in-End : goal.returns-in-End
returns-in-End c =
    let a = c.args in
    let k = a.classes.now in
    let x = a.text.now in
    let w = c.new-walk in
    body_end k x a.levels a.at c.read_list.new.self (begun k x a.levels a.at w.result w.ensures.0 w.ensures.1 a.table.now c.read_list.new.table (Ok tt) c.read_list.new.self c.in_default.ensures) c.in-End.is

pub returns-in_default-ahead : goal.returns-in_default-ahead
returns-in_default-ahead c =
    let a = c.args in
    let k = a.classes.now in
    let x = a.text.now in
    let w = c.new-walk in
    body_behind k x a.levels a.at c.read_list.new.self (begun k x a.levels a.at w.result w.ensures.0 w.ensures.1 a.table.now c.read_list.new.table (Ok tt) c.read_list.new.self c.in_default.ensures) c.in_default-ahead.not-End
