-- `listing::put_address_body` meets its contract. Assumes nothing.
use mathlib.Core.List.{List}
use mathlib.Core.Path.{◌≡◌, sym}
use Prim.Native.Nat.{ℕ, ◌*◌}
use lib.ListN.{length, length-replicate, replicate}
use native.Mathlib.Omega.{arith}
use Rattle.octets.specs.Believed.Numbers.{table_records}
use Rattle.records.specs.Believed.AddressRecords.{address_record_size}
use Rattle.octets.proofs.Writes.{wrote_as}
use Rattle.listing.proofs.BodyLaws.{printed}
use Rattle.listing.proofs.put_address_body.Goals as goal

-- the table before it is read into
abbrev table : List ℕ
table = replicate (table_records * address_record_size) 0

sized : table_records * address_record_size ≡ length table
sized = sym (length-replicate {A = ℕ} (table_records * address_record_size) 0)

pub put_addresses-requires : goal.put_addresses-requires
put_addresses-requires c =
    let a = c.args in
    let p = rw c.in-Accepted.is at (printed a.edition a.message.now a.start a.end table sized c.read_addresses.ensures.outcome.answer_is c.read_addresses.ensures.outcome.bytes_are) in
    (p.0, omega arith)

pub returns-in-Accepted : goal.returns-in-Accepted
returns-in-Accepted c =
    let a = c.args in
    let p = rw c.in-Accepted.is at (printed a.edition a.message.now a.start a.end table sized c.read_addresses.ensures.outcome.answer_is c.read_addresses.ensures.outcome.bytes_are) in
    (wrote_as p.1 c.put_addresses.ensures.0, c.put_addresses.ensures.1)

pub returns-in-Refused : goal.returns-in-Refused
returns-in-Refused c =
    let a = c.args in
    let p = rw c.in-Refused.is at (printed a.edition a.message.now a.start a.end table sized c.read_addresses.ensures.outcome.answer_is c.read_addresses.ensures.outcome.bytes_are) in
    (wrote_as p c.put_refused.ensures.0, omega (arith, c.put_refused.ensures.1))

pub returns-in-NoRoom : goal.returns-in-NoRoom
returns-in-NoRoom c =
    let a = c.args in
    let p = rw c.in-NoRoom.is at (printed a.edition a.message.now a.start a.end table sized c.read_addresses.ensures.outcome.answer_is c.read_addresses.ensures.outcome.bytes_are) in
    (wrote_as p c.put_refused-in-NoRoom.ensures.0, omega (arith, c.put_refused-in-NoRoom.ensures.1))
