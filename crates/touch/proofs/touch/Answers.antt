-- `touch::touch` meets its contract: number by number in the order of the checks. Assumes nothing.
use mathlib.Core.Path.{◌≡◌, sym}
use Prim.Native.Nat.{ℕ, ◌*◌}
use lib.ListN.{length, replicate, length-replicate}
use mathlib.Core.List.{List}
use borrow.Enum.Refused.{opened}
use Rattle.octets.specs.Believed.Numbers.{table_records}
use Rattle.records.specs.Believed.AddressRecords.{address_record_size}
use Rattle.scanner.proofs.BodyChecks.{clean}
use Rattle.touch.proofs.TouchLaws.{Means, means, unread, promised, promised_names, promised_list}
use Rattle.touch.proofs.touch.Goals.{After-read_addresses}
use Rattle.touch.proofs.touch.Goals as goal

-- the tool's own table, before it is read into
abbrev table : List ℕ
table = replicate (table_records * address_record_size) 0

sized : table_records * address_record_size ≡ length table
sized = sym (length-replicate {A = ℕ} (table_records * address_record_size) 0)

-- what the reader's answer means
told : (c : After-read_addresses) → Means c.args.message.now c.args.start c.args.end c.args.place c.args.path.now table sized c.read_addresses.result c.read_addresses.new.table
told c =
    means c.args.message.now c.args.start c.args.end c.args.place c.args.path.now table sized
    (clean c.args.message.now c.args.start c.args.end c.scan_body.result c.scan_body.ensures.outcome.1 (opened c.in_default.in_default-own.keys2))
    c.read_addresses.ensures.outcome.answer_is c.read_addresses.ensures.outcome.bytes_are

pub returns-in-Refused : goal.returns-in-Refused
returns-in-Refused c =
    let a = c.args in
    let all = promised a.message.now a.start a.end a.place a.path.now _ (unread a.message.now a.start a.end a.place a.path.now (rw c.in-Refused.is at c.scan_body.ensures.outcome.1)) in record { outcome = all.0; by_grammar = all.1 }

pub touch_list-requires : goal.touch_list-requires
touch_list-requires c =
    let h = rw c.in-Accepted.is at (told (goal.at.touch_list-requires c).After-read_addresses) in
    record { derivation = h.derivation; held = h.held }

pub returns-in-Refused-read_addresses : goal.returns-in-Refused-read_addresses
returns-in-Refused-read_addresses c =
    let a = c.args in
    let m = rw c.in-Refused-read_addresses.is at (told (goal.at.returns-in-Refused-read_addresses c).After-read_addresses) in
    let all = promised_names a.message.now a.start a.end a.place a.path.now m c.expected.ensures in record { outcome = all.0; by_grammar = all.1 }

pub returns-in-NoRoom : goal.returns-in-NoRoom
returns-in-NoRoom c =
    let a = c.args in
    let all = promised a.message.now a.start a.end a.place a.path.now _ (rw c.in-NoRoom.is at (told (goal.at.returns-in-NoRoom c).After-read_addresses)) in record { outcome = all.0; by_grammar = all.1 }

pub returns-in-Accepted : goal.returns-in-Accepted
returns-in-Accepted c =
    let a = c.args in
    let h = rw c.in-Accepted.is at (told (goal.at.returns-in-Accepted c).After-read_addresses) in
    let all = promised_list a.message.now a.start a.end a.place a.path.now h.derivation h.is (c.touch_list.ensures h.derivation h.held) in record { outcome = all.0; by_grammar = all.1 }
