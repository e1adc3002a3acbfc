-- `listing::write_listing` meets its contract. Assumes nothing.
use mathlib.Core.List.{List}
use mathlib.Core.Path.{◌≡◌, sym}
use Prim.Native.Nat.{ℕ, ◌*◌}
use lib.ListN.{length, length-replicate, replicate}
use Rattle.octets.specs.Believed.Numbers.{table_records}
use Rattle.records.specs.Believed.FieldRecords.{field_record_size}
use Rattle.listing.proofs.WholeLaws.{fits, same_answer}
use Rattle.listing.proofs.write_listing.Goals as goal

-- the table before the fields are put into it
abbrev table : List ℕ
table = replicate (table_records * field_record_size) 0

sized : table_records * field_record_size ≡ length table
sized = sym (length-replicate {A = ℕ} (table_records * field_record_size) 0)

pub put_header-requires : goal.put_header-requires
put_header-requires c =
    fits c.args.message.now table sized c.split-answer.ensures.outcome.answer_is c.split-answer.ensures.outcome.bytes_are

pub returns : goal.returns
returns c =
    rw (same_answer c.args.message.now table sized c.split-answer.ensures.outcome.answer_is) at c.put_header.ensures
