-- `listing::put_address` meets its contract. Assumes nothing.
use native.Mathlib.Omega.{arith}
use Rattle.records.specs.Believed.AddressRecords.{record_by}
use Rattle.listing.proofs.LineLaws.{address_line_lem}
use Rattle.listing.proofs.put_address.Goals as goal

pub put-requires : goal.put-requires
put-requires c =
    omega (arith, c.put_bytes-a.ensures.1, c.put_number-b.ensures.1, c.put_number-c.ensures.1, c.put_number-d.ensures.1, c.put_four-e.ensures.1, c.requires)

pub returns : goal.returns
returns c =
    let r = c.load-address.result in (
      rw c.load-address.ensures at (address_line_lem (record_by r.kind r.depth r.parent r.start r.end r.name.start r.name.end) c.put_bytes-a.ensures.0 c.put_number-b.ensures.0 c.put_number-c.ensures.0 c.put_number-d.ensures.0 c.put_four-e.ensures.0 c.put.ensures.0),
      omega (arith, c.put_bytes-a.ensures.1, c.put_number-b.ensures.1, c.put_number-c.ensures.1, c.put_number-d.ensures.1, c.put_four-e.ensures.1, c.put.ensures.1),
    )
