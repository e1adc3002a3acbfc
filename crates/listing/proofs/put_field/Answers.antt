-- `listing::put_field` meets its contract. Assumes nothing.
use native.Mathlib.Omega.{arith}
use Rattle.records.specs.Believed.FieldRecords.{field_of}
use Rattle.listing.proofs.BodyLaws.{field_text_lem}
use Rattle.listing.proofs.LineLaws.{field_line_lem}
use Rattle.listing.proofs.put_field.Goals as goal

pub slice_bounds-known_name-start : goal.slice_bounds-known_name-start
slice_bounds-known_name-start c =
    let named = rw (← c.load-field.ensures) at c.requires.0 in
    omega (arith, named.order, named.within)

pub slice_bounds-known_name-end : goal.slice_bounds-known_name-end
slice_bounds-known_name-end c =
    let named = rw (← c.load-field.ensures) at c.requires.0 in
    omega (arith, named.order, named.within)

pub returns : goal.returns
returns c =
    let a = c.args in
    let r = c.load-field.result in
    let f = field_of r.name.start r.name.end r.body.start r.body.end in (
      rw c.load-field.ensures at (field_text_lem a.edition a.message.now f c.known_name-known.ensures.0 (field_line_lem f c.put_bytes-a.ensures.0 c.put_four-b.ensures.0 c.put-c.ensures.0) c.put_body.ensures.0),
      omega (arith, c.put_bytes-a.ensures.1, c.put_four-b.ensures.1, c.put-c.ensures.1, c.put_body.ensures.1),
    )
