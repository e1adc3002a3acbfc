-- `listing::put_header` meets its contract. Assumes nothing.
use mathlib.Core.Path.{refl, ap}
use mathlib.Core.List.{[]}
use Rattle.listing.specs.Believed.Listing.{each, field_text}
use Rattle.listing.proofs.WholeLaws.{whole}
use Rattle.listing.proofs.put_header.Goals as goal

pub put_fields-requires : goal.put_fields-requires
put_fields-requires c =
    let h = rw c.in-Accepted.is at c.requires in
    (h.few, h.named)

pub returns-in-Accepted : goal.returns-in-Accepted
returns-in-Accepted c =
    let a = c.args in
    let h = rw c.in-Accepted.is at c.requires in
    rw c.in-Accepted.is (whole _ c.put_fields.ensures (ap (λ l. each (field_text a.edition a.message.now) l []) h.are))

pub returns-in-Refused : goal.returns-in-Refused
returns-in-Refused c = rw c.in-Refused.is (whole _ c.put_refused.ensures.0 refl)

pub returns-in-NoRoom : goal.returns-in-NoRoom
returns-in-NoRoom c = rw c.in-NoRoom.is (whole _ c.put_refused-in-NoRoom.ensures.0 refl)
