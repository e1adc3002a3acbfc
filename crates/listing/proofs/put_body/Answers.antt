-- `listing::put_body` meets its contract. Assumes nothing.
use mathlib.Core.Path.{sym, ◌∙◌}
use native.Mathlib.Omega.{arith}
use Rattle.octets.proofs.Writes.{wrote_nothing, wrote_as}
use Rattle.listing.proofs.BodyLaws.{address_name, no_address_name, other_name}
use borrow.Enum.Refused.{opened}
use Rattle.listing.proofs.put_body.Goals as goal

pub returns-then-holds_addresses : goal.returns-then-holds_addresses
returns-then-holds_addresses c =
    let a = c.args in
    let e = sym c.holds_addresses.ensures ∙ c.if-holds_addresses.true in
    (address_name a.edition a.known a.message.now a.start a.end e c.put_address_body.ensures.0, c.put_address_body.ensures.1)

pub returns-in-Date : goal.returns-in-Date
returns-in-Date c =
    (rw c.in-Date.is c.put_date_body.ensures.0, omega (arith, c.put_date_body.ensures.1))

pub returns-in_default : goal.returns-in_default
returns-in_default c =
    let a = c.args in
    let e = sym c.holds_addresses.ensures ∙ c.if-holds_addresses.false in
    (no_address_name a.edition a.known a.message.now a.start a.end e (wrote_as (λ rest. sym (other_name a.known a.message.now a.start a.end rest (opened c.in_default.in_default-own.keys2))) (wrote_nothing _ _)), omega arith)
