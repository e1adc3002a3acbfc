use mathlib.Core.Path.{refl, ◌∙◌}
use native.Mathlib.Omega.{arith}
use Rattle.octets.proofs.Writes.{left_all, left_as, left_after, left_none}
use Rattle.records.specs.Believed.AddressRecords.{record_in}
use Rattle.listing.specs.Believed.Lines.{address_line}
use Rattle.listing.proofs.TableLaws.{each_all, each_next, each_none}
use Rattle.listing.proofs.put_addresses.Goals as goal

pub loop-i-init : goal.loop-i-init
loop-i-init c =
    let a = c.args in
    (omega arith, omega arith, refl, left_as (left_all _ _ _) (λ rest. each_all address_line (record_in a.table.now) a.many 0 rest))

pub put_address-m-requires : goal.put_address-m-requires
put_address-m-requires c = let l = c.loop-i in omega (arith, l.invariant.0, l.invariant.1)

pub loop-i-preserved : goal.loop-i-preserved
loop-i-preserved c =
    let a = c.args in
    let l = c.loop-i in (
      omega arith,
      omega (arith, l.invariant.1, c.put_address-m.ensures.1),
      c.put_address-m.auto.out ∙ l.invariant.2,
      left_after l.invariant.3 (λ rest. each_next address_line (record_in a.table.now) a.many l.i rest (omega arith)) c.put_address-m.ensures.0,
    )

pub shape_of-out : goal.shape_of-out
shape_of-out c = c.loop-i.invariant.2

pub returns : goal.returns
returns c =
    let a = c.args in
    let l = c.loop-i in
    (left_none l.invariant.3 (λ rest. each_none address_line (record_in a.table.now) a.many l.i rest (omega arith)), omega (arith, l.invariant.0, l.invariant.1))
