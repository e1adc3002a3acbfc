use native.Mathlib.Omega.{arith}
use mathlib.Core.Path.{ap}
use Rattle.touch.proofs.ClimbLaws.{climb_over, climb_parent, climb_on}
use Rattle.records.specs.Believed.AddressRecords.{AddressRecord}
use Rattle.touch.proofs.Records.+climb.Goals as goal

pub returns-then-parent-eq0 : goal.returns-then-parent-eq0
returns-then-parent-eq0 t c = λ many rs ns h l k. climb_over k (omega arith)

pub climb-requires : goal.climb-requires
climb-requires t c =
    let (less, may) = climb_parent c.requires (λ e. omega arith) (ap (λ (r : AddressRecord). r.parent) c.load-address.ensures) in
    (omega arith, may)

pub returns : goal.returns
returns t c =
    let a = c.args in
    λ many rs ns h l k. climb_on a.path.now a.at h l (λ e. omega arith) (ap (λ (r : AddressRecord). r.parent) c.load-address.ensures) c.store_number.ensures
    (λ ns' low k'. c.climb.ensures many rs ns' h low k') k
