-- `dates::form::decimal` meets its contract: the digits passed are read. Assumes nothing.
use mathlib.Core.Path.{◌≡◌}
use Prim.Native.Nat.{◌^◌, ◌<◌}
use lib.ListN.{drop}
use Rattle.dates.specs.Believed.Grammar.{decimal, decimal_from}
use Rattle.dates.proofs.form.decimal.Given as goal

abbrev pub invariant-loop-digit : goal.invariant-loop-digit
invariant-loop-digit l = record {
  is : decimal l.digits ≡ decimal_from l.value (drop l.digit-index l.digits);
  small : l.value < 1000 ^ l.digit-index;
}
