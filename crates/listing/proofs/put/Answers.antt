-- `listing::put` meets its contract. Assumes nothing.
use mathlib.Core.Path.{refl}
use Rattle.octets.proofs.Writes.{wrote_window}
use Rattle.listing.proofs.put.Goals as goal

pub returns : goal.returns
returns c = (wrote_window _ c.store_byte_in.ensures, refl)
