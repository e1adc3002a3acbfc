-- `listing::put_bytes` meets its contract. Assumes nothing.
use mathlib.Core.Path.{refl}
use Rattle.octets.proofs.Writes.{wrote_window_text}
use Rattle.listing.proofs.put_bytes.Goals as goal

pub returns : goal.returns
returns c = (wrote_window_text _ _ c.store_bytes_in.ensures, refl)
