-- `octets::classes::entry` meets its contract. Assumes nothing.
use Rattle.octets.proofs.ClassLaws.{entry}
use Rattle.octets.proofs.classes.entry.Goals as goal

pub returns : goal.returns
returns c = entry c.args.classes.now c.requires c.args.b c.ranges.b.fits
