-- `expansion::fits_around` meets its contract. Assumes nothing.
use native.Mathlib.Omega.{arith}
use mathlib.Core.Path.{refl}
use borrow.Author.Tests.{le-leb, lt-leb}
use Rattle.octets.specs.Believed.Numbers.{level_limit}
use Rattle.expansion.proofs.fits_around.Goals as goal

pub returns-then-depth-gt-LEVEL_LIMIT : goal.returns-then-depth-gt-LEVEL_LIMIT
returns-then-depth-gt-LEVEL_LIMIT c = rw (lt-leb c.args.depth level_limit (omega arith)) refl

pub returns : goal.returns
returns c = rw (le-leb c.args.depth level_limit (omega arith)) c.is_list_within.ensures
