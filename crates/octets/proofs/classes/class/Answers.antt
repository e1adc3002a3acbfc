-- `octets::classes::class` meets its contract: the constant of the source passes the test over the whole. Assumes nothing.
use Rattle.octets.specs.Believed.Classes.{class_of}
use Rattle.octets.proofs.classes.class.Goals as goal

pub entry-requires : goal.entry-requires
unfolding class_of
entry-requires c = tt
