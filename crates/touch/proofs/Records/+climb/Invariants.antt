-- `touch::Records::climb`: the parent falls at each call.
use Rattle.touch.proofs.Records.+climb.Given as goal

abbrev pub decreases-climb : goal.decreases-climb
decreases-climb l = l.parent
