-- From two bodies, Reply-To's and From's, the one to reply to.
use Rattle.std.specs.Prelude.{Bool, true, false, List, ℕ, leb, length}
use Rattle.octets.specs.Believed.Choice.{both}
use Rattle.octets.specs.Believed.Numbers.{message_limit}
use Rattle.scanner.specs.Believed.Scanning.{Scanned, ended, next, fault_at, scan}

-- no symbol and no fault
abbrev pub is_empty : Scanned → Bool
is_empty ended = true
is_empty (next x rest) = false
is_empty (fault_at number p) = false

-- a Reply-To body that is left for From's: at most as long as a message, and it scans without fault to no symbol
abbrev pub left_for_from : List ℕ → Bool
left_for_from reply = both (leb (length reply) message_limit) (is_empty (scan reply 0))
