-- When a Reply-To body is left for From's. Assumes nothing.
use borrow.Author.Tests.{le-leb, lt-leb}
use mathlib.Core.Path.{◌≡◌, refl}
use mathlib.Core.Bool.{true, false}
use mathlib.Core.List.{List}
use Prim.Native.Nat.{ℕ, ◌≤◌, ◌<◌}
use lib.ListN.{length}
use Rattle.octets.specs.Believed.Numbers.{message_limit}
use Rattle.scanner.specs.Believed.Scanning.{Scanned, ended, next, fault_at, scan}
use Rattle.scanner.specs.Believed.Answers.{next_of}
use Rattle.scanner.specs.declared.Next.TheVariants.{Ended}
use Rattle.reply.specs.Believed.Reply.{left_for_from}

module _ (reply : List ℕ) where
  pub too_long : message_limit < length reply → left_for_from reply ≡ false
  too_long h = rw (lt-leb (length reply) message_limit h)

  pub nothing : length reply ≤ message_limit → scan reply 0 ≡ ended → left_for_from reply ≡ true
  nothing h e = rw (le-leb (length reply) message_limit h, e)

  -- a symbol or a fault
  pub something : length reply ≤ message_limit → (s : Scanned) → scan reply 0 ≡ s → (next_of s ≡ Ended → ⊥) → left_for_from reply ≡ false
  something h ended e n = absurd (n refl)
  something h (next x rest) e n = rw (le-leb (length reply) message_limit h, e)
  something h (fault_at number p) e n = rw (le-leb (length reply) message_limit h, e)
