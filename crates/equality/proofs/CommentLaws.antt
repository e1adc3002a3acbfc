-- Comments do not count. Assumes nothing.
use Prim.Native.Nat.{ℕ}
use native.Mathlib.Omega.{arith}
use mathlib.Core.List.{List, ◌++◌}
use lib.ListN.{take, length-append}
use Rattle.scanner.specs.Believed.Scanning.{scan}
use Rattle.grammar.specs.Believed.Rfc733.{Derivation}
use Rattle.addresses.specs.Believed.Condition3.{IsList}
use Rattle.addresses.specs.Believed.Editions.{body_symbols}
use Rattle.addresses.proofs.Judgements.{scanned_body, list_scanned}
use Rattle.equality.specs.Believed.Exchange.{Place, MayHoldComment, message_with, end_with, Holds, AcceptedWith, StillAccepted, CommentsDoNotCount}
use Rattle.equality.proofs.Shifts.{AlikeScans}
use Rattle.equality.proofs.Exchanges.{bodies_scan_alike}
use Rattle.equality.proofs.AlikeBodies.{faultless_too, Checked, Alike, list_again, alike, same_read, same_plain, same_written, same_text}
use Rattle.equality.proofs.CardLaws.{equal_lists}

module _ (place : Place) (may : MayHoldComment place) where
  checked : (bytes : List ℕ) → Holds place bytes → Checked (message_with place bytes) place.start (end_with place bytes)
  checked bytes h =
      record {
        short = h.short;
        ordered = omega (arith, may.starts);
        inside = omega (arith, may.ends, length-append place.before (bytes ++ place.behind), length-append bytes place.behind);
      }

  module _ (one other : List ℕ) (c : Holds place one) (d : Holds place other) where
    scans : AlikeScans (scan (take (end_with place one) (message_with place one)) place.start) (scan (take (end_with place other) (message_with place other)) place.start)
    scans = bodies_scan_alike place may one other c.comment_is d.comment_is

    bodies_alike : Alike (message_with place one) place.start (end_with place one) (message_with place other) place.start (end_with place other)
    bodies_alike = alike (checked one c) (checked other d) scans

    still_accepted : (k : Derivation) → AcceptedWith place one k → StillAccepted place other k
    still_accepted k a =
        let l : IsList (body_symbols (message_with place one) place.start (end_with place one)) k = a.list in
        let b = scanned_body (message_with place one) place.start (end_with place one) a.scans l in
        let (j, r, m, n) = list_again (checked one c) (checked other d) scans (faultless_too scans b.clean.faultless) l in
        record {
          again = j;
          accepted = record { scans = list_scanned _ _ _ r; list = r.list };
          same = equal_lists m;
          text = same_plain k j m;
        }

pub comments_do_not_count : CommentsDoNotCount
comments_do_not_count place one other may c d =
    let a = bodies_alike place may one other c d in
    record { accepted = still_accepted place may one other c d; read = same_read a; written = same_written a; text = same_text a }
