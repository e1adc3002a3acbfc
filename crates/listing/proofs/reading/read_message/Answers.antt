-- `listing::reading::read_message` meets its contract. Assumes nothing.
use Rattle.std.proofs.Common.{◌-◌, length, sym, subst, rules}
use native.Mathlib.Omega.{arith}
use Rattle.std.specs.Io.KnownBytes.{Consumes}
use Rattle.std.proofs.KnownBytes.{Consumes-trans}
use Rattle.listing.proofs.WindowLaws.{read_more}
use Rattle.listing.proofs.reading.read_message.Goals as goal

pub loop-n-preserved : goal.loop-n-preserved
loop-n-preserved g c =
    let l = c.loop-n in
    let read = c.in_ok-more.ensures in
    let more = read_more l.space c.read.new.buf l.n (length l.space - l.n) c.in_ok-more.more (omega arith) read.bound.0 in
    (search rules, search rules, subst (Consumes _ _) (sym more) (Consumes-trans _ _ _ _ _ l.invariant.2 read.bytes.0))
