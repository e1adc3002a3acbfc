-- `capi::rfc733_reply` meets its contract. Assumes nothing.
use mathlib.Core.Path.{◌≡◌, ◌∙◌, sym}
use mathlib.Core.Bool.{true, false}
use Rattle.reply.specs.Believed.Reply.{left_for_from}
use Rattle.capi.proofs.rfc733_reply.Goals as goal

pub returns-then-left_for_from : goal.returns-then-left_for_from
returns-then-left_for_from c = let e : left_for_from c.args.reply.now ≡ true = sym c.left_for_from.ensures ∙ c.if-left_for_from.true in rw e

pub returns-else-left_for_from : goal.returns-else-left_for_from
returns-else-left_for_from c = let e : left_for_from c.args.reply.now ≡ false = sym c.left_for_from.ensures ∙ c.if-left_for_from.false in rw e
