-- `reply::left_for_from` meets its contract. Assumes nothing.
use mathlib.Core.Path.{sym, refl, ◌∙◌}
use native.Mathlib.Omega.{arith}
use borrow.Author.Tests.{lt-leb}
use lib.ListN.{length}
use Rattle.octets.specs.Believed.Numbers.{message_limit}
use Rattle.octets.specs.Believed.Classes.{class_of, class_table}
use Rattle.scanner.specs.Believed.Scanning.{scan}
use Rattle.scanner.proofs.Unfolding.{found_end}
use Rattle.reply.proofs.ReplyLaws.{too_long, nothing, something}
use Rattle.reply.proofs.left_for_from.Goals as goal

pub returns-else-reply-le-MESSAGE_LIMIT : goal.returns-else-reply-le-MESSAGE_LIMIT
returns-else-reply-le-MESSAGE_LIMIT c =
    let reply = c.args.reply.now in
    lt-leb (length reply) message_limit (omega arith) ∙ sym (too_long reply (omega arith))

pub returns-in-Ended : goal.returns-in-Ended
unfolding class_table class_of
returns-in-Ended c =
    let reply = c.args.reply.now in
    sym (nothing reply (omega arith) (found_end class_table reply 0 (sym c.in-Ended.is ∙ c.next_by.ensures)))

pub returns-in_default : goal.returns-in_default
unfolding class_table class_of
returns-in_default c =
    let reply = c.args.reply.now in
    sym (something reply (omega arith) (scan reply 0) refl (λ e. c.in_default.not-Ended (c.next_by.ensures ∙ e)))
