-- `vectors::put_reply` meets its contract. Assumes nothing.
use mathlib.Core.Path.{ap, ◌∙◌}
use Rattle.reply.specs.Believed.Reply.{left_for_from}
use Rattle.vectors.specs.Believed.Vectors.{chosen_text}
use Rattle.vectors.proofs.PutLaws.{puts_as, pick_of}
use Rattle.vectors.proofs.put_reply.Goals as goal

pub returns : goal.returns
returns c =
    let args = c.args in
    puts_as (λ rest. ap (λ t. chosen_text t rest) (ap (λ x. x.now) c.reply_body-body.ensures ∙ pick_of (λ x. x.now) (left_for_from args.reply.now) args.from args.reply)) c.put_chosen.ensures
