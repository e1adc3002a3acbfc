use native.Mathlib.Omega.{arith}
use mathlib.Core.Path.{refl, sym, ap, ◌∙◌}
use Rattle.header.specs.Believed.Fields.{in_body}
use Rattle.header.specs.Ties.Steps.{first_of}
use Rattle.header.proofs.StepLaws.{goes_past, goes_both}
use Rattle.header.proofs.HeaderLaws.{ends, body_fault, body_ends}
use Rattle.header.proofs.fields.body_rest.Goals as goal

pub returns-then-message-end : goal.returns-then-message-end
unfolding first_of
returns-then-message-end c =
    let a = c.args in
    let p = c.past_plain-end in
    let here = (goes_both c.loop-name.invariant p.ensures refl).same a.name.start a.name.end a.start in
    rw (c.fault.ensures, here) (sym (ap first_of (ends a.message.now p.result (in_body a.name.start a.name.end a.start) (omega arith))))

pub returns-then-message-end-gt127 : goal.returns-then-message-end-gt127
unfolding first_of
returns-then-message-end-gt127 c =
    let a = c.args in
    let p = c.past_plain-end in
    let here = (goes_both c.loop-name.invariant p.ensures refl).same a.name.start a.name.end a.start in
    rw (c.fault-then-message-end-gt127.ensures, here) (sym (ap first_of (body_fault a.message.now p.result (omega arith) a.name.start a.name.end a.start (omega arith))))

pub returns-then-ends_body : goal.returns-then-ends_body
unfolding first_of
returns-then-ends_body c =
    let a = c.args in
    let p = c.past_plain-end in
    let here = (goes_both c.loop-name.invariant p.ensures refl).same a.name.start a.name.end a.start in
    sym (ap first_of (here ∙ body_ends a.message.now p.result (omega arith) a.name.start a.name.end a.start (omega arith) (sym c.ends_body.ensures ∙ c.if-ends_body.true)))

pub loop-name-preserved : goal.loop-name-preserved
loop-name-preserved c =
    let p = c.past_plain-end in
    goes_both (goes_both c.loop-name.invariant p.ensures refl) (goes_past c.args.message.now p.result (omega arith) (omega arith) (sym c.ends_body.ensures ∙ c.if-ends_body.false)) refl
