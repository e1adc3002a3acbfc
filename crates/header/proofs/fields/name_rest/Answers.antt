use native.Mathlib.Omega.{arith}
use mathlib.Core.Path.{◌≡◌, sym, ap, ◌∙◌}
use lib.ListN.{length}
use Rattle.header.specs.Believed.Fields.{in_name}
use Rattle.header.specs.Ties.Steps.{first_of}
use Rattle.header.proofs.HeaderLaws.{ends, name_ends, name_fault_lem, name_white, name_other}
use Rattle.header.proofs.fields.name_rest.Goals as goal
use Rattle.header.proofs.fields.name_rest.Goals.{then-not-is_white, else-not-is_white}

pub returns-then-b-eq58 : goal.returns-then-b-eq58
returns-then-b-eq58 c =
    let a = c.args in
    let l = c.loop-at in
    c.body_rest.ensures ∙ sym (ap first_of (l.invariant ∙ name_ends a.message.now l.at (omega arith) a.start l.end c.if-b-eq58.true))

pub returns-then-not-name_holds : goal.returns-then-not-name_holds
unfolding first_of
returns-then-not-name_holds c =
    let a = c.args in
    let l = c.loop-at in
    rw c.fault.ensures
    (sym
    (ap first_of
    (l.invariant
    ∙ name_fault_lem a.message.now l.at (omega arith) a.start l.end c.if-b-eq58.false
    (sym c.name_holds.ensures ∙ c.if-not-name_holds.true))))

pub loop-at-preserved : goal.loop-at-preserved
loop-at-preserved c =
    let m = c.args.message.now in
    let l = c.loop-at in
    let s = c.args.start in
    let holds = sym c.name_holds.ensures ∙ c.if-not-name_holds.false in
    elim c.if-not-is_white.branch [
      | then-not-is_white w ↦
          rw w.end-is (l.invariant ∙ name_other m l.at (omega arith) s l.end c.if-b-eq58.false holds (sym c.is_white.ensures ∙ w.if-not-is_white.true))
      | else-not-is_white w ↦
          rw w.end-is (l.invariant ∙ name_white m l.at (omega arith) s l.end c.if-b-eq58.false holds (sym c.is_white.ensures ∙ w.if-not-is_white.false))
    ]

pub returns : goal.returns
unfolding first_of
returns c =
    let a = c.args in
    let l = c.loop-at in
    let e : length a.message.now ≡ l.at = omega arith in
    rw (c.fault-2.ensures, e) (sym (ap first_of (l.invariant ∙ ends a.message.now l.at (in_name a.start l.end) (omega arith))))
