use mathlib.Core.Path.{refl, sym, ◌∙◌}
use native.Mathlib.Omega.{arith}
use lib.ListN.{length}
use Rattle.grammar.specs.Executable.Trees733.{At}
use Rattle.addresses.specs.Ties.Steps.{coming}
use Rattle.addresses.proofs.CursorSteps.{with_cursor, refused_as, stepped, met, class_in, word_in}
use Rattle.addresses.proofs.CursorReads.{word_next_lem, nodes_done, nodes_refused, nodes_behind, nodes_told}
use Rattle.addresses.proofs.NodesLaws.{nodes_start, node_read, nodes_again}
use Rattle.addresses.proofs.Walk.read_nodes.Goals as goal

pub loop-self-init : goal.loop-self-init
loop-self-init c = (nodes_start _ _, refl)

pub returns-then-not-is_word : goal.returns-then-not-is_word
returns-then-not-is_word c =
    let k = c.args.classes.now in
    let t = c.args.text.now in
    let now = with_cursor c.loop-self.self c.step.new.self in
    let x = stepped k t c.loop-self.self c.step.ensures in
    nodes_told k t c.args.self.now now c.refusal.result (coming now) (nodes_refused k t (coming now) c.loop-self.invariant.0 x.next (word_next_lem c.step.new.self (sym c.is_word.ensures ∙ c.if-not-is_word.true))) (refused_as (length t) now c.refusal.ensures)

pub returns-then-ends_address : goal.returns-then-ends_address
returns-then-ends_address c =
    let k = c.args.classes.now in
    let t = c.args.text.now in
    let i = c.loop-self.invariant in
    let now = with_cursor c.loop-self.self c.step.new.self in
    let w = word_in c.step.new.self (sym c.is_word.ensures ∙ c.if-not-is_word.false) in
    let n = node_read k t i.0 (met k t (stepped k t c.loop-self.self c.step.ensures) w.ahead_is) w.passes in
    nodes_done k t c.args.self.now now (with_cursor now c.step-in-loop-self.new.self) n i.1 (stepped k t now c.step-in-loop-self.ensures) (sym c.ends_address.ensures ∙ c.if-ends_address.true)

pub returns-then-not-is_ahead : goal.returns-then-not-is_ahead
returns-then-not-is_ahead c =
    let k = c.args.classes.now in
    let t = c.args.text.now in
    let now = with_cursor c.loop-self.self c.step.new.self in
    let w = word_in c.step.new.self (sym c.is_word.ensures ∙ c.if-not-is_word.false) in
    let n = node_read k t c.loop-self.invariant.0 (met k t (stepped k t c.loop-self.self c.step.ensures) w.ahead_is) w.passes in
    nodes_behind k t c.args.self.now now (with_cursor now c.step-in-loop-self.new.self) c.refusal-then-not-is_ahead.result n (stepped k t now c.step-in-loop-self.ensures) (sym c.ends_address.ensures ∙ c.if-ends_address.false) (sym c.is_ahead.ensures ∙ c.if-not-is_ahead.true) (refused_as (length t) (with_cursor now c.step-in-loop-self.new.self) c.refusal-then-not-is_ahead.ensures)

pub loop-self-smaller : goal.loop-self-smaller
loop-self-smaller c =
    let k = c.args.classes.now in
    let t = c.args.text.now in
    let now = with_cursor c.loop-self.self c.step.new.self in
    let y = met k t (stepped k t c.loop-self.self c.step.ensures) (word_in c.step.new.self (sym c.is_word.ensures ∙ c.if-not-is_word.false)).ahead_is in
    let z = met k t (stepped k t now c.step-in-loop-self.ensures) (class_in At c.step-in-loop-self.new.self c.is_ahead.ensures c.if-not-is_ahead.false) in
    omega (arith, y.ok.0, y.ok.1.starts, z.ok.0, z.ok.1.starts, z.ok.1.within)

pub loop-self-preserved : goal.loop-self-preserved
loop-self-preserved c =
    let k = c.args.classes.now in
    let t = c.args.text.now in
    let i = c.loop-self.invariant in
    let now = with_cursor c.loop-self.self c.step.new.self in
    let w = word_in c.step.new.self (sym c.is_word.ensures ∙ c.if-not-is_word.false) in
    let n = node_read k t i.0 (met k t (stepped k t c.loop-self.self c.step.ensures) w.ahead_is) w.passes in
    (nodes_again k t n (met k t (stepped k t now c.step-in-loop-self.ensures) (class_in At c.step-in-loop-self.new.self c.is_ahead.ensures c.if-not-is_ahead.false)), i.1)
