use mathlib.Core.Path.{refl, sym, ◌∙◌}
use native.Mathlib.Omega.{arith}
use Rattle.addresses.proofs.CursorSteps.{stepped, met, word_in}
use Rattle.addresses.proofs.CursorReads.{phrase_done}
use Rattle.addresses.proofs.PhraseLaws.{words_start, words_more}
use Rattle.addresses.proofs.Walk.read_words.Goals as goal

pub loop-self-init : goal.loop-self-init
loop-self-init c = (words_start _ _ c.requires, refl)

pub returns-then-not-is_word : goal.returns-then-not-is_word
returns-then-not-is_word c =
    let i = c.loop-self.invariant in
    phrase_done _ _ i.0 i.1 (stepped _ _ c.loop-self.self c.step.ensures) (sym c.is_word.ensures ∙ c.if-not-is_word.true)

pub loop-self-smaller : goal.loop-self-smaller
loop-self-smaller c =
    let y = met _ _ (stepped _ _ c.loop-self.self c.step.ensures) (word_in c.step.new.self (sym c.is_word.ensures ∙ c.if-not-is_word.false)).ahead_is in
    omega (arith, y.ok.0, y.ok.1.starts, y.ok.1.within)

pub loop-self-preserved : goal.loop-self-preserved
loop-self-preserved c =
    let i = c.loop-self.invariant in
    let w = word_in c.step.new.self (sym c.is_word.ensures ∙ c.if-not-is_word.false) in
    (words_more _ _ i.0 (met _ _ (stepped _ _ c.loop-self.self c.step.ensures) w.ahead_is) w.passes, i.1)
