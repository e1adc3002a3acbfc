-- `scanner::past_literal_text` meets its contract: the bytes passed are text of every literal. Assumes nothing.
use Rattle.scanner.specs.Ties.Steps.{LiteralPasses}
use Rattle.scanner.proofs.past_literal_text.Given as goal

abbrev pub invariant-loop-p : goal.invariant-loop-p
invariant-loop-p l = LiteralPasses l.classes l.text l.at l.p
