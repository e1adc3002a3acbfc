-- Document 01, "Plain writing": what the writer answers and leaves in the lent text.
use Rattle.std.specs.Prelude.{ℕ, List}
use Rattle.octets.specs.Believed.Fitting.{fitting_answer, fitting_text}
use Rattle.grammar.specs.Believed.Rfc733.{Derivation}
use Rattle.addresses.specs.Believed.Outcome.{Outcome, outcome_by}
use Rattle.plain.specs.Believed.PlainText.{plain_text}

-- a derivation: its plain text at the front of the lent text, or 11 with its length where there is too little room
abbrev pub written : List ℕ → Derivation → Outcome
written lent k = record { answer = fitting_answer (plain_text k) lent; table = fitting_text (plain_text k) lent }

-- the outcome for any message, positions and lent text: the writer refuses with the reader's numbers
abbrev pub plain_outcome : List ℕ → ℕ → ℕ → List ℕ → Outcome
plain_outcome message start end lent = outcome_by written message start end lent
