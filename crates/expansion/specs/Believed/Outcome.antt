-- Document 02, CR 10: what is answered for any message, positions, store and lent text, and left in that text.
use Rattle.std.specs.Prelude.{ℕ, ◌≡◌, List, []}
use Rattle.octets.specs.Believed.Answers.{Answered}
use Rattle.octets.specs.Believed.Fitting.{fitting_answer, fitting_text}
use Rattle.octets.specs.declared.answers.Answer.{Answer}
use Rattle.octets.specs.declared.answers.Answer.TheVariants.{Refused}
use Rattle.addresses.specs.Believed.Outcome.{body_read}
use Rattle.plain.specs.Believed.PlainText.{addresses_text}
use Rattle.expansion.specs.Believed.Expansion.{Expansion, stopped, reached, expansion}
use Rattle.expansion.specs.declared.Expanded.{Expanded}

-- the answer, the number of openings, and the lent text afterwards
pub record Outcome : Type 0 where
  pub answer : Answer
  pub openings : ℕ
  pub text : List ℕ

-- a refusal after so many openings leaves the lent text as it was
abbrev pub refusal : List ℕ → ℕ → ℕ → ℕ → Outcome
refusal lent openings number position = record { answer = Refused number position; openings = openings; text = lent }

-- a text at the front of the lent one, or 11 with its length where there is too little room
abbrev pub fitted : List ℕ → ℕ → List ℕ → Outcome
fitted lent openings text = record { answer = fitting_answer text lent; openings = openings; text = fitting_text text lent }

-- what is answered of an expansion: the expanded addresses are written plainly
abbrev pub expanded : List ℕ → Expansion → Outcome
expanded lent (stopped number position openings) = refusal lent openings number position
expanded lent (reached addresses openings) = fitted lent openings (addresses_text addresses [])

-- the outcome: a refused body as the reader refuses it, with no opening
abbrev pub expand_outcome : List ℕ → ℕ → ℕ → List ℕ → List ℕ → Outcome
expand_outcome message start end store lent = body_read (refusal lent 0) (λ k. expanded lent (expansion store k)) message start end

-- an answer and a lent text afterwards are those of an outcome
pub record AnsweredBy (o : Outcome) (r : Expanded) (after : List ℕ) : Type 0 where
  pub answered : Answered o.answer o.text r.answer after
  pub openings_is : r.openings ≡ o.openings
