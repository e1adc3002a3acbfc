-- Document 02, CR 9: "For every input and every table given it must return the same number, position, count and table bytes as
-- the first one."
use Rattle.std.specs.Prelude.{ℕ, ◌≡◌, List}
use Rattle.octets.specs.Believed.Answers.{number_of, position_of, count_of}
use Rattle.octets.specs.declared.answers.Answer.{Answer}
use Rattle.addresses.specs.Believed.Outcome.{AnsweredBy, outcome}

-- what a reader answers and the table afterwards, as both readers promise it in their clause `outcome`
abbrev pub Promised : List ℕ → ℕ → ℕ → List ℕ → Answer → List ℕ → Type 0
Promised message start end table r after = AnsweredBy (outcome message start end table) r after

-- the same number, position, count and table bytes
pub record Same (r r' : Answer) (after after' : List ℕ) : Type 0 where
  pub number : number_of r ≡ number_of r'
  pub position : position_of r ≡ position_of r'
  pub count : count_of r ≡ count_of r'
  pub bytes : after ≡ after'

-- for every input and every table
abbrev pub BothReadersSame : Type 0
BothReadersSame =
    (message : List ℕ) (start end : ℕ) (table : List ℕ) (r r' : Answer) (after after' : List ℕ) → Promised message start end table r after → Promised message start end table r' after'
    → Same r r' after after'
