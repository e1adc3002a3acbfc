-- Document 01, number 11: a text goes into a lent part if it fits.
use Rattle.std.specs.Prelude.{ℕ, List, ◌++◌, leb, length, drop}
use Rattle.octets.specs.Believed.Choice.{pick}
use Rattle.octets.specs.declared.answers.Answer.{Answer}
use Rattle.octets.specs.declared.answers.Answer.TheVariants.{Accepted, NoRoom}

-- a text that fits is accepted with its length as count; of one that does not, the count is the bytes needed
abbrev pub fitting_answer : List ℕ → List ℕ → Answer
fitting_answer text lent = pick (leb (length text) (length lent)) (Accepted (length text)) (NoRoom (length text))

-- the lent part afterwards: a text that fits stands at its start, and nothing else changes
abbrev pub fitting_text : List ℕ → List ℕ → List ℕ
fitting_text text lent = pick (leb (length text) (length lent)) (text ++ drop (length text) lent) lent
