-- Document 02, CR 14: "exchanging any comment for another one, both scanning alone without fault, at the same place,
-- changes neither acceptance nor plain text, as long as the message stays within its limit."
use Rattle.std.specs.Prelude.{ℕ, ◌+◌, ◌≤◌, ◌≡◌, true, List, ◌++◌, length}
use Rattle.octets.specs.Believed.Answers.{number_of, count_of}
use Rattle.octets.specs.Believed.Numbers.{message_limit}
use Rattle.grammar.specs.Believed.Rfc733.{Derivation}
use Rattle.addresses.specs.Believed.Outcome.{Outcome, outcome}
use Rattle.plain.specs.Believed.Meaning.{meaning}
use Rattle.plain.specs.Believed.PlainText.{plain_text}
use Rattle.plain.specs.Believed.RoundTrip.{AcceptedBody}
use Rattle.plain.specs.Believed.Written.{plain_outcome}
use Rattle.equality.specs.Believed.Cards.{SameList}
use Rattle.equality.specs.Believed.Comments.{comment_may_follow, is_comment}

-- ---- a comment in the body of a message

-- a place in the body of a message: the bytes of the message before it and after it, where the body starts, and how many of the bytes after it are the body's
pub record Place : Type 0 where
  pub before : List ℕ
  pub behind : List ℕ
  pub start : ℕ
  pub rest : ℕ

-- the place lies in the body, and a comment may stand there
pub record MayHoldComment (place : Place) : Type 0 where
  pub starts : place.start ≤ length place.before
  pub ends : place.rest ≤ length place.behind
  pub follows : comment_may_follow place.before place.start ≡ true

-- the message with these bytes at the place
abbrev pub message_with : Place → List ℕ → List ℕ
message_with place bytes = place.before ++ (bytes ++ place.behind)

-- the body's end then; its start stays
abbrev pub end_with : Place → List ℕ → ℕ
end_with place bytes = length place.before + (length bytes + place.rest)

-- these bytes are a comment, and the message with them at the place is within its limit
pub record Holds (place : Place) (comment : List ℕ) : Type 0 where
  pub comment_is : is_comment comment ≡ true
  pub short : length (message_with place comment) ≤ message_limit

-- ---- what comes of the body then

-- it is accepted with this derivation
abbrev pub AcceptedWith : Place → List ℕ → Derivation → Type 0
AcceptedWith place bytes k = AcceptedBody (message_with place bytes) place.start (end_with place bytes) k

-- what the reader answers and leaves in a lent table
abbrev pub read_with : Place → List ℕ → List ℕ → Outcome
read_with place bytes table = outcome (message_with place bytes) place.start (end_with place bytes) table

-- what the writer answers and leaves in a lent text
abbrev pub written_with : Place → List ℕ → List ℕ → Outcome
written_with place bytes lent = plain_outcome (message_with place bytes) place.start (end_with place bytes) lent

-- ---- comments do not count

-- the same number and the same count; the place of a refusal may differ
pub record SameAnswer (one other : Outcome) : Type 0 where
  pub number : number_of one.answer ≡ number_of other.answer
  pub count : count_of one.answer ≡ count_of other.answer

-- accepted again, with the same addresses and the same plain text
pub record StillAccepted (place : Place) (bytes : List ℕ) (k : Derivation) : Type 0 where
  pub again : Derivation
  pub accepted : AcceptedWith place bytes again
  pub same : SameList (meaning again) (meaning k)
  pub text : plain_text again ≡ plain_text k

-- what is kept where one comment is exchanged for another
pub record Unchanged (place : Place) (one other : List ℕ) : Type 0 where
  -- acceptance, with the addresses and the plain text
  pub accepted : (k : Derivation) → AcceptedWith place one k → StillAccepted place other k
  -- the reader's number and count, whatever table is lent: so a refused body keeps its number
  pub read : (table : List ℕ) → SameAnswer (read_with place one table) (read_with place other table)
  -- the writer's, whatever text is lent, and every byte of that text afterwards
  pub written : (lent : List ℕ) → SameAnswer (written_with place one lent) (written_with place other lent)
  pub text : (lent : List ℕ) → (written_with place one lent).table ≡ (written_with place other lent).table

-- of any place where a comment may stand, and any two comments there; as these may change places, it is kept both ways
abbrev pub CommentsDoNotCount : Type 0
CommentsDoNotCount = (place : Place) (one other : List ℕ) → MayHoldComment place → Holds place one → Holds place other → Unchanged place one other
