-- Condition 2: what is promised of a plain text.
use Rattle.std.specs.Prelude.{ℕ, ◌≡◌, List, length}
use Rattle.octets.specs.declared.answers.Answer.TheVariants.{Accepted}
use Rattle.scanner.specs.Believed.Answers.{body_scanned}
use Rattle.grammar.specs.Believed.Rfc733.{Derivation}
use Rattle.addresses.specs.Believed.Editions.{body_symbols}
use Rattle.addresses.specs.Believed.Condition3.{IsList}
use Rattle.plain.specs.Believed.Meaning.{SameAddresses}
use Rattle.plain.specs.Believed.PlainText.{plain_text}

-- the body of a message from `start` up to `end` is accepted with this derivation:
-- it passes the checks and scans without fault, to symbols that are a list with this derivation
pub record AcceptedBody (message : List ℕ) (start end : ℕ) (derivation : Derivation) : Type 0 where
  pub scans : body_scanned message start end ≡ Accepted 0
  pub list : IsList (body_symbols message start end) derivation

-- the plain text of a derivation, as a body of its own, is accepted with the same addresses, nesting, words and nodes, and its plain text is the same bytes
pub record RoundTrip (derivation : Derivation) : Type 0 where
  pub again : Derivation
  pub accepted : AcceptedBody (plain_text derivation) 0 (length (plain_text derivation)) again
  pub same : SameAddresses again derivation
  pub text : plain_text again ≡ plain_text derivation
