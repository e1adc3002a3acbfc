-- Condition 2, over the grammar and apart from any reader, of an answer and a lent text afterwards.
use Rattle.std.specs.Prelude.{ℕ, ◌≤◌, ◌≡◌, List, length}
use Rattle.octets.specs.Believed.Answers.{telling, told}
use Rattle.octets.specs.Believed.Fitting.{fitting_answer, fitting_text}
use Rattle.octets.specs.Believed.Numbers.{message_limit}
use Rattle.octets.specs.declared.answers.Answer.{Answer}
use Rattle.octets.specs.declared.answers.Answer.TheVariants.{Accepted, Refused}
use Rattle.scanner.specs.Believed.Answers.{body_scanned}
use Rattle.grammar.specs.Believed.Rfc733.{Derivation}
use Rattle.addresses.specs.Believed.Editions.{edition733, body_symbols}
use Rattle.addresses.specs.Believed.Condition3.{RightlyRefused}
use Rattle.plain.specs.Believed.PlainText.{plain_text}
use Rattle.plain.specs.Believed.RoundTrip.{AcceptedBody, RoundTrip}

pub record Condition2 (message : List ℕ) (start end : ℕ) (lent : List ℕ) (r : Answer) (after : List ℕ) : Type 0 where
  -- of an accepted body its plain text is written, if it fits, and nothing else changes
  pub writes : (k : Derivation) → AcceptedBody message start end k → (told r ≡ told (fitting_answer (plain_text k) lent)) × (after ≡ fitting_text (plain_text k) lent)
  -- and that text, if it is within the message limit, reads back the same and writes back the same bytes
  pub round_trip : (k : Derivation) → AcceptedBody message start end k → length (plain_text k) ≤ message_limit → RoundTrip k
  -- a body that scans without fault and is no list is refused with 8, 9 or 10, as condition 3 has it, and the lent text is unchanged
  pub no_list : body_scanned message start end ≡ Accepted 0 → ((k : Derivation) → AcceptedBody message start end k → ⊥)
      → RightlyRefused edition733 (body_symbols message start end) end r × (after ≡ lent)
  -- any other is refused with the number and position of the check or of the fault
  pub unread : (number position : ℕ) → body_scanned message start end ≡ Refused number position → (told r ≡ telling number position 0) × (after ≡ lent)
