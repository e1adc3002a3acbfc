-- Document 02, CR 10: what is promised of an expansion.
use Rattle.std.specs.Prelude.{ℕ, ◌≤◌, ◌≡◌, false, List, [], eqb, length}
use Rattle.octets.specs.Believed.Answers.{telling, told}
use Rattle.octets.specs.Believed.Numbers.{message_limit, opening_limit}
use Rattle.octets.specs.declared.answers.Answer.TheVariants.{Accepted, Refused}
use Rattle.scanner.specs.Believed.Answers.{body_scanned}
use Rattle.grammar.specs.Believed.Rfc733.{Derivation, kind_number, include}
use Rattle.addresses.specs.Believed.Editions.{edition733}
use Rattle.addresses.specs.Believed.Outcome as addresses
use Rattle.addresses.specs.Believed.Editions.{body_symbols}
use Rattle.addresses.specs.Believed.Condition3.{RightlyRefused}
use Rattle.plain.specs.Believed.Meaning.{Addresses, no_address, and_address, Address, address, meaning}
use Rattle.plain.specs.Believed.PlainText.{addresses_text, plain_text}
use Rattle.plain.specs.Believed.RoundTrip.{AcceptedBody}
use Rattle.plain.specs.Believed.Written.{plain_outcome}
use Rattle.expansion.specs.Believed.Outcome.{expanded, AnsweredBy}
use Rattle.expansion.specs.declared.Expanded.{Expanded}
use Rattle.expansion.specs.Believed.Expansion.{Expansion, stopped, reached, expansion}

-- no Include is among addresses, nor in one of them
abbrev mutual
  pub NoInclude : Addresses → Type 0
  NoInclude no_address = Unit {0}
  NoInclude (and_address before last) = NoInclude before × NotInclude last

  pub NotInclude : Address → Type 0
  NotInclude (address kind name nodes members) = (eqb kind (kind_number include) ≡ false) × NoInclude members

-- the plain text of addresses, as a body of its own, is accepted with exactly these addresses (at most 64 levels: see AcceptedBody), and its plain text is the same bytes
pub record ReadsBack (m : Addresses) : Type 0 where
  pub again : Derivation
  pub accepted : AcceptedBody (addresses_text m []) 0 (length (addresses_text m [])) again
  pub means : meaning again ≡ m
  pub text : plain_text again ≡ addresses_text m []

-- of what an expansion reaches
pub record ExpandedWell (m : Addresses) (openings : ℕ) : Type 0 where
  pub no_include : NoInclude m
  pub reads_back : length (addresses_text m []) ≤ message_limit → ReadsBack m
  pub counted : openings ≤ opening_limit

abbrev pub Promised : Expansion → Type 0
Promised (stopped n p openings) = openings ≤ opening_limit
Promised (reached m openings) = ExpandedWell m openings

-- of an answer and a lent text afterwards, by the derivation of the body
pub record Promises (message : List ℕ) (start end : ℕ) (store lent : List ℕ) (r : Expanded) (after : List ℕ) : Type 0 where
  -- of an accepted body its expansion is answered
  pub expands : (k : Derivation) → AcceptedBody message start end k → AnsweredBy (expanded lent (expansion store k)) r after
  -- what is promised of that expansion
  pub promised : (k : Derivation) → AcceptedBody message start end k → Promised (expansion store k)
  -- a body without Include gives what plain writing gives, with no opening
  pub without_include : (k : Derivation) → AcceptedBody message start end k → NoInclude (meaning k)
      → addresses.AnsweredBy (plain_outcome message start end lent) r.answer after × (r.openings ≡ 0)
  -- a body that scans without fault and is no list is refused with 8, 9 or 10, as condition 3 has it, with no opening, and the lent text is unchanged
  pub no_list : body_scanned message start end ≡ Accepted 0 → ((k : Derivation) → AcceptedBody message start end k → ⊥)
      → RightlyRefused edition733 (body_symbols message start end) end r.answer × (r.openings ≡ 0) × (after ≡ lent)
  -- any other is refused with the number and position of the check or of the fault
  pub unread : (number position : ℕ) → body_scanned message start end ≡ Refused number position → (told r.answer ≡ telling number position 0) × (r.openings ≡ 0) × (after ≡ lent)
