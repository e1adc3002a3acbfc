-- Condition 3, over any edition and apart from any reader, of an answer and a table afterwards.
use Rattle.std.specs.Prelude.{ℕ, ◌≤◌, ◌<◌, ◌≡◌, List, length, take}
use Rattle.std.proofs.lemmas.List.Edits.{sets}
use Rattle.octets.specs.Believed.Numbers.{message_limit, level_limit, accepted, too_little_room}
use Rattle.octets.specs.Believed.Answers.{telling, told}
use Rattle.octets.specs.Believed.Stored.{room_for}
use Rattle.octets.specs.declared.answers.Answer.{Answer}
use Rattle.octets.specs.declared.answers.Answer.TheVariants.{Accepted}
use Rattle.records.specs.Believed.AddressRecords.{address_record_size, table_bytes}
use Rattle.scanner.specs.Believed.Scanning.{scan_by}
use Rattle.scanner.specs.Believed.Answers.{fault_of}
use Rattle.scanner.specs.Believed.Symbols.{Symbol}
use Rattle.scanner.specs.declared.Class.{Class}
use Rattle.grammar.specs.Believed.Grammar.{Forest, Derived, levels}
use Rattle.grammar.specs.Believed.Language.{Refusal, refused, number, start_of, Right}
use Rattle.grammar.specs.Believed.Records.{count, records}
use Rattle.grammar.specs.Believed.Rfc733.{Derivation}
use Rattle.addresses.specs.Believed.Editions.{Edition, edition733}
use Rattle.addresses.specs.Believed.Editions.{symbols_in}

module _ {N : Type 0} (edition : Edition N) where
  -- these symbols have this derivation, of at most 64 levels
  pub record IsListIn (symbols : List (Symbol Class)) (k : Forest Class N) : Type 0 where
    pub derived : Derived edition.grammar edition.list k symbols
    pub within : levels k ≤ level_limit

  -- refused with 8, 9 or 10 at the first symbol at which no list of at most 64 levels goes on, or at the body's end
  pub record RightlyRefused (symbols : List (Symbol Class)) (end : ℕ) (r : Answer) : Type 0 where
    pub why : Refusal
    pub rest : List (Symbol Class)
    pub right : Right (Derived edition.grammar edition.list) levels level_limit symbols (refused why rest)
    pub tells : told r ≡ telling (number why) (start_of end rest) 0

  -- what condition 3 says of the symbols of a body with this end, a lent table, the answer and the table afterwards
  pub record Settled (symbols : List (Symbol Class)) (end : ℕ) (table : List ℕ) (r : Answer) (after : List ℕ) : Type 0 where
    -- exactly one derivation: two derivations of these symbols are equal, whatever their levels
    pub one : (k k' : Forest Class N) → Derived edition.grammar edition.list k symbols → Derived edition.grammar edition.list k' symbols → k ≡ k'
    -- a list, with room: accepted, with the count and the records of its one derivation, byte for byte, and nothing else changed
    pub with_room : (k : Forest Class N) → IsListIn symbols k → count k ≤ room_for address_record_size table → (told r ≡ telling accepted 0 (count k)) × (after ≡ sets table 0 (table_bytes (records k)))
    -- a list, without room: 11 with the number of its addresses
    pub without_room : (k : Forest Class N) → IsListIn symbols k → room_for address_record_size table < count k → (told r ≡ telling too_little_room 0 (count k)) × (after ≡ table)
    -- no list: refused, whatever the room
    pub no_list : ((k : Forest Class N) → IsListIn symbols k → ⊥) → RightlyRefused symbols end r × (after ≡ table)

  -- condition 3 speaks of a body that scans without fault, with its positions in order, in a message within the limit
  abbrev pub Condition3In : List ℕ → ℕ → ℕ → List ℕ → Answer → List ℕ → Type 0
  Condition3In message start end table r after =
      length message ≤ message_limit → start ≤ end → end ≤ length message → fault_of (scan_by edition.classes (take end message) start) ≡ Accepted 0
      → Settled (symbols_in edition message start end) end table r after

-- ---- in RFC 733

abbrev pub IsList : List (Symbol Class) → Derivation → Type 0
IsList symbols k = IsListIn edition733 symbols k

abbrev pub Condition3 : List ℕ → ℕ → ℕ → List ℕ → Answer → List ℕ → Type 0
Condition3 message start end table r after = Condition3In edition733 message start end table r after
