-- What the functions that read a whole body answer.
use Rattle.std.specs.Prelude.{◌≡◌, Bool, true, false, List, ℕ, ◌+◌, ◌*◌, ◌/◌, ◌≤◌, length}
use Rattle.std.proofs.lemmas.List.Edits.{sets}
use Rattle.octets.specs.Believed.Numbers.{message_limit, level_limit}
use Rattle.octets.specs.declared.answers.Answer.{Answer}
use Rattle.octets.specs.declared.answers.Answer.TheVariants.{Refused}
use Rattle.records.specs.Believed.AddressRecords.{table_bytes, address_record_size}
use Rattle.scanner.specs.Believed.Scanning.{scan_by}
use Rattle.scanner.specs.Believed.Answers.{fault_of}
use Rattle.scanner.specs.Believed.Symbols.{Symbol}
use Rattle.scanner.specs.Ties.Steps.{Faultless}
use Rattle.scanner.specs.declared.Class.{Class}
use Rattle.grammar.specs.Believed.Grammar.{Forest}
use Rattle.grammar.specs.Believed.Language.{Refusal, Verdict, accepted, refused, number, start_of}
use Rattle.grammar.specs.Believed.Records.{count, records}
use Rattle.grammar.specs.Executable.Machine733.{answer}
use Rattle.addresses.specs.Believed.Outcome.{by_verdict, decided}
use Rattle.addresses.specs.Ties.Steps.{symbols_from}
use Rattle.grammar.specs.declared.Whole.{Whole}
use Rattle.grammar.specs.declared.Whole.TheVariants as whole
use Rattle.grammar.specs.declared.Whole.TheVariants.{Listed}

pub record Body (classes text : List ℕ) (at : ℕ) : Type 0 where
  pub inside : at ≤ length text
  pub short : length text ≤ message_limit
  pub faultless : Faultless classes text at

-- a text that is not too long, and a position in it
pub record Fitting (text : List ℕ) (at : ℕ) : Type 0 where
  pub inside : at ≤ length text
  pub short : length text ≤ message_limit

-- bodies of up to so many bytes are read once
abbrev pub once_limit : ℕ
once_limit = 1024

-- the bytes of the records that such a body can have: one for each two bytes
abbrev pub once_room : ℕ
once_room = once_limit / 2 * address_record_size

-- beside the table such a body has that room
abbrev pub Staged : List ℕ → ℕ → List ℕ → Type 0
Staged text at room = length text ≤ at + once_limit → once_room ≡ length room

-- the symbols from a position on are a list of RFC 733 of at most so many levels
abbrev pub ends_within : List ℕ → List ℕ → ℕ → ℕ → Bool
ends_within classes text limit at = by_verdict (λ n p. false) (λ k. true) (length text) (answer limit (symbols_from classes text at))

-- where there is no fault that is so; where there is one, it is no list
pub record EndsWithin (classes text : List ℕ) (limit at : ℕ) (r : Bool) : Type 0 where
  pub clean : Faultless classes text at → r ≡ ends_within classes text limit at
  pub faulty : (number p : ℕ) → Refused number p ≡ fault_of (scan_by classes text at) → r ≡ false

-- by any verdict on the symbols
module _ {N : Type 0} (verdict : List (Symbol Class) → Verdict Class (Forest Class N)) (classes text : List ℕ) where
  pub record IsListed (at : ℕ) (table after : List ℕ) (n : ℕ) : Type 0 where
    pub derivation : Forest Class N
    pub verdict_is : verdict (symbols_from classes text at) ≡ accepted derivation
    pub count_is : n ≡ count derivation
    pub stored : after ≡ sets table 0 (table_bytes (records derivation))

  pub record IsRefused (at number-told place : ℕ) : Type 0 where
    pub why : Refusal
    pub rest : List (Symbol Class)
    pub verdict_is : verdict (symbols_from classes text at) ≡ refused why rest
    pub number_is : number-told ≡ number why
    pub place_is : place ≡ start_of (length text) rest

  abbrev pub WholeIs : ℕ → List ℕ → List ℕ → Whole → Type 0
  WholeIs at table after (Listed n) = IsListed at table after n
  WholeIs at table after (whole.Refused number-told place) = IsRefused at number-told place

  -- what is decided of the symbols from a position on
  pub record TwiceIs (at : ℕ) (table after : List ℕ) (r : Answer) : Type 0 where
    pub answer_is : r ≡ (decided (length text) table (verdict (symbols_from classes text at))).answer
    pub table_is : after ≡ (decided (length text) table (verdict (symbols_from classes text at))).table

  -- ---- the fault is looked for last, and told first

  -- a list has no fault; where there is one, a refusal says nothing
  pub record ListedClean (at : ℕ) (table after : List ℕ) (n : ℕ) : Type 0 where
    pub listed : IsListed at table after n
    pub faultless : Faultless classes text at

  abbrev pub WholeFirst : ℕ → List ℕ → List ℕ → Whole → Type 0
  WholeFirst at table after (Listed n) = ListedClean at table after n
  WholeFirst at table after (whole.Refused number-told place) = Faultless classes text at → IsRefused at number-told place

  -- what is decided where there is no fault, and else the fault
  pub record FaultFirst (at : ℕ) (table after : List ℕ) (r : Answer) : Type 0 where
    pub clean : Faultless classes text at → TwiceIs at table after r
    pub faulty : (number p : ℕ) → Refused number p ≡ fault_of (scan_by classes text at) → (r ≡ Refused number p) × (after ≡ table)

-- whether it is a list
abbrev pub is_listed : Whole → Bool
is_listed (Listed n) = true
is_listed (whole.Refused number-told place) = false

-- what is told of a list of at most so many levels from a position on; of one of at most 64 also what is written
pub record BodyRead (classes text : List ℕ) (limit at : ℕ) (table after : List ℕ) (r : Whole) : Type 0 where
  pub whole : limit ≡ level_limit → WholeFirst (answer level_limit) classes text at table after r
  pub within : EndsWithin classes text limit at (is_listed r)
