-- What the functions below the entry point do with the tool's own table.
use Rattle.std.specs.Prelude.{◌≡◌, List, ℕ, ◌+◌, ◌≤◌, ◌<◌, length, get_or, Bool, false, true, Option, MatchOption}
use Rattle.std.proofs.lemmas.List.Edits.{sets}
use Rattle.octets.specs.Believed.Numbers.{table_records}
use Rattle.records.specs.Believed.AddressRecords.{AddressRecord, no_record, record_in}
use Rattle.grammar.specs.Believed.Records.{records}
use Rattle.grammar.specs.Believed.Rfc733.{Derivation}
use Rattle.addresses.proofs.Judgements.{ListBody}
use Rattle.touch.specs.Believed.Around.{covers, Climbs}
use Rattle.touch.specs.Believed.Answers.{Touched, of_list}

-- a table holds these records, `many` of them, each with a parent before it
pub record Holds (table : List ℕ) (many : ℕ) (rs : List AddressRecord) : Type 0 where
  pub many_is : many ≡ length rs
  pub few : many ≤ table_records
  pub are : (i : ℕ) → i < many → record_in table i ≡ get_or rs i no_record
  pub parents : (i : ℕ) → i < many → (get_or rs i no_record).parent ≤ i

-- none of these numbers passes a test
abbrev pub NonePass : (ℕ → Bool) → ℕ → ℕ → Type 0
NonePass test from to = (i : ℕ) → from ≤ i → i < to → test i ≡ false

-- this one does, and none after it
abbrev pub LastToPass : (ℕ → Bool) → ℕ → ℕ → Type 0
LastToPass test to n = (n < to) × (test n ≡ true) × NonePass test (n + 1) to

-- of so many records of a table, the last that covers a place
abbrev pub LastAroundIs : List ℕ → ℕ → ℕ → Option ℕ → Type 0
LastAroundIs table many place r =
    MatchOption r (NonePass (λ i. covers place (record_in table i)) 0 many) (LastToPass (λ i. covers place (record_in table i)) many)

-- some records are held, and climbing starts at one of them, so many steps after the first
pub record MayClimb (table : List ℕ) (parent at : ℕ) : Type 0 where
  pub many : ℕ
  pub rs : List AddressRecord
  pub holds : Holds table many rs
  pub within : parent ≤ many
  pub room : at + parent ≤ table_records

-- the numbers that climbing finds are put into the path from a place on
abbrev pub ClimbIs : List ℕ → ℕ → ℕ → List ℕ → List ℕ → ℕ → Type 0
ClimbIs table parent at path after r =
    (many : ℕ) (rs : List AddressRecord) (ns : List ℕ) → Holds table many rs → parent ≤ many → Climbs rs parent ns → (after ≡ sets path at ns) × (r ≡ at + length ns)

-- ---- an accepted body

-- the table holds the records of its list
pub record HeldList (message : List ℕ) (start end : ℕ) (table : List ℕ) (many : ℕ) (k : Derivation) : Type 0 where
  pub body : ListBody message start end k
  pub holds : Holds table many (records k)

pub record SomeList (message : List ℕ) (start end : ℕ) (table : List ℕ) (many : ℕ) : Type 0 where
  pub derivation : Derivation
  pub held : HeldList message start end table many derivation

-- what is answered for it
abbrev pub ListIs : List ℕ → ℕ → ℕ → ℕ → List ℕ → List ℕ → ℕ → List ℕ → Touched → Type 0
ListIs message start end place path table many after r =
    (k : Derivation) → HeldList message start end table many k → (r ≡ (of_list message start end place path k).answer) × (after ≡ (of_list message start end place path k).path)
