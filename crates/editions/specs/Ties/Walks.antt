-- What the functions of the loop answer.
use Rattle.std.specs.Prelude.{ℕ, ◌+◌, ◌≤◌, ◌<◌, ◌≡◌, Bool, List, length, Option, Some, None, IfSome}
use Rattle.std.proofs.lemmas.List.Edits.{sets}
use Rattle.records.specs.Believed.AddressRecords.{AddressRecord, record_by, table_bytes}
use Rattle.records.specs.declared.Span.{Span}
use Rattle.scanner.specs.Believed.Symbols.{Symbol}
use Rattle.scanner.specs.declared.Class.{Class}
use Rattle.editions.specs.Ties.Places.{Walked, walked_by, one_if, parent_of, step_from}
use Rattle.editions.specs.declared.places.Place.{Place}
use Rattle.editions.specs.declared.Walk.{Walk}

-- the struct of these
abbrev pub walk_by : Place → ℕ → ℕ → Option ℕ → Option ℕ → ℕ → Walk
walk_by place start end group angle free = record { place = place; name = record { start = start; end = end }; group = group; angle = angle; free = free }

-- what the loop keeps, with these records in the table
abbrev pub walked_of : Walk → List AddressRecord → Walked
walked_of w rs = walked_by w.place w.name.start w.name.end w.group w.angle rs

-- the open records are among those that there are
pub record Fine (w : Walk) : Type 0 where
  pub group : IfSome w.group (λ i. i < w.free)
  pub angle : IfSome w.angle (λ i. i < w.free)

pub record Holds (w : Walk) (rs : List AddressRecord) (lent table : List ℕ) : Type 0 where
  pub counted : length rs ≡ w.free
  pub stored : table ≡ sets lent 0 (table_bytes rs)

-- the record that begins, with an end for now
abbrev pub new_by : ℕ → Walk → ℕ → AddressRecord
new_by kind w end = record_by kind (one_if w.group + one_if w.angle) (parent_of w.group w.angle) w.name.start end w.name.start w.name.end

-- what else a symbol has than its class and place, which no step looks at
pub record Besides : Type 0 where
  pub meaning : List ℕ
  pub apart : Bool

abbrev pub symbol_of : Class → Span → Besides → Symbol Class
symbol_of class span m = record { class = class; lexeme = record { start = span.start; end = span.end; meaning = m.meaning; apart = m.apart } }

-- a step that goes on
pub record Goes (w : Walk) (class : Class) (span : Span) (table after : List ℕ) (v : Walk) : Type 0 where
  pub fine : Fine v
  pub few : v.free ≤ w.free + 1
  pub steps : (m : Besides) (rs : List AddressRecord) (lent : List ℕ) → Holds w rs lent table
      → (ss : List AddressRecord) × Holds v ss lent after × (step_from (walked_of w rs) (symbol_of class span m) ≡ Some (walked_of v ss))

-- a step that stops
pub record Stops (w : Walk) (class : Class) (span : Span) (table after : List ℕ) : Type 0 where
  pub kept : after ≡ table
  pub stops : (m : Besides) (rs : List AddressRecord) (lent : List ℕ) → Holds w rs lent table → step_from (walked_of w rs) (symbol_of class span m) ≡ None

-- a step to this walk
abbrev pub StepIs : Walk → Class → Span → List ℕ → List ℕ → Walk → Option (Unit {0}) → Type 0
StepIs w class span table after v (Some done) = Goes w class span table after v
StepIs w class span table after v None = Stops w class span table after
