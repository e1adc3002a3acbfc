-- Where the reader stops, and what could stand there.
use Rattle.std.specs.Prelude.{ℕ, ◌≡◌, Bool, List, Option, None, Some}
use Rattle.octets.specs.declared.answers.Fault.{Fault}
use Rattle.octets.specs.Believed.Numbers.{level_limit}
use Rattle.scanner.specs.declared.Class.{Class}
use Rattle.grammar.specs.Executable.Machines.{ended, stands_by}
use Rattle.grammar.specs.Executable.Trees733.{Address}
use Rattle.grammar.specs.Executable.Machine733.{Here, State, close, levels_at, step, finish, run, start, answer}
use Rattle.addresses.specs.Ties.Steps.{symbols_from}
use Rattle.addresses.specs.Ties.Whole.{IsRefused}
use Rattle.expected.specs.Believed.Things.{sum_of}
use Rattle.expected.specs.Executable.Named.{is_some, takes, named_at}
use Rattle.engine.specs.Ties.Stands.{Stands}
use Rattle.engine.specs.Ties.Turns.{OpenHere}
use Rattle.engine.specs.declared.OpenLevel.{OpenLevel}
use Rattle.engine.specs.declared.Stack.{Stack}
use Rattle.engine.specs.declared.Engine.{Engine}
use Rattle.engine.specs.declared.Stopped.{Stopped}

-- ---- where the reader stops

-- the state in which the machine stops
abbrev pub stop_of : List ℕ → List ℕ → ℕ → State
stop_of classes text from = stands_by step level_limit start (symbols_from classes text from)

-- all symbols are read, and these are the records
pub record ReadsAll (classes text : List ℕ) (from : ℕ) (records table : List ℕ) : Type 0 where
  pub reads : run level_limit start (symbols_from classes text from) ≡ ended (stop_of classes text from)
  pub kept : table ≡ records

-- .. or one is refused so
abbrev pub StopsBy : List ℕ → List ℕ → ℕ → List ℕ → List ℕ → Option Fault → Type 0
StopsBy classes text from records table None = ReadsAll classes text from records table
StopsBy classes text from records table (Some f) = IsRefused (answer level_limit) classes text from f.number f.position

-- the reader stands there, with the records from before the turn of a refused symbol
pub record RunIs (classes text lent : List ℕ) (from : ℕ) (stack : Stack) (table : List ℕ) (r : Stopped) : Type 0 where
  pub records : List ℕ
  pub stands : Stands text lent (stop_of classes text from) r.engine stack records
  pub stops : StopsBy classes text from records table r.fault

-- ---- what could stand next

-- the reader's numbers and its levels stand for a state
pub record SomeStands (stack : Stack) (e : Engine) : Type 0 where
  pub text : List ℕ
  pub lent : List ℕ
  pub table : List ℕ
  pub state : State
  pub stands : Stands text lent state e stack table

-- the levels that stay open where an address ends
abbrev pub UnderTypedIs : List OpenLevel → ℕ → ℕ → Type 0
UnderTypedIs levels depth r = (h : Here) (a : Address) → OpenHere levels h depth → r ≡ levels_at (close h a).level

-- a symbol of a class
abbrev pub CouldIs : Stack → Engine → Class → Bool → Type 0
CouldIs stack e c r = (x : SomeStands stack e) → r ≡ takes level_limit x.state c

-- the end
abbrev pub CouldEndIs : Stack → Engine → Bool → Type 0
CouldEndIs stack e r = (x : SomeStands stack e) → r ≡ is_some (finish x.state)

-- all of them
abbrev pub ExpectedIs : Stack → Engine → ℕ → Type 0
ExpectedIs stack e r = (x : SomeStands stack e) → r ≡ sum_of (named_at level_limit x.state)
