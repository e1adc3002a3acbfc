-- The executable layer: what is named, as a function; the machine of the grammar says it of the state in which it stands.
-- Nothing here needs to be believed: `NamesExactly` says what is named, over the grammar alone.
use Rattle.std.specs.Prelude.{ℕ, Bool, true, false, List, [], take}
use Rattle.std.proofs.Math.Option.{Option, none, some}
use Rattle.octets.specs.Believed.Choice.{either}
use Rattle.octets.specs.Believed.Numbers.{level_limit}
use Rattle.scanner.specs.Believed.Symbols.{Symbol, Lexeme}
use Rattle.scanner.specs.Believed.Scanning.{scan, symbols_of}
use Rattle.scanner.specs.Believed.Answers.{body_checked, unless_fault}
use Rattle.scanner.specs.declared.Class.{Class}
use Rattle.scanner.specs.declared.Class.TheVariants.{Atom, Quoted, At, LessThan, GreaterThan, Comma, Semicolon, Colon}
use Rattle.grammar.specs.Executable.Machines.{Step, go, stop, stands_by}
use Rattle.grammar.specs.Executable.Machine733.{State, step_on, step, finish}
use Rattle.grammar.specs.Executable.Machine733 as machine
use Rattle.expected.specs.Believed.Things.{ExactlyWhereRefused, ExactlyAtTheEnd, Thing, word, at, at_sign, less_than, greater_than, comma, semicolon, colon, body_end, sum_of}

-- a step goes on
abbrev pub goes : {S : Type 0} → Step S → Bool
goes (go s) = true
goes (stop why) = false

-- there is such a thing
abbrev pub is_some : {A : Type 0} → Option A → Bool
is_some none = false
is_some (some a) = true

-- where a symbol stands and what it means does not matter here
abbrev pub anywhere : Lexeme
anywhere = record { start = 0; end = 0; meaning = []; apart = false }

-- a state takes a symbol of a class
abbrev pub takes : ℕ → State → Class → Bool
takes limit s c = goes (step_on limit s c anywhere)

-- what a state goes on with, or ends with
abbrev pub named_at : ℕ → State → Thing → Bool
named_at limit s word = either (takes limit s Atom) (takes limit s Quoted)
named_at limit s at = takes limit s At
named_at limit s at_sign = takes limit s At
named_at limit s less_than = takes limit s LessThan
named_at limit s greater_than = takes limit s GreaterThan
named_at limit s comma = takes limit s Comma
named_at limit s semicolon = takes limit s Semicolon
named_at limit s colon = takes limit s Colon
named_at limit s body_end = is_some (finish s)

-- what is named for these symbols: the machine stands before the refused one, or at the end
abbrev pub named : ℕ → List (Symbol Class) → Thing → Bool
named limit symbols = named_at limit (stands_by step limit machine.start symbols)

-- a thing is named exactly if it could stand there: where symbols are rightly refused, and at the end of a list
pub record NamesExactly : Type 0 where
  pub where_refused : (limit : ℕ) (symbols : List (Symbol Class)) → ExactlyWhereRefused limit symbols (named limit symbols)
  pub at_the_end : (limit : ℕ) (symbols : List (Symbol Class)) → ExactlyAtTheEnd limit symbols (named limit symbols)

-- the sum for the body of a message from `start` up to `end`: what could stand where reading stops; 0 where it is not read
abbrev pub expected_in : List ℕ → ℕ → ℕ → ℕ
expected_in message start end =
    let scanned = scan (take end message) start in
    body_checked (λ number p. 0) message start end (unless_fault (λ number p. 0) scanned (sum_of (named level_limit (symbols_of scanned))))
