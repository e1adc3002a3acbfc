-- What the functions that look between symbols answer.
use Rattle.std.specs.Prelude.{◌≡◌, ℕ, ◌≤◌, Bool, Option, None, Some}
use Rattle.scanner.specs.Believed.Scanning.{State, outside, in_comment, taking_in_comment, move}
use Rattle.scanner.specs.Believed.Categories.{taken_in, behind}
use Rattle.scanner.specs.declared.ByteKind.{ByteKind}
use Rattle.scanner.specs.declared.Category.{Category}
use Rattle.scanner.specs.declared.Category.TheVariants.{Nothing}
use Rattle.scanner.specs.declared.Gap.{Gap}
use Rattle.scanner.specs.declared.Gap.TheVariants.{Outside, Comment, Taking}

-- the state of scanning, the outermost comment starting there
abbrev pub state_of : Gap → ℕ → State
state_of Outside start = outside
state_of (Comment depth) start = in_comment depth start
state_of (Taking depth) start = taking_in_comment depth start

-- how many comments lie around
abbrev pub gap_depth : Gap → ℕ
gap_depth Outside = 0
gap_depth (Comment depth) = depth
gap_depth (Taking depth) = depth

-- what a character of a kind is
abbrev pub GapCategoryIs : Gap → ByteKind → Category → Type 0
GapCategoryIs gap kind r = (start : ℕ) → r ≡ taken_in (state_of gap start) kind

-- where it leads, with a byte b at a position p
pub record LeadsTo (gap : Gap) (start : ℕ) (kind : ByteKind) (b p : ℕ) (folded : Bool) (next : Gap) : Type 0 where
  pub outermost : ℕ
  pub same : (rest : State → Category) → behind (move (state_of gap start) kind b p folded) rest ≡ rest (state_of next outermost)

abbrev pub PassedIs : Gap → ByteKind → Option Gap → Type 0
PassedIs gap kind (Some next) = (start b p : ℕ) (folded : Bool) → LeadsTo gap start kind b p folded next
PassedIs gap kind None = (start b p : ℕ) (folded : Bool) (rest : State → Category) → behind (move (state_of gap start) kind b p folded) rest ≡ Nothing

-- .. in so many comments, at most
abbrev pub PassedLow : ℕ → Option Gap → Type 0
PassedLow n (Some next) = gap_depth next ≤ n
PassedLow n None = Unit {0}
