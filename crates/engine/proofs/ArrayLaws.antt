-- What stays of the levels where one is written. Assumes nothing.
use Prim.Native.Nat.{ℕ, ◌≤◌, ◌<◌}
use mathlib.Core.Path.{◌≡◌, ◌∙◌}
use mathlib.Core.List.{List}
use native.Mathlib.Omega.{arith}
use lib.ListN.{length, set}
use lib.Seq.{get_or-set_other, get_or-set_same}
use Rattle.grammar.specs.Executable.Machine733.{Here, in_list, in_typed, Level, top, in_angle, in_group, levels_here, levels_at}
use Rattle.engine.specs.Ties.Stands.{open_by, no_level, level_at, Entry, HoldsHere, HoldsLevel}
use Rattle.engine.specs.declared.OpenLevel.{OpenLevel}

-- the levels agree below a level
pub record Agrees (n : ℕ) (levels after : List OpenLevel) : Type 0 where
  pub same : (j : ℕ) → j < n → level_at after j ≡ level_at levels j

entry_agrees : {levels after : List OpenLevel} {n : ℕ} {level number start kind first last : ℕ} → Agrees n levels after → level < n → Entry levels level number start kind first last → Entry after level number start kind first last
entry_agrees {level = level} a h e = record { is = a.same level h ∙ e.is }

mutual
  pub holds_agrees : {levels after : List OpenLevel} {n : ℕ} (h : Here) → Agrees n levels after → levels_here h ≤ n → HoldsHere levels h → HoldsHere after h
  holds_agrees (in_list k r) a b x = level_agrees k a b x
  holds_agrees (in_typed h t y u) a b x = (entry_agrees a (omega arith) x.0, holds_agrees h a (omega arith) x.1)

  level_agrees : {levels after : List OpenLevel} {n : ℕ} (k : Level) → Agrees n levels after → levels_at k ≤ n → HoldsLevel levels k → HoldsLevel after k
  level_agrees top a b x = tt
  level_agrees (in_angle h o t) a b x = (entry_agrees a (omega arith) x.0, holds_agrees h a (omega arith) x.1)
  level_agrees (in_group h o t) a b x = (entry_agrees a (omega arith) x.0, holds_agrees h a (omega arith) x.1)

-- an entry with other names for its numbers
pub entry_as : {levels : List OpenLevel} {level number start kind first last : ℕ} (level' number' start' kind' first' last' : ℕ) → Entry levels level number start kind first last
    → level ≡ level' → number ≡ number' → start ≡ start' → kind ≡ kind' → first ≡ first' → last ≡ last' → Entry levels level' number' start' kind' first' last'
entry_as level' number' start' kind' first' last' e l n s k f a = rw (l, n, s, k, f, a) at e

-- a level is written
pub set_under : (levels : List OpenLevel) (level : ℕ) (o : OpenLevel) → Agrees level levels (set levels level o)
set_under levels level o = record { same = λ j h. get_or-set_other levels level j o no_level (λ e. omega arith) }

pub set_entry : (levels : List OpenLevel) (level number start kind first last : ℕ) → level < length levels → Entry (set levels level (open_by number start kind first last)) level number start kind first last
set_entry levels level number start kind first last h = record { is = get_or-set_same levels level (open_by number start kind first last) no_level h }
