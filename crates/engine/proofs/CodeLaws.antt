-- The laws in the words of the code. Assumes nothing.
use Prim.Native.Nat.{ℕ, zero, suc, ◌+◌, ◌*◌, ◌-◌, ◌≤◌, ◌<◌}
use mathlib.Core.Path.{◌≡◌, refl, sym, ap, ◌∙◌}
use mathlib.Core.Bool.{Bool}
use mathlib.Core.List.{List}
use native.Mathlib.Omega.{arith}
use lib.Seq.{sets}
use Rattle.records.specs.Believed.AddressRecords.{address_record_size, record_by, record_bytes}
use Rattle.grammar.specs.Believed.Rfc733.{kind_number, typed_kind}
use Rattle.grammar.specs.Executable.Trees733.{Lexeme, AddressList, Address, typed}
use Rattle.grammar.specs.Executable.Machine733.{Here, in_list, in_typed, Level, top, in_angle, in_group, Spot, State, close, levels_here}
use Rattle.grammar.proofs.Rfc733.TreeRecords.{name_start, name_end}
use Rattle.engine.specs.Ties.Stands.{level_at, number_here, parent_here, Stands}
use Rattle.engine.specs.Ties.Turns.{span, engine_by, kind_at, OpenHere, LevelAt, SomeLevel, Closing, Closed, kind_if, end_if, lone_kind, Ended, AtClose, GoesTo}
use Rattle.engine.specs.declared.actions.Mode.{Mode}
use Rattle.engine.specs.declared.Engine.{Engine}
use Rattle.engine.specs.declared.OpenLevel.{OpenLevel}
use Rattle.engine.specs.declared.Stack.{Stack}
use Rattle.engine.proofs.TurnLaws.{RightMark, address_if, mark_closing, mark_closed, ended_closing}
use Rattle.engine.proofs.LevelLaws.{parent_none, parent_some, typed_kind_bounds, kind_of_here, here_kind, closed_list, closed_typed, typed_level}

-- ---- parents

pub parent_outermost : (levels : List OpenLevel) (depth : ℕ) → depth ≡ 0 → (h : Here) → OpenHere levels h depth → 0 ≡ parent_here h
parent_outermost levels depth z h o = sym (parent_none h (sym o.depth_is ∙ z))

pub parent_around : (levels : List OpenLevel) (depth : ℕ) → (depth ≡ 0 → ⊥) → (h : Here) → OpenHere levels h depth → (level_at levels (depth - 1)).number + 1 ≡ parent_here h
parent_around levels zero f h o = absurd (f refl)
parent_around levels (suc d) f h o =
    let p : suc d - 1 ≡ d = omega arith in
    let q = parent_some levels h d o.holds (sym o.depth_is) in
    rw p (omega (arith, q))

-- ---- the record of a level

-- what is stored of it
abbrev pub level_bytes : OpenLevel → ℕ → ℕ → ℕ → List ℕ
level_bytes o level parent end = record_bytes (record_by o.kind level parent o.start end o.name_start o.name_end)

pub level_put : {levels : List OpenLevel} {after : List ℕ} (table : List ℕ) {level parent : ℕ} (end : ℕ) (h : Here) (start kind first last : ℕ) → LevelAt levels level h start kind first last
    → parent ≡ parent_here h
    → after ≡ sets table ((level_at levels level).number * address_record_size) (level_bytes (level_at levels level) level parent end)
    → after ≡ sets table (number_here h * address_record_size) (record_bytes (record_by kind level (parent_here h) start end first last))
level_put table {level} {parent} end h start kind first last l p e =
    e ∙ ap (λ (o : OpenLevel). sets table (o.number * address_record_size) (level_bytes o level parent end)) l.entry.is ∙ rw p refl

-- ---- typed addresses close in a run

-- what is left to close
pub record ClosingOn (lent : List ℕ) (levels : List OpenLevel) (end : ℕ) (h : Here) (a : Address) (table : List ℕ) (left : ℕ) : Type 0 where
  pub here : Here
  pub address : Address
  pub same : close here address ≡ close h a
  pub closing : Closing lent levels table left end here address

pub closing_start : {lent : List ℕ} {levels : List OpenLevel} {table : List ℕ} {depth end : ℕ} {h : Here} {a : Address} → Closing lent levels table depth end h a → ClosingOn lent levels end h a table depth
closing_start {h = h} {a = a} c = record { here = h; address = a; same = refl; closing = c }

closed_as : {lent table : List ℕ} {left : ℕ} {spot spot' : Spot} → spot ≡ spot' → Closed lent spot table left → Closed lent spot' table left
closed_as e c = rw e at c

-- a typed address is the innermost level
pub record TypedTop (lent : List ℕ) (levels : List OpenLevel) (table : List ℕ) (end left : ℕ) (spot : Spot) : Type 0 where
  pub here : Here
  pub colon : Lexeme
  pub atom : Lexeme
  pub second : Lexeme
  pub address : Address
  pub same : close (in_typed here colon atom second) address ≡ spot
  pub closing : Closing lent levels table left end (in_typed here colon atom second) address

module _ {lent : List ℕ} {levels : List OpenLevel} {table : List ℕ} {end left : ℕ} where
  stays : (g : Here) (b : Address) → kind_of_here g < 5 → Closing lent levels table left end g b → Closed lent (close g b) table left
  stays (in_list k r) b z c = closed_list lent levels table left end k r b c
  stays (in_typed g t x u) b z c = absurd (omega (arith, (typed_kind_bounds x.meaning).0))

  pub closing_stays : (h : Here) (a : Address) → kind_at levels left < 5 → ClosingOn lent levels end h a table left → Closed lent (close h a) table left
  closing_stays h a z c = closed_as c.same (stays c.here c.address (omega (arith, here_kind levels left c.here c.closing.is_open)) c.closing)

  typed_top_by : (spot : Spot) (g : Here) (b : Address) → close g b ≡ spot → 5 ≤ kind_of_here g → Closing lent levels table left end g b → TypedTop lent levels table end left spot
  typed_top_by spot (in_list top r) b e k c = absurd (omega arith)
  typed_top_by spot (in_list (in_angle g o t) r) b e k c = absurd (omega arith)
  typed_top_by spot (in_list (in_group g o t) r) b e k c = absurd (omega arith)
  typed_top_by spot (in_typed g t x u) b e k c = record { here = g; colon = t; atom = x; second = u; address = b; same = e; closing = c }

  pub typed_top : (h : Here) (a : Address) → 5 ≤ kind_at levels left → ClosingOn lent levels end h a table left → TypedTop lent levels table end left (close h a)
  typed_top h a k c = typed_top_by (close h a) c.here c.address c.same (omega (arith, here_kind levels left c.here c.closing.is_open)) c.closing

  module _ (h : Here) (a : Address) (y : TypedTop lent levels table end left (close h a)) where
    depth_is : levels_here y.here ≡ left - 1
    depth_is = omega (arith, y.closing.is_open.depth_is)

    pub top_level : LevelAt levels (left - 1) y.here y.colon.start (kind_number (typed_kind y.atom.meaning)) y.atom.start y.atom.end
    top_level = rw depth_is at (typed_level levels left y.here y.colon y.atom y.second y.closing.is_open)

    pub some_level : SomeLevel levels (left - 1)
    some_level = record { here = y.here; start = y.colon.start; kind = kind_number (typed_kind y.atom.meaning); first = y.atom.start; last = y.atom.end; at = top_level }

    pub closing_more : (after : List ℕ)
        → after ≡ sets table (number_here y.here * address_record_size) (record_bytes (record_by (kind_number (typed_kind y.atom.meaning)) (left - 1) (parent_here y.here) y.colon.start end y.atom.start y.atom.end))
        → ClosingOn lent levels end h a after (left - 1)
    closing_more after e =
        record {
          here = y.here;
          address = typed y.colon y.atom y.second y.address;
          same = y.same;
          closing = rw depth_is at (closed_typed lent levels table after left end y.here y.colon y.atom y.second y.address y.closing
              (e ∙ ap (λ n. sets table (number_here y.here * address_record_size) (record_bytes (record_by (kind_number (typed_kind y.atom.meaning)) n (parent_here y.here) y.colon.start end y.atom.start y.atom.end))) (sym depth_is)));
        }

-- ---- a level is closed

pub mark_level : {levels : List OpenLevel} {level : ℕ} {k : Level} (b : Bool) → RightMark levels level b k → SomeLevel levels level
mark_level b r = record { here = r.here; start = name_start r.name r.mark; kind = kind_if b; first = name_start r.name r.mark; last = name_end r.name r.mark; at = r.at }

module _ {text lent table : List ℕ} {levels : List OpenLevel} {t : Lexeme} {depth free kind end level : ℕ} {next : Mode} (b : Bool) (k : Level) (l : AddressList) (x : AtClose text lent k l t b depth free kind next end levels table) (r : RightMark levels level b k) where
  pub right_closing : (after : List ℕ)
      → after ≡ sets table (number_here r.here * address_record_size) (record_bytes (record_by (kind_if b) level (parent_here r.here) (name_start r.name r.mark) end (name_start r.name r.mark) (name_end r.name r.mark)))
      → Closing lent levels after level end r.here (address_if b r.name r.mark l t)
  right_closing after e = mark_closing b r.here r.name r.mark l (rw r.is at x) level r.at.is_open.depth_is r.at.is_open after e

  pub right_closed : (left : ℕ) (after : List ℕ) → Closed lent (close r.here (address_if b r.name r.mark l t)) after left
      → GoesTo text lent (end_if b k l t) end (engine_by next free (span end end) end) (record { levels = levels; depth = left }) after
  right_closed left after c =
      rw r.is (mark_closed b r.here r.name r.mark l (rw r.is at x) r.at.is_open.holds (omega (arith, r.at.is_open.depth_is, r.at.is_open.deep)) left after c)

-- ---- an address has ended

pub complete_closing : {text lent table after : List ℕ} {stack : Stack} {e : Engine} (s : State) (h : Here) (a : Address) (kind parent : ℕ) → Stands text lent s e stack table → Ended s h a → kind ≡ lone_kind e.mode → parent ≡ parent_here h
    → after ≡ sets table (e.free * address_record_size) (record_bytes (record_by kind stack.depth parent e.name.start e.at e.name.start e.name.end)) → Closing lent stack.levels after stack.depth e.at h a
complete_closing s h a kind parent x g k p q = ended_closing s h a x g (q ∙ rw (k, p) refl)
