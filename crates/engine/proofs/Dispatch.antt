-- What a turn does, by the act of the table, and what the end does. Assumes nothing.
use Prim.Native.Nat.{ℕ, ◌+◌, ◌≤◌, ◌<◌}
use mathlib.Core.Path.{◌≡◌, refl, sym, ap, ◌∙◌}
use mathlib.Core.List.{List}
use mathlib.Core.Option.{Option, none, some}
use native.Mathlib.Omega.{arith}
use lib.ListN.{length}
use Rattle.octets.specs.Believed.Numbers.{message_limit, level_limit, no_list_goes_on, ends_too_soon}
use Rattle.grammar.specs.Believed.Language.{unfit}
use Rattle.grammar.specs.Executable.Machines.{go}
use Rattle.grammar.specs.Executable.Trees733.{Class, Lexeme, Phrase, AddressList, Address}
use Rattle.grammar.specs.Executable.Machine733.{Here, Level, top, in_angle, in_group, State, list, phrase, want, close, enter, levels_at, step_on, finish, whole}
use Rattle.grammar.proofs.Rfc733.TreeRecords.{list_count}
use Rattle.engine.specs.declared.actions.Act.{Act}
use Rattle.engine.specs.declared.actions.Act.TheVariants.{Refuse, Begin, Add, Pass, Open, OpenNamed, TurnTyped, EndAtComma, Close, EndAndClose}
use Rattle.engine.specs.declared.actions.Action.{Action}
use Rattle.engine.specs.declared.actions.End.{End}
use Rattle.engine.specs.declared.actions.End.TheVariants.{OfList, OfAddress}
use Rattle.engine.specs.Ties.Actions.{row_of, action_of}
use Rattle.engine.specs.Ties.Stands.{mode_of, parent_at, stored_list, Stands}
use Rattle.engine.specs.Ties.Turns.{span, engine_by, is_angle, kind_if, level_if, end_if, Ended, Closed, GoesTo, StopsBy, Opening, AtClose, AtTyped, Turning, SomeEnded, FinishedList, Unfinished}
use Rattle.engine.specs.declared.OpenLevel.{OpenLevel}
use Rattle.engine.specs.declared.Stack.{Stack}
use Rattle.engine.specs.declared.Engine.{Engine}
use Rattle.engine.proofs.LevelLaws.{close_free}
use Rattle.engine.proofs.MachineLaws.{Does, DoesSo, does, DoesAtEnd, does_at_end}
use Rattle.engine.proofs.TurnLaws.{passed, kind_below, begin_open, goes_begin, goes_add, goes_pass, ended_free, ended_comma, ended_close, list_close}

-- what the machine does, by the act of the table
pub acts_as : {a : Action} (s : State) (c : Class) (t : Lexeme) → a ≡ action_of (mode_of s) c → (d : Act) → a.act ≡ d → Does d a.next level_limit s c t
acts_as {a} s c t i d q =
    let y : DoesSo a level_limit s c t = rw i (does level_limit t s c) in
    rw q at y

-- .. in the reader's mode
pub action_is : {text lent table : List ℕ} {stack : Stack} {s : State} {e : Engine} {a : Action} (c : Class) → Stands text lent s e stack table → a ≡ action_of e.mode c → a ≡ action_of (mode_of s) c
action_is c x i = i ∙ ap (λ m. action_of m c) x.mode_is

module _ {text lent table : List ℕ} {stack : Stack} {s : State} {t : Lexeme} {e : Engine} {c : Class} {from to : ℕ} (x : Turning text lent s t e c from to stack table) {a : Action} (i : a ≡ action_of e.mode c) where
  does_as : (d : Act) → a.act ≡ d → Does d a.next level_limit s c t
  does_as d q = acts_as s c t (action_is c x.stands i) d q

  pub turn_refuses : a.act ≡ Refuse → StopsBy (step_on level_limit s c t) no_list_goes_on stack stack
  turn_refuses q = record { why = unfit; steps = does_as Refuse q; number_is = refl; kept = refl }

  pub turn_begins : a.act ≡ Begin → GoesTo text lent (step_on level_limit s c t) to (engine_by a.next e.free (span from to) to) stack table
  turn_begins q = let b = does_as Begin q in goes_begin x.follows b.here b.word b.at x.stands b.is b.steps (sym b.mode_is)

  pub turn_adds : a.act ≡ Add → GoesTo text lent (step_on level_limit s c t) to (engine_by a.next e.free (span e.name.start to) to) stack table
  turn_adds q = let b = does_as Add q in goes_add x.follows b.here b.sofar b.word b.at x.stands b.is b.steps (sym b.mode_is)

  pub turn_passes : a.act ≡ Pass → GoesTo text lent (step_on level_limit s c t) to (passed e a.next to) stack table
  turn_passes q = let b = does_as Pass q in goes_pass x.follows b.keeps x.stands b.steps (sym b.mode_is)

  shorter : to ≤ message_limit
  shorter = omega (arith, x.follows.within, x.stands.ordered.short)

  kind_is : {kind : ℕ} → kind ≡ kind_if (is_angle c) → kind < 256
  kind_is k = omega (arith, kind_below (is_angle c))

  -- a level to be opened
  pub record OpensBy (e' : Engine) (kind : ℕ) : Type 0 where
    pub here : Here
    pub name : Option Phrase
    pub opening : Opening text lent here name t (is_angle c) e' kind a.next to stack table
    pub steps : step_on level_limit s c t ≡ enter level_limit (level_if (is_angle c) here name t)

  pub turn_opens : a.act ≡ Open → (kind : ℕ) → kind ≡ kind_if (is_angle c) → OpensBy (engine_by e.mode e.free (span from from) e.at) kind
  turn_opens q kind k =
      let b = does_as Open q in
      let o = begin_open b.here (rw b.at at x.stands) in
      record {
        here = b.here;
        name = none;
        opening = record {
          is_open = o.0;
          free_is = o.1;
          stored = o.2;
          start_is = x.follows.start_is;
          name_is = x.follows.start_is;
          kind_is = k;
          next_is = sym b.mode_is;
          fits = record { free_low = omega (arith, x.stands.room, x.follows.from, x.follows.starts); start_low = omega (arith, x.follows.starts); name_low = omega (arith, x.follows.starts); kind_low = kind_is k; short = shorter };
          within = x.follows.within;
          short = x.stands.ordered.short;
          tall = x.stands.ordered.tall;
        };
        steps = b.steps;
      }

  pub turn_opens_named : a.act ≡ OpenNamed → (kind : ℕ) → kind ≡ kind_if (is_angle c) → OpensBy e kind
  turn_opens_named q kind k =
      let b = does_as OpenNamed q in
      let y : Stands text lent (phrase b.here b.name) e stack table = rw b.at at x.stands in
      record {
        here = b.here;
        name = some b.name;
        opening = record {
          is_open = record { depth_is = y.depth_is; holds = y.holds; deep = y.ordered.deep };
          free_is = y.free_is;
          stored = y.stored;
          start_is = y.current.0.start_is;
          name_is = y.current.0.name_is;
          kind_is = k;
          next_is = sym b.mode_is;
          fits = record {
            free_low = omega (arith, x.stands.room, x.follows.from, x.follows.starts);
            start_low = omega (arith, x.stands.ordered.start_low, x.follows.from, x.follows.starts);
            name_low = omega (arith, x.stands.ordered.name_low, x.follows.from, x.follows.starts);
            kind_low = kind_is k;
            short = shorter;
          };
          within = x.follows.within;
          short = x.stands.ordered.short;
          tall = x.stands.ordered.tall;
        };
        steps = b.steps;
      }

  -- the nameless group is to turn typed
  pub record TypesBy : Type 0 where
    pub here : Here
    pub colon : Lexeme
    pub atom : Lexeme
    pub at : AtTyped text lent here colon atom e a.next to stack table
    pub steps : step_on level_limit s c t ≡ go (want here colon atom t)

  pub turn_types : a.act ≡ TurnTyped → TypesBy
  turn_types q =
      let b = does_as TurnTyped q in
      record {
        here = b.here;
        colon = b.colon;
        atom = b.atom;
        at = record { stands = rw b.at at x.stands; next_is = sym b.mode_is; from = omega (arith, x.follows.from, x.follows.starts); within = x.follows.within };
        steps = b.steps;
      }

  -- an address that ends
  pub ends_by_comma : a.act ≡ EndAtComma → SomeEnded stack table e
  ends_by_comma q = let b = does_as EndAtComma q in record { text = text; lent = lent; state = s; here = b.here; address = b.address; stands = x.stands; ended = b.ended }

  pub ends_by_mark : a.act ≡ EndAndClose → SomeEnded stack table e
  ends_by_mark q = let b = does_as EndAndClose q in record { text = text; lent = lent; state = s; here = b.here; address = b.address; stands = x.stands; ended = b.ended }

  pub turn_comma : {after : List ℕ} {left : ℕ} → a.act ≡ EndAtComma → ((h : Here) (y : Address) → Ended s h y → Closed lent (close h y) after left)
      → GoesTo text lent (step_on level_limit s c t) to (engine_by a.next (e.free + 1) (span to to) to) (record { levels = stack.levels; depth = left }) after
  turn_comma q f =
      let b = does_as EndAtComma q in
      rw b.steps (ended_comma c s b.here b.address x.stands x.follows b.ended (f b.here b.address b.ended) (sym b.mode_is))

  -- a level to be closed
  pub record ClosesBy (depth free kind : ℕ) (levels' : List OpenLevel) (table' : List ℕ) : Type 0 where
    pub level : Level
    pub sofar : AddressList
    pub at : AtClose text lent level sofar t (is_angle c) depth free kind a.next to levels' table'
    pub steps : step_on level_limit s c t ≡ end_if (is_angle c) level sofar t

  pub turn_closes : a.act ≡ Close → (kind : ℕ) → kind ≡ kind_if (is_angle c) → ClosesBy stack.depth e.free kind stack.levels table
  turn_closes q kind k =
      let b = does_as Close q in
      record {
        level = b.level;
        sofar = b.sofar;
        at = list_close c b.level b.sofar (rw b.at at x.stands) x.follows (is_angle c) k (sym b.mode_is);
        steps = b.steps;
      }

  pub turn_ended_closes : {after : List ℕ} {left : ℕ} → a.act ≡ EndAndClose → (kind : ℕ) → kind ≡ kind_if (is_angle c) → ((h : Here) (y : Address) → Ended s h y → Closed lent (close h y) after left)
      → ClosesBy left (e.free + 1) kind stack.levels after
  turn_ended_closes q kind k f =
      let b = does_as EndAndClose q in
      record {
        level = (close b.here b.address).level;
        sofar = (close b.here b.address).sofar;
        at = ended_close c s b.here b.address x.stands x.follows b.ended (f b.here b.address b.ended) (is_angle c) k (sym b.mode_is);
        steps = b.steps;
      }

-- ---- the end

open_whole : (k : Level) (l : AddressList) → (levels_at k ≡ 0 → ⊥) → whole k l ≡ none
open_whole top l f = absurd (f refl)
open_whole (in_angle h o t) l f = refl
open_whole (in_group h o t) l f = refl

-- a list that is finished
finished_list : (lent table : List ℕ) (s : State) (k : Level) (l : AddressList) (n depth : ℕ) → finish s ≡ whole k l → depth ≡ levels_at k → depth ≡ 0 → n ≡ parent_at k + list_count l
    → table ≡ stored_list lent k l → FinishedList lent s table n
finished_list lent table s top l n depth w d z c e = record { tree = l; is = w; count_is = omega (arith, c); stored = e }
finished_list lent table s (in_angle h o t) l n depth w d z c e = absurd (omega arith)
finished_list lent table s (in_group h o t) l n depth w d z c e = absurd (omega arith)

module _ {text lent table : List ℕ} {stack : Stack} {s : State} {e : Engine} (x : Stands text lent s e stack table) {z : End} (i : z ≡ (row_of e.mode).end) where
  pub ends_as : (d : End) → z ≡ d → DoesAtEnd d s
  ends_as d q = rw (sym i' ∙ q) at (does_at_end s)
    where
      i' : z ≡ (row_of (mode_of s)).end
      i' = i ∙ ap (λ m. (row_of m).end) x.mode_is

  pub end_listed : z ≡ OfList → stack.depth ≡ 0 → FinishedList lent s table e.free
  end_listed q d =
      let b = ends_as OfList q in
      let y : Stands text lent (list b.level b.sofar) e stack table = rw b.at at x in
      finished_list lent table s b.level b.sofar e.free stack.depth (ap finish b.at) y.depth_is d y.free_is y.stored

  pub end_open : z ≡ OfList → (stack.depth ≡ 0 → ⊥) → Unfinished text s ends_too_soon (length text)
  end_open q d =
      let b = ends_as OfList q in
      let y : Stands text lent (list b.level b.sofar) e stack table = rw b.at at x in
      record { is = ap finish b.at ∙ open_whole b.level b.sofar (λ g. d (y.depth_is ∙ g)); number_is = refl; place_is = refl }

  pub end_ends : z ≡ OfAddress → SomeEnded stack table e
  end_ends q = let b = ends_as OfAddress q in record { text = text; lent = lent; state = s; here = b.here; address = b.address; stands = x; ended = b.ended }

  module _ {after : List ℕ} {left : ℕ} (q : z ≡ OfAddress) (closed : (h : Here) (y : Address) → Ended s h y → Closed lent (close h y) after left) where
    pub end_ended_listed : left ≡ 0 → FinishedList lent s after (e.free + 1)
    end_ended_listed d =
        let b = ends_as OfAddress q in
        let c = closed b.here b.address b.ended in
        let fr = ended_free s b.here b.address x b.ended in
        finished_list lent after s (close b.here b.address).level (close b.here b.address).sofar (e.free + 1) left b.is c.depth_is d
        (omega (arith, close_free b.here b.address, fr.0, fr.1)) c.stored

    pub end_ended_open : (left ≡ 0 → ⊥) → Unfinished text s ends_too_soon (length text)
    end_ended_open d =
        let b = ends_as OfAddress q in
        let c = closed b.here b.address b.ended in
        record { is = b.is ∙ open_whole (close b.here b.address).level (close b.here b.address).sofar (λ h. d (c.depth_is ∙ h)); number_is = refl; place_is = refl }
