-- What could stand next. Assumes nothing.
use Prim.Native.Nat.{ℕ, suc, ◌+◌, ◌-◌, ◌≤◌, ◌<◌}
use mathlib.Core.Path.{◌≡◌, refl, sym, ap, ◌∙◌}
use mathlib.Core.Bool.{Bool, true, false}
use mathlib.Core.Logic.{◌⊎◌, inl, inr}
use mathlib.Core.List.{List, []}
use mathlib.Core.Option.{none, some}
use native.Mathlib.Omega.{arith}
use borrow.Author.Tests.{lt-ltb, le-ltb, leb-true, leb-false}
use lib.Dec.{eqb, ltb}
use Rattle.octets.specs.Believed.Numbers.{level_limit}
use Rattle.grammar.specs.Executable.Trees733.{Class, Atom, At, LessThan, GreaterThan, Comma, Semicolon, Colon, AddressList, Address, quoted}
use Rattle.grammar.specs.Executable.Machine733.{Here, Level, top, in_angle, in_group, State, phrase, close, entered, enter, within_limit, levels_at, finish}
use Rattle.grammar.proofs.Rfc733.TreeRecords.{address_end}
use Rattle.expected.specs.Believed.Things.{if_named, sum_of}
use Rattle.expected.specs.Executable.Named.{goes, is_some, anywhere, takes, named_at}
use Rattle.expected.proofs.ClassAlone.{word_by_atom}
use Rattle.engine.specs.declared.actions.Act.{Act}
use Rattle.engine.specs.declared.actions.Act.TheVariants.{Begin, Add, Pass, Open, OpenNamed, TurnTyped, EndAtComma, EndAndClose}
use Rattle.engine.specs.declared.actions.Action.{Action}
use Rattle.engine.specs.Ties.Actions.{action_of}
use Rattle.engine.specs.Ties.Stands.{HoldsLevel, stored_address, Stands}
use Rattle.engine.specs.Ties.Turns.{is_angle, kind_if, kind_at, level_if, end_if, OpenHere, SomeHere}
use Rattle.engine.specs.Ties.Expecting.{SomeStands, UnderTypedIs}
use Rattle.engine.specs.declared.OpenLevel.{OpenLevel}
use Rattle.engine.specs.declared.Stack.{Stack}
use Rattle.engine.specs.declared.Engine.{Engine}
use Rattle.engine.proofs.LevelLaws.{kind_of_level, level_kind, close_holds, close_depth}
use Rattle.engine.proofs.MachineLaws.{Does}
use Rattle.engine.proofs.TurnLaws.{level_depth, begin_open, ended_open}
use Rattle.engine.proofs.CodeLaws.{ClosingOn, closing_start, closing_stays, typed_top, closing_more}
use Rattle.engine.proofs.Dispatch.{acts_as, action_is}

-- ---- under the typed levels

-- what is left to close, as if its records were written
pub record UnderOn (levels : List OpenLevel) (h : Here) (a : Address) (left : ℕ) : Type 0 where
  pub table : List ℕ
  pub closing : ClosingOn [] levels (address_end a) h a table left

module _ {levels : List OpenLevel} (h : Here) (a : Address) where
  pub under_start : {depth : ℕ} → OpenHere levels h depth → UnderOn levels h a depth
  under_start o = record { table = stored_address [] h a; closing = closing_start (record { is_open = o; end_is = refl; stored = refl }) }

  pub under_stays : {left : ℕ} → kind_at levels left < 5 → UnderOn levels h a left → left ≡ levels_at (close h a).level
  under_stays k u = (closing_stays h a k u.closing).depth_is

  pub under_more : {left : ℕ} → 5 ≤ kind_at levels left → UnderOn levels h a left → UnderOn levels h a (left - 1)
  under_more k u = record { table = _; closing = closing_more h a (typed_top h a k u.closing) _ refl }

-- they are no more than the limit
pub under_low : {levels : List OpenLevel} {depth left : ℕ} → SomeHere levels depth → UnderTypedIs levels depth left → left ≤ level_limit
under_low z u = omega (arith, u z.here (quoted anywhere) z.is_open, close_depth z.here (quoted anywhere), z.is_open.depth_is, z.is_open.deep)

-- ---- marks that close

same_kind : (k : Level) (l : AddressList) (b : Bool) → eqb (kind_of_level k) (kind_if b) ≡ goes (end_if b k l anywhere)
same_kind top l true = refl
same_kind top l false = refl
same_kind (in_angle h o v) l true = refl
same_kind (in_angle h o v) l false = refl
same_kind (in_group h o v) l true = refl
same_kind (in_group h o v) l false = refl

closes_if : (levels : List OpenLevel) (depth : ℕ) {kind : ℕ} (k : Level) (l : AddressList) (b : Bool) → HoldsLevel levels k → depth ≡ levels_at k → kind ≡ kind_if b → eqb (kind_at levels depth) kind ≡ goes (end_if b k l anywhere)
closes_if levels depth k l b x d q = rw (level_kind levels depth k x d, q) (same_kind k l b)

-- ---- a symbol, by its act

-- a level opens if fewer than the limit are open
opens_if : (depth : ℕ) (k : Level) → levels_at k ≡ suc depth → ltb depth level_limit ≡ goes (enter level_limit k)
opens_if depth k e = by (within_limit level_limit k) refl
  where
    by : (b : Bool) → within_limit level_limit k ≡ b → ltb depth level_limit ≡ goes (entered b k)
    by true f = lt-ltb depth level_limit (omega (arith, leb-true (levels_at k) level_limit f))
    by false f = le-ltb depth level_limit (omega (arith, leb-false (levels_at k) level_limit f))

module _ {stack : Stack} {e : Engine} {a : Action} (c : Class) (x : SomeStands stack e) (i : a ≡ action_of e.mode c) where
  does_as : (d : Act) → a.act ≡ d → Does d a.next level_limit x.state c anywhere
  does_as d q = acts_as x.state c anywhere (action_is c x.stands i) d q

  pub could_open : a.act ≡ Open → ltb stack.depth level_limit ≡ takes level_limit x.state c
  could_open q =
      let b = does_as Open q in
      let o = begin_open b.here (rw b.at at x.stands) in
      opens_if stack.depth (level_if (is_angle c) b.here none anywhere) (omega (arith, level_depth b.here none anywhere (is_angle c), o.0.depth_is)) ∙ sym (ap goes b.steps)

  pub could_open_named : a.act ≡ OpenNamed → ltb stack.depth level_limit ≡ takes level_limit x.state c
  could_open_named q =
      let b = does_as OpenNamed q in
      let y : Stands x.text x.lent (phrase b.here b.name) e stack x.table = rw b.at at x.stands in
      opens_if stack.depth (level_if (is_angle c) b.here (some b.name) anywhere) (omega (arith, level_depth b.here (some b.name) anywhere (is_angle c), y.depth_is)) ∙ sym (ap goes b.steps)

  pub closes_here : a.act ≡ EndAndClose → SomeHere stack.levels stack.depth
  closes_here q = let b = does_as EndAndClose q in record { here = b.here; is_open = ended_open x.state b.here b.address x.stands b.ended }

  pub could_end_and_close : {kind : ℕ} (left : ℕ) → a.act ≡ EndAndClose → kind ≡ kind_if (is_angle c) → UnderTypedIs stack.levels stack.depth left → eqb (kind_at stack.levels left) kind ≡ takes level_limit x.state c
  could_end_and_close left q k u =
      let b = does_as EndAndClose q in
      let o = ended_open x.state b.here b.address x.stands b.ended in
      let spot = close b.here b.address in
      closes_if stack.levels left spot.level spot.sofar (is_angle c) (close_holds stack.levels b.here b.address o.holds) (u b.here b.address o) k ∙ sym (ap goes b.steps)

  -- any other act but a refusal goes on
  pub could_go_on : (a.act ≡ Begin) ⊎ ((a.act ≡ Add) ⊎ ((a.act ≡ Pass) ⊎ ((a.act ≡ TurnTyped) ⊎ (a.act ≡ EndAtComma)))) → true ≡ takes level_limit x.state c
  could_go_on (inl q) = sym (ap goes (does_as Begin q).steps)
  could_go_on (inr (inl q)) = sym (ap goes (does_as Add q).steps)
  could_go_on (inr (inr (inl q))) = sym (ap goes (does_as Pass q).steps)
  could_go_on (inr (inr (inr (inl q)))) = sym (ap goes (does_as TurnTyped q).steps)
  could_go_on (inr (inr (inr (inr q)))) = sym (ap goes (does_as EndAtComma q).steps)

-- ---- all of them

-- a number that is counted, by what its test is
pub counts : {test named : Bool} (n : ℕ) {r : ℕ} → r ≡ if_named test n → test ≡ named → r ≡ if_named named n
counts n p q = rw (← q) p

-- "at" and "@" are one class
at_twice : (t : Bool) → if_named t 18 ≡ if_named t 2 + if_named t 16
at_twice true = refl
at_twice false = refl

-- what is summed; whether a word could stand is told by an atom
pub sum_is : (s : State) {a b c d e f g h : ℕ} → a ≡ if_named (takes level_limit s Atom) 1 → b ≡ if_named (takes level_limit s At) 18 → c ≡ if_named (takes level_limit s LessThan) 4 → d ≡ if_named (takes level_limit s GreaterThan) 8
    → e ≡ if_named (takes level_limit s Comma) 32 → f ≡ if_named (takes level_limit s Semicolon) 64 → g ≡ if_named (takes level_limit s Colon) 128 → h ≡ if_named (is_some (finish s)) 256
    → a + b + c + d + e + f + g + h ≡ sum_of (named_at level_limit s)
sum_is s a b c d e f g h =
    let w = a ∙ ap (λ t. if_named t 1) (word_by_atom level_limit s) in
    let z = b ∙ at_twice (takes level_limit s At) in
    omega (arith, w, z)

-- where the reader stands
abbrev pub stands_at : {text lent table : List ℕ} {stack : Stack} {s : State} {e : Engine} → Stands text lent s e stack table → SomeStands stack e
stands_at {text} {lent} {table} {s = s} x = record { text = text; lent = lent; table = table; state = s; stands = x }
