-- A thing is named exactly if some list of at most `limit` levels goes on, or ends, with it at the refused place. Assumes nothing.
use Prim.Native.Nat.{ℕ, ◌≤◌}
use native.Mathlib.Omega.{arith}
use mathlib.Core.Path.{◌≡◌, refl, sym, ap, ◌∙◌}
use mathlib.Core.Bool.{Bool, true, false, true≢false}
use mathlib.Core.List.{List, ◌++◌, append-nil, append_cancel_right}
use mathlib.Core.Option.{Option, none, some}
use Rattle.octets.specs.Believed.Choice.{either}
use Rattle.grammar.specs.Believed.Grammar.{levels}
use Rattle.grammar.specs.Believed.Language.{AtMost, up_to, Refusal, unfit, unfinished, too_deep, Verdict, accepted, refused}
use Rattle.grammar.specs.Believed.Rfc733.{Derivation, DerivedList, RightWithin}
use Rattle.grammar.specs.Executable.Trees733.{Class, Atom, Quoted, At, LessThan, GreaterThan, Comma, Semicolon, Colon, Sym, of, AddressList, as_forest}
use Rattle.grammar.proofs.Rfc733.Trees.{list_levels, DerivedTree}
use Rattle.grammar.specs.Executable.Machines.{Step, go, stop, stands_by}
use Rattle.grammar.proofs.Any.Machine as any-machine
use Rattle.grammar.specs.Executable.Machine733.{State, step, run, read, judge, finish, start, as_forests}
use Rattle.grammar.proofs.Rfc733.Steps.{machine}
use Rattle.grammar.proofs.Rfc733.Derivations.{forest_levels, forest_derived, tree_derived}
use Rattle.grammar.proofs.Rfc733.Condition3.{answer_only, goes_on_forest, goes_on_tree}
use Rattle.expected.specs.Believed.Things.{Thing, word, at, at_sign, less_than, greater_than, comma, semicolon, colon, body_end, IsOf, GoesOnWith, Could, goes_on, ends, ExactlyWhereRefused, ExactlyAtTheEnd, Alike, same_class, both_words, AlikeGoOn}
use Rattle.expected.specs.Believed.Things as things
use Rattle.expected.specs.Executable.Named.{NamesExactly, goes, is_some, anywhere, takes, named_at, named}
use Rattle.expected.proofs.ClassAlone.{word_same, step_any}

-- ---- a symbol that a state takes is one with which a list goes on

-- these symbols lead the machine to a state
abbrev Leads : ℕ → List Sym → State → Type 0
Leads n before s = any-machine.Leads DerivedTree list_levels step finish start n start before s

module _ (n : ℕ) (before : List Sym) (s : State) (f : Leads n before s) where
  taken : (st : Step State) (x : Sym) → step n s x ≡ st → goes st ≡ true → GoesOnWith n before x
  taken (go s') x e g = goes_on_forest (AtMost n) (up_to before x) (any-machine.taken_goes_on DerivedTree list_levels step finish start machine n before s s' x f e)
  taken (stop why) x e g = absurd (true≢false (sym g))

  stopped : (st : Step State) (x : Sym) → step n s x ≡ st → GoesOnWith n before x → goes st ≡ true
  stopped (go s') x e g = refl
  stopped (stop why) x e g = absurd (any-machine.stopped_goes_off DerivedTree list_levels step finish start machine n before s x why f e (goes_on_tree (AtMost n) (up_to before x) g))

  -- .. whatever its place and meaning
  takes_goes_on : (x : Sym) → takes n s x.class ≡ true → GoesOnWith n before x
  takes_goes_on x g = taken (step n s x) x refl (step_any n s x.class x.lexeme anywhere ∙ g)

  goes_on_takes : (x : Sym) → GoesOnWith n before x → takes n s x.class ≡ true
  goes_on_takes x g = step_any n s x.class anywhere x.lexeme ∙ stopped (step n s x) x refl g

  -- ---- what is named could stand there

  class_could : (c : Class) (thing : Thing) → IsOf thing c → takes n s c ≡ true → Could n before thing
  class_could c thing i g = goes_on (of c anywhere) i (takes_goes_on (of c anywhere) g)

  word_could : (a b : Bool) → takes n s Atom ≡ a → takes n s Quoted ≡ b → either a b ≡ true → Could n before word
  word_could true b e g h = class_could Atom word things.an_atom e
  word_could false true e g h = class_could Quoted word things.a_quoted g
  word_could false false e g h = absurd (true≢false (sym h))

  end_could : (o : Option AddressList) → finish s ≡ o → is_some o ≡ true → Could n before body_end
  end_could none e g = absurd (true≢false (sym g))
  end_could (some l) e g =
      let d = any-machine.ended_derives DerivedTree list_levels step finish start machine n before s l f e in
      ends (forest_derived d.0) (omega (arith, forest_levels l, d.1))

  named_could : (thing : Thing) → named_at n s thing ≡ true → Could n before thing
  named_could word g = word_could (takes n s Atom) (takes n s Quoted) refl refl g
  named_could at g = class_could At at things.an_at g
  named_could at_sign g = class_could At at_sign things.an_at_sign g
  named_could less_than g = class_could LessThan less_than things.a_less_than g
  named_could greater_than g = class_could GreaterThan greater_than things.a_greater_than g
  named_could comma g = class_could Comma comma things.a_comma g
  named_could semicolon g = class_could Semicolon semicolon things.a_semicolon g
  named_could colon g = class_could Colon colon things.a_colon g
  named_could body_end g = end_could (finish s) refl g

  -- ---- what could stand there is named

  either_left : (a b : Bool) → a ≡ true → either a b ≡ true
  either_left true b e = refl
  either_left false b e = absurd (true≢false (sym e))

  either_right : (a b : Bool) → b ≡ true → either a b ≡ true
  either_right true b e = refl
  either_right false b e = e

  is_named : {thing : Thing} {c : Class} → IsOf thing c → takes n s c ≡ true → named_at n s thing ≡ true
  is_named things.an_atom g = either_left (takes n s Atom) (takes n s Quoted) g
  is_named things.a_quoted g = either_right (takes n s Atom) (takes n s Quoted) g
  is_named things.an_at g = g
  is_named things.an_at_sign g = g
  is_named things.a_less_than g = g
  is_named things.a_greater_than g = g
  is_named things.a_comma g = g
  is_named things.a_semicolon g = g
  is_named things.a_colon g = g

  end_named : (o : Option AddressList) (k : Derivation) → finish s ≡ o → DerivedList k before → levels k ≤ n → is_some o ≡ true
  end_named (some l) k e d v = refl
  end_named none k e d v =
      let (l, q, d') = tree_derived d in
      let w : levels (as_forest l) ≤ n = rw q at v in
      absurd (any-machine.unended_derives DerivedTree list_levels step finish start machine n before s l f e d' (omega (arith, forest_levels l)))

  could_named : (thing : Thing) → Could n before thing → named_at n s thing ≡ true
  could_named thing (goes_on x i g) = is_named i (goes_on_takes x g)
  could_named body_end (ends {k = k} d v) = end_named (finish s) k refl d v

  -- ---- alike symbols

  word_takes : {c d : Class} → IsOf word c → IsOf word d → takes n s c ≡ takes n s d
  word_takes things.an_atom things.an_atom = refl
  word_takes things.an_atom things.a_quoted = word_same n s
  word_takes things.a_quoted things.an_atom = sym (word_same n s)
  word_takes things.a_quoted things.a_quoted = refl

  alike_takes : (x y : Sym) → Alike x y → takes n s x.class ≡ takes n s y.class
  alike_takes x y (same_class e) = ap (takes n s) e
  alike_takes x y (both_words i j) = word_takes i j

  alike_on : (x y : Sym) → Alike x y → GoesOnWith n before x → GoesOnWith n before y
  alike_on x y a g = takes_goes_on y (sym (alike_takes x y a) ∙ goes_on_takes x g)

-- ---- at the place of a refusal

forests_refused : (v : Verdict Class AddressList) (why : Refusal) (rest : List Sym) → as_forests v ≡ refused why rest → v ≡ refused why rest
forests_refused (accepted l) why rest e = let z : ◌≡◌ {A = ℕ} 0 1 = cc in absurd (omega arith)
forests_refused (refused w r) why rest e = cc

-- what stands before the place
pub before_refused : (limit : ℕ) (xs rest : List Sym) (why : Refusal) → RightWithin limit xs (refused why rest) → (before : List Sym) × (xs ≡ before ++ rest)
before_refused limit xs rest unfit r = (r.0.before, r.0.splits)
before_refused limit xs rest unfinished r = (xs, sym (append-nil xs) ∙ ap (λ l. xs ++ l) (sym r.0))
before_refused limit xs rest too_deep r = (r.0.before, r.0.splits)

pub names_right : (limit : ℕ) (xs : List Sym) → ExactlyWhereRefused limit xs (named limit xs)
names_right limit xs why before rest r splits =
    let e : judge (run limit start xs) ≡ refused why rest = forests_refused (read limit xs) why rest (sym (answer_only limit xs (refused why rest) r)) in
    let a = any-machine.stood DerivedTree list_levels step finish start machine limit start xs rest why e in
    let q : a.before ≡ before = append_cancel_right a.before before rest (sym a.splits ∙ splits) in
    let s = stands_by step limit start xs in
    rw (← q) (record { only = named_could limit a.before s a.leads; all = could_named limit a.before s a.leads })

-- ---- at the end of a list

pub names_at_end : (limit : ℕ) (xs : List Sym) → ExactlyAtTheEnd limit xs (named limit xs)
names_at_end limit xs k d v =
    let (l, q, t) = tree_derived d in
    let w : levels (as_forest l) ≤ limit = rw q at v in
    let f = any-machine.stood_at_end DerivedTree list_levels step finish start machine limit l xs t (omega (arith, forest_levels l)) in
    let s = stands_by step limit start xs in
    record { only = named_could limit xs s f; all = could_named limit xs s f }

pub names_exactly : NamesExactly
names_exactly = record { where_refused = names_right; at_the_end = names_at_end }

-- ---- an atom and a quoted-string, "at" and "@"

pub alike_go_on : AlikeGoOn
alike_go_on limit before x y a g =
    let (s, f) = any-machine.led DerivedTree list_levels step finish start machine limit before x (goes_on_tree (AtMost limit) (up_to before x) g) in
    alike_on limit before s f x y a g
