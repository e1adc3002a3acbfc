-- The last number that passes a test is found from the last one down. Assumes nothing.
use mathlib.Core.Path.{◌≡◌, refl, sym, ap, subst, ◌∙◌}
use mathlib.Core.Bool.{Bool, true, false}
use Prim.Native.Nat.{ℕ, ◌+◌, ◌-◌, ◌≤◌, ◌<◌}
use native.Mathlib.Omega.{arith}
use denote.Ref.{Bor}
use denote.Param.Members.{Mut}
use Rattle.std.specs.Prelude.{Option, Some, None, MatchOption, IfSome, IsSomeAnd, IsTrue}
use Rattle.std.specs.Option.{option_map}
use Rattle.std.specs.Fn.{CalledAt}
use Rattle.std.specs.Iterator.Runs.{Run, SomeRun, EachRunFrom, CallKeepsClosure, NoItemPasses, EndsAtFirstPassing, IsIdenticalRun, ItemsCountDown}
use Rattle.std.proofs.iter.runs.Sources.{nat_range_steps_back, range_runs_back}
use Rattle.touch.specs.Ties.Climbing.{NonePass, LastToPass}
use Rattle.std.specs.declared.ops.Range.{Range}

same : (o : Option ℕ) (x : ℕ) → option_map (λ y. y) o ≡ Some x → o ≡ Some x
same None x e = e
same (Some y) x e = e

keeps : {F : Type 0} {g : Mut F (Bor ℕ × Unit {0}) Bool} (test : ℕ → Bool) (f : F)
    → ((x : ℕ) (b : Bool) (q : F) → CalledAt g f x b q → (q ≡ f) × (b ≡ test x)) → CallKeepsClosure g f
keeps test f answers a r q k = (answers a.0.now r q (record { shown = a.0; shows = refl; called = k })).0

module _ {S F : Type 0} {g : Mut F (Bor ℕ × Unit {0}) Bool} {steps : S → Option ℕ → S → Type 0} (test : ℕ → Bool) (f : F)
    (answers : (x : ℕ) (b : Bool) (q : F) → CalledAt g f x b q → (q ≡ f) × (b ≡ test x)) (many : ℕ) (p : Run steps) (q : Run nat_range_steps_back) (d : ItemsCountDown q 0 many) (s : IsIdenticalRun p q) where
  -- the number at a place of the run
  item : (i : ℕ) → i < many → many ≤ i + p.len → p.at (many - 1 - i) ≡ Some i
  item i h l =
      let e : many - 1 - (many - 1 - i) ≡ i = omega arith in
      sym (s.0.2 (many - 1 - i)) ∙ same (q.at (many - 1 - i)) i (d.3 (many - 1 - i) (omega (arith, s.0.0)) ∙ ap Some e)

  found : (r : Option ℕ) → MatchOption r (IsTrue p.whole × NoItemPasses p g f) (EndsAtFirstPassing p g f) → MatchOption r (NonePass test 0 many) (LastToPass test many)
  found None m = λ i from h.
      let l : q.len ≡ many - 0 = d.1 (s.1 ∙ m.0) in
      let c = subst (λ o. IfSome o (λ x. CalledAt g f x false f)) (item i h (omega (arith, s.0.0, l))) (m.1 (keeps test f answers) (many - 1 - i)) in
      sym (answers i false f c).1
  found (Some n) m =
      let (i, len, at, calls) = m in
      let (hit, misses) = calls (keeps test f answers) in
      let k : n + i + 1 ≡ many = (subst (λ o. IfSome o (λ x. (x + i + 1 ≡ many) × (0 ≤ x))) (s.0.2 i ∙ at) (d.2 i)).0 in (
        omega arith,
        sym (answers n true f hit).1,
        λ j from h.
            let c = subst (λ o. IsSomeAnd o (λ x. CalledAt g f x false f)) (item j h (omega arith)) (misses (many - 1 - j) (omega arith)) in
            sym (answers j false f c).1,
      )

module _ {S F : Type 0} {g : Mut F (Bor ℕ × Unit {0}) Bool} {steps : S → Option ℕ → S → Type 0} {s : S} (test : ℕ → Bool) (f : F) where
  pub last_found : ((x : ℕ) (b : Bool) (q : F) → CalledAt g f x b q → (q ≡ f) × (b ≡ test x)) → (many : ℕ) (r : Option ℕ)
      → SomeRun steps s (λ u. MatchOption r (IsTrue u.whole × NoItemPasses u g f) (EndsAtFirstPassing u g f))
      → EachRunFrom steps s (λ p. SomeRun nat_range_steps_back (record { start = 0; end = many }) (λ q. IsIdenticalRun p q))
      → MatchOption r (NonePass test 0 many) (LastToPass test many)
  last_found answers many r (p, e, m) each =
      let (q, from, same_run) = each p p.seen e in
      let d : ItemsCountDown q 0 many = subst (λ (x : Range ℕ). ItemsCountDown q x.start x.end) from (range_runs_back q q.seen) in
      found test f answers many p q d same_run r m
