-- A machine that takes one symbol at a step. Its verdict is right, if it reads just what is derived,
-- every state can be brought to an end, and more levels change nothing but the refusal of a level. Assumes nothing.
use Prim.Native.Nat.{ℕ, max, ◌≤◌}
use native.Mathlib.Omega.{arith}
use native.Mathlib.Decide.{dec_le}
use mathlib.Core.Path.{◌≡◌, refl, sym, ap, ◌∙◌}
use mathlib.Core.List.{List, [], ◌∷◌, ◌++◌, append_assoc, append-nil}
use mathlib.Core.Option.{Option, none, some}
use Rattle.scanner.specs.Believed.Symbols.{Symbol}
use Rattle.grammar.specs.Believed.Language.{AtMost, MoreThan, up_to, GoesOn, FirstRefused, Refusal, unfit, unfinished, too_deep, Verdict, accepted, refused, Right}
use Rattle.grammar.proofs.Any.OnlyRight.{goes_on_at, refused_whole}
use Rattle.grammar.specs.Executable.Machines.{Step, Result, after, run_by, at_end, verdict_by, stands_after, stands_by, go, stop, ended, stopped}

-- more levels change nothing but the refusal of a level
abbrev pub Steady : {S : Type 0} → ℕ → (ℕ → Step S) → Step S → Type 0
Steady n f (go s) = (m : ℕ) → n ≤ m → f m ≡ go s
Steady n f (stop unfit) = (m : ℕ) → f m ≡ stop unfit
Steady n f (stop unfinished) = ⊥
Steady {S = S} n f (stop too_deep) = (m : ℕ) × (n ≤ m) × (s : S) × (f m ≡ go s)

module _ {C S T : Type 0} (Derives : T → List (Symbol C) → Type 0) (levels : T → ℕ) (step : ℕ → S → Symbol C → Step S) (finish : S → Option T) (start : S) where
  abbrev pub run : ℕ → S → List (Symbol C) → Result C S
  run n s xs = run_by step n s xs

  abbrev read : ℕ → List (Symbol C) → Verdict C T
  read n xs = verdict_by finish (run n start xs)

  -- what a machine has to show
  pub record Machine : Type 0 where
    pub complete : (n : ℕ) (t : T) (xs : List (Symbol C)) → Derives t xs → levels t ≤ n → read n xs ≡ accepted t
    pub sound : (n : ℕ) (t : T) (xs : List (Symbol C)) → read n xs ≡ accepted t → Derives t xs × (levels t ≤ n)
    pub ending : (n : ℕ) (s : S) → (ws : List (Symbol C)) × (t : T) × (verdict_by finish (run n s ws) ≡ accepted t)
    pub steady : (n : ℕ) (s : S) (x : Symbol C) → Steady n (λ m. step m s x) (step n s x)

  -- with at least `n` levels these symbols lead from one state to another
  abbrev pub Leads : ℕ → S → List (Symbol C) → S → Type 0
  Leads n s p s' = (m : ℕ) → n ≤ m → (zs : List (Symbol C)) → run m s (p ++ zs) ≡ run m s' zs

  record Stuck (n : ℕ) (s : S) (xs : List (Symbol C)) (why : Refusal) (rest : List (Symbol C)) : Type 0 where
    before : List (Symbol C)
    x : Symbol C
    after : List (Symbol C)
    at : S
    place : rest ≡ x ∷ after
    splits : xs ≡ before ++ rest
    leads : Leads n s before at
    steady : Steady n (λ m. step m at x) (stop why)
    stops : step n at x ≡ stop why

  abbrev Comes : ℕ → S → List (Symbol C) → Result C S → Type 0
  Comes n s xs (ended s') = Leads n s xs s'
  Comes n s xs (stopped why rest) = Stuck n s xs why rest

  module _ (M : Machine) where
    comes_on : (n : ℕ) (s s' : S) (x : Symbol C) (xs : List (Symbol C)) (r : Result C S) → ((m : ℕ) → n ≤ m → step m s x ≡ go s') → Comes n s' xs r → Comes n s (x ∷ xs) r
    comes_on n s s' x xs (ended s'') e c = λ m h zs. rw (e m h) (c m h zs)
    comes_on n s s' x xs (stopped why rest) e c =
        record {
          before = x ∷ c.before;
          x = c.x;
          after = c.after;
          at = c.at;
          place = c.place;
          splits = ap (λ l. x ∷ l) c.splits;
          leads = λ m h zs. rw (e m h) (c.leads m h zs);
          steady = c.steady;
          stops = c.stops;
        }

    comes_step : (n : ℕ) (s : S) (x : Symbol C) (xs : List (Symbol C)) (st : Step S) (k : S → Result C S) → step n s x ≡ st → Steady n (λ m. step m s x) st
        → ((s' : S) → Comes n s' xs (k s')) → Comes n s (x ∷ xs) (after st k (x ∷ xs))
    comes_step n s x xs (go s') k q e f = comes_on n s s' x xs (k s') e (f s')
    comes_step n s x xs (stop why) k q e f =
        record { before = []; x = x; after = xs; at = s; place = refl; splits = refl; leads = λ m h zs. refl; steady = e; stops = q }

    comes : (n : ℕ) (s : S) (xs : List (Symbol C)) → Comes n s xs (run n s xs)
    comes n s [] = λ m h zs. refl
    comes n s (x ∷ xs) = comes_step n s x xs (step n s x) (λ s'. run n s' xs) refl (M.steady n s x) (λ s'. comes n s' xs)

    -- what leads to a state goes on
    goes_on : (m : ℕ) (p : List (Symbol C)) (s : S) → ((zs : List (Symbol C)) → run m start (p ++ zs) ≡ run m s zs) → GoesOn Derives levels (AtMost m) p
    goes_on m p s f =
        let (ws, t, e) = M.ending m s in
        let d = M.sound m t (p ++ ws) (ap (verdict_by finish) (f ws) ∙ e) in
        record { more = ws; derivation = t; derived = d.0; counted = d.1 }

    -- where a step stops nothing goes on
    goes_off : (n m : ℕ) (p : List (Symbol C)) (s : S) (x : Symbol C) (why : Refusal) → n ≤ m → Leads n start p s → step m s x ≡ stop why → GoesOn Derives levels (AtMost m) (up_to p x) → ⊥
    goes_off n m p s x why h f e g =
        let a : read m (up_to p x ++ g.more) ≡ accepted g.derivation = M.complete m g.derivation _ g.derived g.counted in
        let b : read m (up_to p x ++ g.more) ≡ refused why (x ∷ g.more) = rw (append_assoc p (x ∷ []) g.more, f m h (x ∷ g.more), e) in
        cc

    first_of : (n : ℕ) (xs : List (Symbol C)) (why : Refusal) (rest : List (Symbol C)) → Stuck n start xs why rest → FirstRefused Derives levels n xs rest
    first_of n xs why rest c =
        let on : GoesOn Derives levels (AtMost n) c.before = goes_on n c.before c.at (c.leads n (omega arith)) in
        record {
          before = c.before;
          x = c.x;
          after = c.after;
          place = c.place;
          splits = c.splits;
          earlier = λ p y q e. goes_on_at Derives levels (AtMost n) p y q c.before e on;
          here = goes_off n n c.before c.at c.x why (omega arith) c.leads c.stops;
        }

    leads_on : (m : ℕ) (p : List (Symbol C)) (s s' : S) (x : Symbol C) → ((zs : List (Symbol C)) → run m start (p ++ zs) ≡ run m s zs) → step m s x ≡ go s'
        → (zs : List (Symbol C)) → run m start (up_to p x ++ zs) ≡ run m s' zs
    leads_on m p s s' x f e zs = rw (append_assoc p (x ∷ []) zs, f (x ∷ zs), e)

    -- what goes on, and not within the levels, goes on with more
    deeper : (n m : ℕ) (p : List (Symbol C)) → (GoesOn Derives levels (AtMost n) p → ⊥) → GoesOn Derives levels (AtMost m) p → GoesOn Derives levels (MoreThan n) p
    deeper n m p off g = by (dec_le (levels g.derivation) n)
      where
        by : Dec (levels g.derivation ≤ n) → GoesOn Derives levels (MoreThan n) p
        by (yes h) = absurd (off record { more = g.more; derivation = g.derivation; derived = g.derived; counted = h })
        by (no h) = record { more = g.more; derivation = g.derivation; derived = g.derived; counted = omega arith }

    -- .. and what goes on with more levels goes on with as many as it has
    as_many : (n : ℕ) (p : List (Symbol C)) → GoesOn Derives levels (MoreThan n) p → (m : ℕ) × (n ≤ m) × GoesOn Derives levels (AtMost m) p
    as_many n p g =
        (levels g.derivation, omega (arith, g.counted), record { more = g.more; derivation = g.derivation; derived = g.derived; counted = omega arith })

    right_stuck : (n : ℕ) (xs : List (Symbol C)) (why : Refusal) (rest : List (Symbol C)) → Stuck n start xs why rest → Right Derives levels n xs (refused why rest)
    unfolding first_of
    right_stuck n xs unfit rest c = (first_of n xs unfit rest c, λ g. let (m, h, g') = as_many n _ g in goes_off n m c.before c.at c.x unfit h c.leads (c.steady m) g')
    right_stuck n xs unfinished rest c = absurd c.steady
    right_stuck n xs too_deep rest c =
        let (m, h, s, e) = c.steady in
        let f = first_of n xs too_deep rest c in
        (f, deeper n m _ f.here (goes_on m (up_to c.before c.x) s (leads_on m c.before c.at s c.x (c.leads m h) e)))

    right_end : (n : ℕ) (xs : List (Symbol C)) (s : S) (o : Option T) → Leads n start xs s → read n xs ≡ at_end o → Right Derives levels n xs (at_end o)
    right_end n xs s (some t) f r = M.sound n t xs r
    right_end n xs s none f r = (refl, λ place g. refused_whole Derives levels n g (goes_on n xs s (f n (omega arith))), none_is)
      where
        none_is : (t : T) → Derives t xs → levels t ≤ n → ⊥
        none_is t d l =
            let a : read n xs ≡ accepted t = M.complete n t xs d l in
            cc

    right_result : (n : ℕ) (xs : List (Symbol C)) (r : Result C S) → run n start xs ≡ r → Comes n start xs r → Right Derives levels n xs (verdict_by finish r)
    right_result n xs (ended s) e c = right_end n xs s (finish s) c (ap (verdict_by finish) e)
    right_result n xs (stopped why rest) e c = right_stuck n xs why rest c

    -- what the machine reads is right
    pub right : (n : ℕ) (xs : List (Symbol C)) → Right Derives levels n xs (read n xs)
    right n xs = right_result n xs (run n start xs) refl (comes n start xs)

    -- one derivation only
    pub unique : (t u : T) (xs : List (Symbol C)) → Derives t xs → Derives u xs → t ≡ u
    unique t u xs d e =
        let a : read (max (levels t) (levels u)) xs ≡ accepted t = M.complete (max (levels t) (levels u)) t xs d (omega arith) in
        let b : read (max (levels t) (levels u)) xs ≡ accepted u = M.complete (max (levels t) (levels u)) u xs e (omega arith) in
        cc

    -- ---- what could stand after symbols that the machine has taken

    -- a symbol that the machine takes goes on ..
    pub taken_goes_on : (n : ℕ) (p : List (Symbol C)) (s s' : S) (x : Symbol C) → Leads n start p s → step n s x ≡ go s' → GoesOn Derives levels (AtMost n) (up_to p x)
    taken_goes_on n p s s' x f e = goes_on n (up_to p x) s' (leads_on n p s s' x (f n (omega arith)) e)

    -- .. and one at which it stops does not
    pub stopped_goes_off : (n : ℕ) (p : List (Symbol C)) (s : S) (x : Symbol C) (why : Refusal) → Leads n start p s → step n s x ≡ stop why → GoesOn Derives levels (AtMost n) (up_to p x) → ⊥
    stopped_goes_off n p s x why f e = goes_off n n p s x why (omega arith) f e

    -- symbols with which a list goes on lead to a state
    led_by : (n : ℕ) (p : List (Symbol C)) (r : Result C S) → Comes n start p r → GoesOn Derives levels (AtMost n) p → (s : S) × Leads n start p s
    led_by n p (ended s) c g = (s, c)
    led_by n p (stopped why rest) c g = absurd (refused_whole Derives levels n (first_of n p why rest c) g)

    pub led : (n : ℕ) (p : List (Symbol C)) (x : Symbol C) → GoesOn Derives levels (AtMost n) (up_to p x) → (s : S) × Leads n start p s
    led n p x g =
        led_by n p (run n start p) (comes n start p)
        record { more = x ∷ g.more; derivation = g.derivation; derived = rw (append_assoc p (x ∷ []) g.more) at g.derived; counted = g.counted }

    -- the verdict on the symbols that lead to a state
    read_led : (n : ℕ) (p : List (Symbol C)) (s : S) → Leads n start p s → read n p ≡ at_end (finish s)
    read_led n p s f = ap (read n) (sym (append-nil p)) ∙ ap (verdict_by finish) (f n (omega arith) [])

    -- the end may stand there exactly if the state is the end of a derivation
    pub ended_derives : (n : ℕ) (p : List (Symbol C)) (s : S) (t : T) → Leads n start p s → finish s ≡ some t → Derives t p × (levels t ≤ n)
    ended_derives n p s t f e = M.sound n t p (read_led n p s f ∙ ap at_end e)

    pub unended_derives : (n : ℕ) (p : List (Symbol C)) (s : S) (t : T) → Leads n start p s → finish s ≡ none → Derives t p → levels t ≤ n → ⊥
    unended_derives n p s t f e d v =
        let a : read n p ≡ accepted t = M.complete n t p d v in
        let b : read n p ≡ refused unfinished [] = read_led n p s f ∙ ap at_end e in
        cc

    -- the state in which a run stops, or ends
    pub record Stood (n : ℕ) (s : S) (xs rest : List (Symbol C)) : Type 0 where
      pub before : List (Symbol C)
      pub splits : xs ≡ before ++ rest
      pub leads : Leads n s before (stands_by step n s xs)

    stood_step : (n : ℕ) (s : S) (x : Symbol C) (xs rest : List (Symbol C)) (why : Refusal) (st : Step S) → step n s x ≡ st → Steady n (λ m. step m s x) st
        → verdict_by finish (after st (λ s'. run n s' xs) (x ∷ xs)) ≡ refused why rest
        → ((s' : S) → verdict_by finish (run n s' xs) ≡ refused why rest → Stood n s' xs rest) → Stood n s (x ∷ xs) rest
    stood_step n s x xs rest why (go s') q e v f =
        let a = f s' v in
        record { before = x ∷ a.before; splits = ap (λ l. x ∷ l) a.splits; leads = λ m h zs. rw (e m h, q) (a.leads m h zs) }
    stood_step n s x xs rest why (stop w) q e v f = record { before = []; splits = cc; leads = λ m h zs. rw q refl }

    stood_end : (n : ℕ) (s : S) (why : Refusal) (rest : List (Symbol C)) (o : Option T) → at_end o ≡ refused why rest → Stood n s [] rest
    stood_end n s why rest none v = record { before = []; splits = cc; leads = λ m h zs. refl }
    stood_end n s why rest (some t) v = absurd cc

    -- a run that ends stands at the end
    ended_step : (n : ℕ) (s s'' : S) (x : Symbol C) (xs : List (Symbol C)) (st : Step S) → after st (λ s'. run n s' xs) (x ∷ xs) ≡ ended s'' → ((s' : S) → run n s' xs ≡ ended s'' → stands_by step n s' xs ≡ s'')
        → stands_after st (λ s'. stands_by step n s' xs) s ≡ s''
    ended_step n s s'' x xs (go s') e f = f s' e
    ended_step n s s'' x xs (stop why) e f = absurd cc

    ended_stands : (n : ℕ) (s s'' : S) (xs : List (Symbol C)) → run n s xs ≡ ended s'' → stands_by step n s xs ≡ s''
    ended_stands n s s'' [] e = cc
    ended_stands n s s'' (x ∷ xs) e = ended_step n s s'' x xs (step n s x) e (λ s'. ended_stands n s' s'' xs)

    -- .. to which all symbols of a list lead
    list_stood : (n : ℕ) (t : T) (xs : List (Symbol C)) (r : Result C S) → run n start xs ≡ r → Comes n start xs r → verdict_by finish r ≡ accepted t → Leads n start xs (stands_by step n start xs)
    list_stood n t xs (ended s) e c v = rw (ended_stands n start s xs e) c
    list_stood n t xs (stopped why rest) e c v = absurd cc

    pub stood_at_end : (n : ℕ) (t : T) (xs : List (Symbol C)) → Derives t xs → levels t ≤ n → Leads n start xs (stands_by step n start xs)
    stood_at_end n t xs d v = list_stood n t xs (run n start xs) refl (comes n start xs) (M.complete n t xs d v)

    -- a refused run stands before the refused place
    pub stood : (n : ℕ) (s : S) (xs rest : List (Symbol C)) (why : Refusal) → verdict_by finish (run n s xs) ≡ refused why rest → Stood n s xs rest
    stood n s [] rest why v = stood_end n s why rest (finish s) v
    stood n s (x ∷ xs) rest why v = stood_step n s x xs rest why (step n s x) refl (M.steady n s x) v (λ s'. stood n s' xs rest why)
