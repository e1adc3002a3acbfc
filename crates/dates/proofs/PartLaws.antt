-- The laws of parts: longest runs, and the first part from a spot on. Assumes nothing.
use mathlib.Core.Path.{◌≡◌, refl, sym, ap, ◌∙◌}
use mathlib.Core.Bool.{Bool, true, false, cond}
use mathlib.Core.Logic.{◌⊎◌, inl, inr}
use mathlib.Core.List.{List, [], ◌∷◌, ◌++◌}
use Prim.Native.Nat.{ℕ, suc, ◌+◌, ◌-◌, ◌≤◌, ◌<◌}
use native.Mathlib.Omega.{arith}
use lib.Dec.{eqb}
use lib.ListN.{length, take, drop, get_or}
use borrow.Author.Tests.{eq-eqb, ne_eqb, eqb-true}
use Rattle.std.specs.List.{prefix_len}
use denote.Enum.Bare.{sameb}
use Rattle.dates.specs.contracts.parts.Key.{the_type as key_type}
use Rattle.octets.specs.Believed.Choice.{pick, both}
use Rattle.octets.specs.Believed.Text.{part}
use Rattle.octets.proofs.ChoiceLaws.{both_false}
use Rattle.octets.proofs.Parts.{part_cons, part_none, part_length, part-drop, part-take}
use Rattle.scanner.specs.Believed.Scanning.{Scanned, ended, fault_at, scan_by}
use Rattle.scanner.specs.declared.Class.{Class}
use Rattle.scanner.specs.declared.Class.TheVariants as kind
use Rattle.scanner.specs.Ties.Meanings.{meaning_at}
use Rattle.scanner.proofs.Unfolding.{SymbolAt}
use Rattle.dates.specs.Believed.Parts.{Part, other_part, no_part, is_mark, is_run, key_of, before, runs, parts_of, parts}
use Rattle.dates.specs.Executable.Form.{first_key, first_bytes, after, done}
use Rattle.dates.specs.declared.parts.Key.{Key}
use Rattle.dates.specs.declared.parts.Key.TheVariants.{Digits, Letters, Comma, Colon, Plus, Minus, Other, End}
use Rattle.dates.specs.declared.parts.Token.{Token}
use Rattle.dates.specs.Ties.Steps.{key_number, Within, left, span, RunEnds, token_at, TokenIs, held}

-- ---- keys

-- a byte has a part
pub some_part : (classes : List ℕ) (b : ℕ) → key_of classes b ≡ no_part → ⊥
unfolding key_of is_run is_mark
some_part classes b e = go (get_or classes b 0) (is_run (get_or classes b 0)) refl (is_mark b) refl e
  where
    go : (k : ℕ) (t : Bool) → is_run k ≡ t → (u : Bool) → is_mark b ≡ u → pick t k (pick u b other_part) ≡ no_part → ⊥
    go k true p u q e = let z : ◌≡◌ {A = Bool} true false = sym p ∙ ap is_run e in let o : ◌≡◌ {A = ℕ} 0 1 = cc in omega arith
    go k false p true q e = let z : ◌≡◌ {A = Bool} true false = sym q ∙ ap is_mark e in let o : ◌≡◌ {A = ℕ} 0 1 = cc in omega arith
    go k false p false q e = omega arith

-- other keys form no runs
pub no_run : (key : Key) → (key ≡ Digits → ⊥) → (key ≡ Letters → ⊥) → false ≡ is_run (key_number key)
unfolding is_run
no_run Digits n m = absurd (n refl)
no_run Letters n m = absurd (m refl)
no_run Comma n m = refl
no_run Colon n m = refl
no_run Plus n m = refl
no_run Minus n m = refl
no_run Other n m = refl
no_run End n m = refl

-- ---- bytes of one key

module _ (classes : List ℕ) (key : ℕ) where
  pub same_span : (l : List ℕ) → prefix_len (λ b. eqb (key_of classes b) key) l ≡ span classes key l
  unfolding span
  same_span [] = refl
  same_span (b ∷ l) = go (eqb (key_of classes b) key) (same_span l)
    where
      go : (t : Bool) → prefix_len (λ b. eqb (key_of classes b) key) l ≡ span classes key l → cond t (1 + prefix_len (λ b. eqb (key_of classes b) key) l) 0 ≡ pick t (suc (span classes key l)) 0
      go true e = omega arith
      go false e = refl

  span_fits : (l : List ℕ) → span classes key l ≤ length l
  unfolding span
  span_fits [] = omega arith
  span_fits (b ∷ l) = go (eqb (key_of classes b) key) (span_fits l)
    where
      go : (t : Bool) → span classes key l ≤ length l → pick t (suc (span classes key l)) 0 ≤ suc (length l)
      go true e = omega arith
      go false e = omega arith

pub ends : (classes text : List ℕ) (at end key : ℕ) {n : ℕ} → Within text at end → n ≡ span classes key (part text at end) → RunEnds classes text at end key (at + n)
ends classes text at end key w e =
    let l : length (part text at end) ≡ end - at = part_length text at end (omega (arith, w.inside)) in
    record { is = rw e; from = omega arith; within = omega (arith, w.order, e, l, span_fits classes key (part text at end)) }

-- ---- a run and what follows it

module _ (classes : List ℕ) where
  -- a byte before another key is a part by itself
  apart : (key b j x : ℕ) (r : List Part) → eqb j key ≡ false → before key b (before j x r) ≡ record { key = key; bytes = b ∷ [] } ∷ before j x r
  apart key b j x [] e = rw (e, both_false (is_run key))
  apart key b j x (p ∷ r) e = go (both (is_run j) (eqb p.key j))
    where
      go : (t : Bool) → before key b (pick t (record { key = j; bytes = x ∷ p.bytes } ∷ r) (record { key = j; bytes = x ∷ [] } ∷ p ∷ r))
          ≡ record { key = key; bytes = b ∷ [] } ∷ pick t (record { key = j; bytes = x ∷ p.bytes } ∷ r) (record { key = j; bytes = x ∷ [] } ∷ p ∷ r)
      go true = rw (e, both_false (is_run key))
      go false = rw (e, both_false (is_run key))

  -- and so is one that forms no runs
  alone : (key b : ℕ) (r : List Part) → is_run key ≡ false → before key b r ≡ record { key = key; bytes = b ∷ [] } ∷ r
  alone key b [] e = refl
  alone key b (p ∷ r) e = rw e

  runs_run : (key b : ℕ) (l : List ℕ) → key_of classes b ≡ key → is_run key ≡ true
      → runs classes (b ∷ l) ≡ record { key = key; bytes = b ∷ take (span classes key l) l } ∷ runs classes (drop (span classes key l) l)
  unfolding runs span
  runs_run key b [] k e = rw k
  runs_run key b (x ∷ l) k e = rw k (go (eqb (key_of classes x) key) refl (λ f. runs_run key x l (eqb-true _ _ f) e))
    where
      go : (t : Bool) → eqb (key_of classes x) key ≡ t
          → (eqb (key_of classes x) key ≡ true → runs classes (x ∷ l) ≡ record { key = key; bytes = x ∷ take (span classes key l) l } ∷ runs classes (drop (span classes key l) l))
          → before key b (runs classes (x ∷ l)) ≡ record { key = key; bytes = b ∷ take (pick t (suc (span classes key l)) 0) (x ∷ l) } ∷ runs classes (drop (pick t (suc (span classes key l)) 0) (x ∷ l))
      go true f g = ap (λ (r : List Part). before key b r) (g f) ∙ rw (e, eq-eqb key key refl)
      go false f g = apart key b (key_of classes x) x (runs classes l) f

-- ---- the first part of the rest of a symbol

module _ (classes text : List ℕ) (at end : ℕ) (key : Key) (h : at < end) (w : end ≤ length text) (k : key_of classes (get_or text at 0) ≡ key_number key) where
  -- a first part that ends at `stop`
  abbrev First : ℕ → Type 0
  First stop = left classes text at end ≡ record { key = key_number key; bytes = part text at stop } ∷ left classes text stop end

  token : (stop : ℕ) → First stop → at ≤ stop → stop ≤ end → TokenIs classes text (left classes text at end) (record { key = key; start = at; stop = stop; end = end })
  unfolding first_key first_bytes after
  token stop e a b =
      record {
        key_is = rw e;
        bytes_are = rw e;
        rest_is = rw e;
        last = λ z. absurd (some_part classes (get_or text at 0) (k ∙ z));
        order = a;
        spot = record { order = b; inside = w };
      }

  whole : (n : ℕ) → at + 1 + n ≤ end → get_or text at 0 ∷ take n (part text (at + 1) end) ≡ part text at (at + 1 + n)
  whole n l =
      ap (λ (r : List ℕ). get_or text at 0 ∷ r) (part-take text (at + 1) end n l) ∙ sym (part_cons text at (at + 1 + n) (omega arith) (omega arith))

  pub first_run : (stop : ℕ) → is_run (key_number key) ≡ true → RunEnds classes text (at + 1) end (key_number key) stop
      → TokenIs classes text (left classes text at end) (record { key = key; start = at; stop = stop; end = end })
  unfolding left
  first_run stop r s =
      let n = span classes (key_number key) (part text (at + 1) end) in
      let l : at + 1 + n ≤ end = omega (arith, s.is, s.within) in
      token stop
      (rw
      (part_cons text at end h w, runs_run classes (key_number key) (get_or text at 0) (part text (at + 1) end) k r, whole n l, part-drop text (at + 1) end n, s.is))
      (omega (arith, s.from)) s.within

  pub first_single : is_run (key_number key) ≡ false → TokenIs classes text (left classes text at end) (record { key = key; start = at; stop = at + 1; end = end })
  unfolding left runs
  first_single r =
      let one : part text at (at + 1) ≡ get_or text at 0 ∷ [] = part_cons text at (at + 1) (omega arith) (omega arith) ∙ rw (part_none text (at + 1) (at + 1) (omega arith)) in
      token (at + 1) (rw (part_cons text at end h w, k, alone classes (key_number key) (get_or text at 0) (runs classes (part text (at + 1) end)) r, one)) (omega arith) (omega arith)

-- ---- the first part after a symbol

pub left_here : (classes text : List ℕ) (at end : ℕ) → end ≤ at → left classes text at end ≡ parts classes (scan_by classes text end)
unfolding left runs
left_here classes text at end h = rw (part_none text at end h)

-- the parts of a symbol are those of its bytes; but a quoted-string or a literal is one part
module _ (classes text : List ℕ) (start end : ℕ) where
  one_part : (class : Class) → (class ≡ kind.Quoted) ⊎ (class ≡ kind.Literal) → parts_of classes class (meaning_at classes text class start end) ≡ record { key = other_part; bytes = [] } ∷ []
  one_part class o = elim o [ inl e ↦ rw e | inr e ↦ rw e ]

  own_parts : (class : Class) → (class ≡ kind.Quoted → ⊥) → (class ≡ kind.Literal → ⊥) → parts_of classes class (meaning_at classes text class start end) ≡ runs classes (part text start end)
  own_parts kind.Atom n m = refl
  own_parts kind.Quoted n m = absurd (n refl)
  own_parts kind.At n m = refl
  own_parts kind.LessThan n m = refl
  own_parts kind.GreaterThan n m = refl
  own_parts kind.Comma n m = refl
  own_parts kind.Semicolon n m = refl
  own_parts kind.Colon n m = refl
  own_parts kind.Stray n m = refl
  own_parts kind.Dot n m = refl
  own_parts kind.Literal n m = absurd (m refl)

module _ (classes text : List ℕ) (at end : ℕ) (h : end ≤ at) where
  no_part_lem : end ≤ length text → parts classes (scan_by classes text end) ≡ [] → TokenIs classes text (left classes text at end) (token_at End end)
  unfolding first_key first_bytes after
  no_part_lem w e =
      let l : left classes text at end ≡ [] = left_here classes text at end h ∙ e in
      let r : left classes text end end ≡ [] = left_here classes text end end (omega arith) ∙ e in
      record {
        key_is = rw l;
        bytes_are = rw (l, part_none text end end (omega arith));
        rest_is = rw (l, r);
        last = λ z. l;
        order = omega arith;
        spot = record { order = omega arith; inside = w };
      }

  pub part_ended : end ≤ length text → scan_by classes text end ≡ ended → TokenIs classes text (left classes text at end) (token_at End end)
  unfolding parts
  part_ended w e = no_part_lem w (ap (λ (x : Scanned). parts classes x) e)

  pub part_fault : {number p : ℕ} → end ≤ length text → scan_by classes text end ≡ fault_at number p → TokenIs classes text (left classes text at end) (token_at End end)
  unfolding parts
  part_fault w e = no_part_lem w (ap (λ (x : Scanned). parts classes x) e)

  pub part_quoted : {class : Class} {start stop : ℕ} → SymbolAt classes text end class start stop → (class ≡ kind.Quoted) ⊎ (class ≡ kind.Literal)
      → TokenIs classes text (left classes text at end) (token_at Other stop)
  unfolding first_key first_bytes after parts
  part_quoted {class} {start} {stop} x o =
      let l : left classes text at end ≡ record { key = other_part; bytes = [] } ∷ left classes text stop stop =
      left_here classes text at end h ∙ ap (λ (s : Scanned). parts classes s) x.same
      ∙ ap (λ (r : List Part). r ++ parts classes (scan_by classes text stop)) (one_part classes text start stop class o)
      ∙ ap (λ (r : List Part). record { key = other_part; bytes = [] } ∷ r) (sym (left_here classes text stop stop (omega arith))) in
      record {
        key_is = rw l;
        bytes_are = rw (l, part_none text stop stop (omega arith));
        rest_is = rw l;
        last = λ z. absurd (omega arith);
        order = omega arith;
        spot = record { order = omega arith; inside = x.within };
      }

  pub part_unquoted : {class : Class} {start stop : ℕ} → SymbolAt classes text end class start stop → (class ≡ kind.Quoted → ⊥) → (class ≡ kind.Literal → ⊥)
      → left classes text at end ≡ left classes text start stop
  unfolding left parts
  part_unquoted {class} {start} {stop} x n m =
      left_here classes text at end h ∙ ap (λ (s : Scanned). parts classes s) x.same
      ∙ ap (λ (r : List Part). r ++ parts classes (scan_by classes text stop)) (own_parts classes text start stop class n m)

-- ---- the part ahead

-- a part tells which parts are ahead
pub held_is : {classes text : List ℕ} {l : List Part} {t : Token} → TokenIs classes text l t → held classes text t ≡ l
unfolding held first_key first_bytes after
held_is {l = []} {t = t} x = rw (eq-eqb (key_number t.key) no_part (sym x.key_is))
held_is {l = p ∷ r} {t = t} x =
    rw (ne_eqb (key_number t.key) no_part (λ e. let z : ◌≡◌ {A = ℕ} 0 1 = cc (x.last e) in omega arith), ← x.key_is, ← x.bytes_are, ← x.rest_is)

-- and is the part ahead of them
pub holds : {classes text : List ℕ} {l : List Part} {t : Token} → TokenIs classes text l t → TokenIs classes text (held classes text t) t
holds x = rw (held_is x) x

-- no part is left where the key says so
pub ended_is : (key : Key) (p : Part) (r : List Part) → sameb key_type key End ≡ done (pick (eqb (key_number key) no_part) [] (p ∷ r))
unfolding done
ended_is Digits p r = refl
ended_is Letters p r = refl
ended_is Comma p r = refl
ended_is Colon p r = refl
ended_is Plus p r = refl
ended_is Minus p r = refl
ended_is Other p r = refl
ended_is End p r = refl
