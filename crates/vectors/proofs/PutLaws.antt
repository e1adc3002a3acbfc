-- What is put so far and what is left to put. Assumes nothing.
use mathlib.Core.Path.{◌≡◌, refl, sym, ap, ◌∙◌}
use mathlib.Core.Bool.{Bool, true, false}
use mathlib.Core.List.{List, [], ◌∷◌, ◌++◌, append-nil, append_assoc}
use Prim.Native.Nat.{ℕ, ◌+◌, ◌≤◌, ◌<◌}
use native.Mathlib.Decide.{dec_lt}
use native.Mathlib.Numerals.{add-one}
use native.Mathlib.Omega.{arith}
use borrow.Author.Tests.{lt-ltb, le-ltb}
use lib.ListN.{length, take, set, length-set}
use lib.Seq.{set_out, take-suc-set, take_all, take-append-le, length-take-le}
use Rattle.octets.specs.Believed.Choice.{pick}
use Rattle.vectors.specs.Believed.Putting.{next, putting}
use Rattle.vectors.specs.Believed.Reading.{copied}
use Rattle.vectors.specs.Ties.Puts.{Puts}

pub puts_nothing : (out : List ℕ) (n : ℕ) → Puts (λ rest. rest) out n out n
puts_nothing out n = record { same = λ rest. refl }

-- the place after a byte
pub next_inside : (out : List ℕ) (n : ℕ) → n < length out → n + 1 ≡ next out n
next_inside out n h = rw (lt-ltb n (length out) h)

pub next_outside : (out : List ℕ) (n : ℕ) → length out ≤ n → n ≡ next out n
next_outside out n h = rw (le-ltb n (length out) h)

-- a byte
pub puts_byte : {out after : List ℕ} {n m b : ℕ} → m ≡ next out n → after ≡ set out n b → Puts (λ rest. b ∷ rest) out n after m
unfolding putting
puts_byte e f = record { same = λ rest. rw (e, f) }

-- the same text in other words
pub puts_as : {f g : List ℕ → List ℕ} {o p : List ℕ} {n m : ℕ} → ((rest : List ℕ) → f rest ≡ g rest) → Puts f o n p m → Puts g o n p m
puts_as {o = o} {n = n} e w = record { same = λ rest. ap (putting o n) (sym (e rest)) ∙ w.same rest }

-- one text after another
pub puts_both : {f g : List ℕ → List ℕ} {o p q : List ℕ} {n m k : ℕ} → Puts f o n p m → Puts g p m q k → Puts (λ rest. f (g rest)) o n q k
puts_both {f} {g} a b = record { same = λ rest. a.same (g rest) ∙ b.same rest }

-- ---- what is left to put: `g` now, of `f` at the start

pub record Left (o : List ℕ) (n : ℕ) (f : List ℕ → List ℕ) (o' : List ℕ) (n' : ℕ) (g : List ℕ → List ℕ) : Type 0 where
  pub same : (rest : List ℕ) → putting o n (f rest) ≡ putting o' n' (g rest)

pub left_all : (o : List ℕ) (n : ℕ) (f : List ℕ → List ℕ) → Left o n f o n f
left_all o n f = record { same = λ rest. refl }

module _ {o o' : List ℕ} {n n' : ℕ} {f g : List ℕ → List ℕ} (l : Left o n f o' n' g) where
  -- the same text in other words
  pub left_as : {h : List ℕ → List ℕ} → ((rest : List ℕ) → g rest ≡ h rest) → Left o n f o' n' h
  left_as e = record { same = λ rest. l.same rest ∙ ap (putting o' n') (e rest) }

  -- `h` is put of it, and `k` is left
  pub left_after : {o'' : List ℕ} {n'' : ℕ} {h k : List ℕ → List ℕ} → ((rest : List ℕ) → g rest ≡ h (k rest)) → Puts h o' n' o'' n'' → Left o n f o'' n'' k
  left_after {k = k} e w = record { same = λ rest. l.same rest ∙ ap (putting o' n') (e rest) ∙ w.same (k rest) }

  -- `h` is put, and that was all
  pub left_last : {o'' : List ℕ} {n'' : ℕ} {h : List ℕ → List ℕ} → ((rest : List ℕ) → g rest ≡ h rest) → Puts h o' n' o'' n'' → Puts f o n o'' n''
  left_last e w = record { same = λ rest. l.same rest ∙ ap (putting o' n') (e rest) ∙ w.same rest }

  -- nothing is left
  pub left_none : ((rest : List ℕ) → g rest ≡ rest) → Puts f o n o' n'
  left_none e = record { same = λ rest. l.same rest ∙ ap (putting o' n') (e rest) }

-- ---- the part afterwards

-- a byte at a place inside, and past the end
put_inside : (out : List ℕ) (n b : ℕ) (t : List ℕ) → n < length out → putting out n (b ∷ t) ≡ putting (set out n b) (n + 1) t
unfolding putting
put_inside out n b t h = rw (lt-ltb n (length out) h)

put_outside : (out : List ℕ) (n b : ℕ) (t : List ℕ) → length out ≤ n → putting out n (b ∷ t) ≡ putting out n t
unfolding putting
put_outside out n b t h = rw (le-ltb n (length out) h, set_out out n b h)

-- no more is used than there is
pub used_fits : (t out : List ℕ) (n : ℕ) → n ≤ length out → (putting out n t).used ≤ length out
unfolding putting
used_fits [] out n h = h
used_fits (b ∷ t) out n h =
    elim (dec_lt n (length out)) [
      | yes l ↦ rw (put_inside out n b t l) (rw (length-set out n b) at (used_fits t (set out n b) (n + 1) (rw (length-set out n b) (omega arith))))
      | no l ↦ rw (put_outside out n b t (omega arith)) (used_fits t out n h)
    ]

-- what is used holds the front of the text
front_from : (t out : List ℕ) (n : ℕ) → n ≤ length out → take (putting out n t).used (putting out n t).bytes ≡ take (length out) (take n out ++ t)
unfolding putting
front_from [] out n h = sym (rw (append-nil (take n out)) (take_all (length out) (take n out) (rw (length-take-le n out h) h)))
front_from (b ∷ t) out n h =
    elim (dec_lt n (length out)) [
      | yes l ↦
          let e : take (n + 1) (set out n b) ++ t ≡ take n out ++ b ∷ t = rw (add-one n, take-suc-set out n b l) (append_assoc (take n out) (b ∷ []) t) in
          rw (put_inside out n b t l) (front_from t (set out n b) (n + 1) (rw (length-set out n b) (omega arith)) ∙ rw (length-set out n b, e))
      | no l ↦
          let z : n ≡ length out = omega arith in
          let full : (s : List ℕ) → take (length out) (take n out ++ s) ≡ take (length out) (take n out) = λ s. take-append-le (length out) (take n out) s (rw (length-take-le n out h) (omega arith)) in
          rw (put_outside out n b t (omega arith)) (front_from t out n h ∙ full t ∙ sym (full (b ∷ t)))
    ]

pub front : (t out : List ℕ) → take (putting out 0 t).used (putting out 0 t).bytes ≡ take (length out) t
front t out = front_from t out 0 (omega arith)

-- ---- texts

-- one of two, through a function
pub pick_of : {A : Type 0} (f : A → List ℕ) (t : Bool) (x y : A) → f (pick t x y) ≡ pick t (f x) (f y)
pick_of f true x y = refl
pick_of f false x y = refl

-- as it stands
pub copied_raw : (t rest : List ℕ) → copied false t rest ≡ t ++ rest
unfolding copied
copied_raw [] rest = refl
copied_raw (b ∷ t) rest = ap (λ r. b ∷ r) (copied_raw t rest)
