-- What is written so far and what is left to write. Assumes nothing.
use mathlib.Core.Path.{◌≡◌, refl, sym, ap, ◌∙◌}
use mathlib.Core.List.{List, [], ◌∷◌, ◌++◌}
use Prim.Native.Nat.{ℕ, suc, ◌+◌, ◌-◌, ◌≤◌, ◌<◌}
use native.Mathlib.Decide.{dec_lt}
use native.Mathlib.Nat.{zero-add}
use native.Mathlib.Numerals.{add-one}
use native.Mathlib.Omega.{arith}
use borrow.Author.Tests.{le-leb, lt-leb}
use lib.ListN.{length, drop, set, drop_of_length-le, length-append}
use lib.Seq.{sets, sets-eq}
use Rattle.octets.specs.declared.answers.Answer.TheVariants.{Accepted, NoRoom}
use Rattle.octets.specs.Ties.Writing.{WroteBy, Wrote, in_window}
use Rattle.octets.specs.Believed.Fitting.{fitting_answer, fitting_text}
use Rattle.octets.proofs.Parts.{no_front, sets-append}

-- ---- texts written

module _ {store : List ℕ → ℕ → List ℕ → List ℕ} where
  pub wrote_nothing : (out : List ℕ) (n : ℕ) → WroteBy store (λ rest. rest) out n out n
  wrote_nothing out n = record { same = λ rest. refl; count = λ rest. refl }

  -- the same text in other words
  pub wrote_as : {f g : List ℕ → List ℕ} {o p : List ℕ} {n m : ℕ} → ((rest : List ℕ) → f rest ≡ g rest) → WroteBy store f o n p m → WroteBy store g o n p m
  wrote_as {o = o} {n = n} e w =
      record { same = λ rest. ap (store o n) (sym (e rest)) ∙ w.same rest; count = λ rest. ap (λ t. n + length t) (sym (e rest)) ∙ w.count rest }

  -- one text after another
  pub wrote_both : {f g : List ℕ → List ℕ} {o p q : List ℕ} {n m k : ℕ} → WroteBy store f o n p m → WroteBy store g p m q k → WroteBy store (λ rest. f (g rest)) o n q k
  wrote_both {f} {g} a b = record { same = λ rest. a.same (g rest) ∙ b.same rest; count = λ rest. a.count (g rest) ∙ b.count rest }

  pub wrote_three : {f g h : List ℕ → List ℕ} {o p q r : List ℕ} {n m k j : ℕ}
      → WroteBy store f o n p m → WroteBy store g p m q k → WroteBy store h q k r j → WroteBy store (λ rest. f (g (h rest))) o n r j
  wrote_three {f} {g} {h} a b c = wrote_both {f = f} {g = λ rest. g (h rest)} a (wrote_both {f = g} {g = h} b c)

-- a byte
pub wrote_byte : {out after : List ℕ} {n b : ℕ} → after ≡ set out n b → Wrote (λ rest. b ∷ rest) out n after (n + 1)
wrote_byte {out} {after} {n} {b} e = record { same = λ rest. rw (e, add-one n); count = λ rest. omega arith }

-- ---- texts written in a window

module _ (from : ℕ) (out : List ℕ) (n b : ℕ) where
  -- a byte before the window changes nothing
  pub byte_before : n < from → in_window from out n (b ∷ []) ≡ out
  unfolding in_window
  byte_before h =
      let d : from - n ≡ suc (from - (n + 1)) = omega arith in
      let none : List ℕ = [] in
      rw (lt-leb from n h, d, drop_of_length-le none {i = from - (n + 1)} (omega arith))

  -- a byte in it is stored, if there is room
  pub byte_within : from ≤ n → in_window from out n (b ∷ []) ≡ set out (n - from) b
  unfolding in_window
  byte_within h = rw (le-leb from n h)

  -- a byte, and what stands after it
  window_byte : (rest : List ℕ) → in_window from out n (b ∷ rest) ≡ in_window from (in_window from out n (b ∷ [])) (n + 1) rest
  unfolding in_window
  window_byte rest =
      elim (dec_lt n from) [
        | yes h ↦ rw (byte_before h) (before h rest)
        | no h ↦
            let d : n + 1 - from ≡ suc (n - from) = omega arith in
            rw (byte_within (omega arith), le-leb from n (omega arith), le-leb from (n + 1) (omega arith), d)
      ]
    where
      before : n < from → (rest : List ℕ) → in_window from out n (b ∷ rest) ≡ in_window from out (n + 1) rest
      before h rest =
          let d : from - n ≡ suc (from - (n + 1)) = omega arith in
          elim (dec_lt (n + 1) from) [
            | yes l ↦ rw (lt-leb from n h, d, lt-leb from (n + 1) l)
            | no l ↦
                let z : from - (n + 1) ≡ 0 = omega arith in
                let y : n + 1 - from ≡ 0 = omega arith in
                rw (lt-leb from n h, d, z, le-leb from (n + 1) (omega arith), y)
          ]

pub wrote_window : (from : ℕ) {out after : List ℕ} {n b : ℕ} → after ≡ in_window from out n (b ∷ []) → WroteBy (in_window from) (λ rest. b ∷ rest) out n after (n + 1)
wrote_window from {out} {after} {n} {b} e = record { same = λ rest. rw e (window_byte from out n b rest); count = λ rest. omega arith }

-- nothing is stored of no text
pub nothing_more : (from : ℕ) (out : List ℕ) (n : ℕ) → in_window from out n [] ≡ out
unfolding in_window
nothing_more from out n =
    elim (dec_lt n from) [
      | yes h ↦ let none : List ℕ = [] in rw (lt-leb from n h, drop_of_length-le none {i = from - n} (omega arith))
      | no h ↦ rw (le-leb from n (omega arith))
    ]

-- a text
pub wrote_text : {out after : List ℕ} {n : ℕ} (t : List ℕ) → after ≡ sets out n t → Wrote (λ rest. t ++ rest) out n after (n + length t)
wrote_text {out} {n = n} t e = record { same = λ rest. rw e (sets-append t rest out n); count = λ rest. rw length-append (omega arith) }

window_text : (from : ℕ) (t rest out : List ℕ) (n : ℕ) → in_window from out n (t ++ rest) ≡ in_window from (in_window from out n t) (n + length t) rest
window_text from [] rest out n = let z : n + 0 ≡ n = omega arith in rw (nothing_more from out n, z)
window_text from (b ∷ t) rest out n =
    let z : n + 1 + length t ≡ n + suc (length t) = omega arith in
    window_byte from out n b (t ++ rest) ∙ window_text from t rest (in_window from out n (b ∷ [])) (n + 1)
    ∙ rw (← (window_byte from out n b t), z)

pub wrote_window_text : (from : ℕ) {out after : List ℕ} {n : ℕ} (t : List ℕ) → after ≡ in_window from out n t → WroteBy (in_window from) (λ rest. t ++ rest) out n after (n + length t)
wrote_window_text from {out} {n = n} t e = record { same = λ rest. rw e (window_text from t rest out n); count = λ rest. rw length-append (omega arith) }

module _ (from : ℕ) (out : List ℕ) (n : ℕ) (t : List ℕ) where
  -- a text in the window, one that begins before it, and one that ends before it
  pub text_within : from ≤ n → in_window from out n t ≡ sets out (n - from) t
  unfolding in_window
  text_within h = rw (le-leb from n h)

  pub text_across : n < from → in_window from out n t ≡ sets out 0 (drop (from - n) t)
  unfolding in_window
  text_across h = rw (lt-leb from n h)

  pub text_before : n < from → length t ≤ from - n → in_window from out n t ≡ out
  text_before h k = text_across h ∙ rw (drop_of_length-le t {i = from - n} k)

-- from the text's start on, a window holds what stands from its own start on
pub window_all : (from : ℕ) (out text : List ℕ) → in_window from out 0 text ≡ sets out 0 (drop from text)
unfolding in_window
window_all from out text =
    elim (dec_lt 0 from) [
      | yes h ↦ let e : from - 0 ≡ from = omega arith in rw (lt-leb from 0 h, e)
      | no h ↦
          let e : from ≡ 0 = omega arith in
          rw e
    ]

-- ---- what is left to write: `g` now, of `f` at the start

pub record LeftBy (store : List ℕ → ℕ → List ℕ → List ℕ) (o : List ℕ) (n : ℕ) (f : List ℕ → List ℕ) (o' : List ℕ) (n' : ℕ) (g : List ℕ → List ℕ) : Type 0 where
  pub same : (rest : List ℕ) → store o n (f rest) ≡ store o' n' (g rest)
  pub count : (rest : List ℕ) → n + length (f rest) ≡ n' + length (g rest)

abbrev pub Left : List ℕ → ℕ → (List ℕ → List ℕ) → List ℕ → ℕ → (List ℕ → List ℕ) → Type 0
Left o n f o' n' g = LeftBy sets o n f o' n' g

module _ {store : List ℕ → ℕ → List ℕ → List ℕ} where
  pub left_all : (o : List ℕ) (n : ℕ) (f : List ℕ → List ℕ) → LeftBy store o n f o n f
  left_all o n f = record { same = λ rest. refl; count = λ rest. refl }

  module _ {o o' : List ℕ} {n n' : ℕ} {f g : List ℕ → List ℕ} (l : LeftBy store o n f o' n' g) where
    -- the same text in other words
    pub left_as : {h : List ℕ → List ℕ} → ((rest : List ℕ) → g rest ≡ h rest) → LeftBy store o n f o' n' h
    left_as e = record { same = λ rest. l.same rest ∙ ap (store o' n') (e rest); count = λ rest. l.count rest ∙ ap (λ t. n' + length t) (e rest) }

    -- `h` is written of it, and `k` is left
    pub left_after : {o'' : List ℕ} {n'' : ℕ} {h k : List ℕ → List ℕ} → ((rest : List ℕ) → g rest ≡ h (k rest)) → WroteBy store h o' n' o'' n'' → LeftBy store o n f o'' n'' k
    left_after {k = k} e w =
        record {
          same = λ rest. l.same rest ∙ ap (store o' n') (e rest) ∙ w.same (k rest);
          count = λ rest. l.count rest ∙ ap (λ t. n' + length t) (e rest) ∙ w.count (k rest);
        }

    -- nothing is left
    pub left_none : ((rest : List ℕ) → g rest ≡ rest) → WroteBy store f o n o' n'
    left_none e = record { same = λ rest. l.same rest ∙ ap (store o' n') (e rest); count = λ rest. l.count rest ∙ ap (λ t. n' + length t) (e rest) }

-- ---- number 11

sets-all : (t o : List ℕ) → length t ≤ length o → sets o 0 t ≡ t ++ drop (length t) o
sets-all t o h = sets-eq t o 0 (omega arith) ∙ rw zero-add

-- too little room: n bytes are needed
pub too_long : (t o ys : List ℕ) (n : ℕ) → n ≡ length t → length ys ≡ 0 → length (ys ++ o) < n → (NoRoom n ≡ fitting_answer t o) × (ys ++ o ≡ fitting_text t o)
too_long t o ys n e z h =
    let f : ys ++ o ≡ o = no_front ys o z in
    let k : length o < length t = rw (f, e) at h in
    (rw (lt-leb _ _ k, e), rw (lt-leb _ _ k) f)

-- room enough
pub fitting : (t o ys after : List ℕ) (n m : ℕ) → n ≡ length t → length ys ≡ 0 → n ≤ length (ys ++ o) → m ≡ length t → after ≡ sets (ys ++ o) 0 t
    → (Accepted m ≡ fitting_answer t o) × (after ≡ fitting_text t o)
fitting t o ys after n m e z h d w =
    let f : ys ++ o ≡ o = no_front ys o z in
    let k : length t ≤ length o = rw (f, e) at h in
    (rw (le-leb _ _ k, d), rw (le-leb _ _ k) (w ∙ rw f (sets-all t o k)))
