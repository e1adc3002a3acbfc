-- Names of records. Assumes nothing.
use Prim.Native.Nat.{ℕ, zero, suc, ◌+◌, ◌*◌, ◌-◌, ◌≤◌, ◌<◌}
use native.Mathlib.Omega.{arith}
use mathlib.Core.Path.{◌≡◌, refl, sym, ap, ◌∙◌}
use mathlib.Core.Bool.{Bool, true, false, true≢false}
use mathlib.Core.List.{List, [], ◌∷◌}
use borrow.Author.Tests.{eq-eqb, ne_eqb, eqb-true, eqb-false}
use lib.Dec.{eqb}
use lib.ListN.{length, take, drop, get_or, length-take}
use lib.Seq.{sets, sets-eq, length-take-le, take-append_seam}
use Rattle.octets.proofs.LetterLaws.{lengths_differ, same_self, same_bytes_lem}
use Rattle.octets.specs.Believed.Text.{part}
use Rattle.octets.specs.Believed.Numbers.{store_record_size, store_name_size}
use Rattle.octets.specs.Believed.Stored.{room_for}
use Rattle.octets.specs.Believed.Choice.{pick}
use Rattle.std.specs.Prelude.{Option, None, Some, MatchOption, EachIndex, ◌≢◌}
use Rattle.octets.specs.Believed.Letters.{same_bytes}
use Rattle.expansion.specs.Believed.Store.{before_trimmed, without_zeros, name_in, first_named, lowest, or_else}

before_more : (b : ℕ) (bs : List ℕ) → (0 < length bs) → before_trimmed b bs ≡ b ∷ bs
before_more b [] h = absurd (omega (arith, h))
before_more b (c ∷ cs) h = refl

-- by the last byte that does count, if there is one
abbrev pub past : Option ℕ → ℕ
past None = 0
past (Some i) = i + 1

no_others : (xs : List ℕ) → ((k : ℕ) → k < length xs → get_or xs k 0 ≡ 0) → without_zeros xs ≡ []
no_others [] z = refl
no_others (x ∷ xs) z = ap (before_trimmed x) (no_others xs (λ k h. z (suc k) (omega (arith, h)))) ∙ rw (eq-eqb x 0 (z 0 (omega arith)))

ends_at : (xs : List ℕ) (n : ℕ) → n < length xs → (get_or xs n 0 ≡ 0 → ⊥) → ((k : ℕ) → n < k → k < length xs → get_or xs k 0 ≡ 0) → take (suc n) xs ≡ without_zeros xs
ends_at [] n h e z = absurd (omega (arith, h))
ends_at (x ∷ xs) zero h e z = sym (ap (before_trimmed x) (no_others xs (λ k g. z (suc k) (omega arith) (omega (arith, g)))) ∙ rw (ne_eqb x 0 e))
ends_at (x ∷ xs) (suc n) h e z =
    let f : take (suc n) xs ≡ without_zeros xs = ends_at xs n (omega (arith, h)) e (λ k g l. z (suc k) (omega (arith, g)) (omega (arith, l))) in
    sym (ap (before_trimmed x) (sym f) ∙ before_more x (take (suc n) xs) (omega (arith, length-take-le (suc n) xs (omega (arith, h)))))

pub trimmed_past : (xs : List ℕ) (o : Option ℕ)
    → MatchOption o (EachIndex xs (λ k. get_or xs k 0 ≡ 0)) (λ i. (i < length xs) × (get_or xs i 0 ≢ 0) × ((k : ℕ) → i < k → k < length xs → get_or xs k 0 ≡ 0))
    → (take (past o) xs ≡ without_zeros xs) × (past o ≤ length xs)
trimmed_past xs None z = (sym (no_others xs z), omega arith)
trimmed_past xs (Some i) (h, e, z) = let q : i + 1 ≡ suc i = omega arith in (rw q (ends_at xs i h e z), omega (arith, h))

-- ---- the lowest record with a name

module _ (store name : List ℕ) (many i : ℕ) where
  next_record : i < many → first_named (many - i) store name i ≡ pick (same_bytes (name_in store i) name) (Some i) (first_named (many - (i + 1)) store name (i + 1))
  next_record h =
      let e : many - i ≡ suc (many - (i + 1)) = omega (arith, h) in
      let f : suc i ≡ i + 1 = omega arith in
      ap (λ n. first_named n store name i) e ∙ ap (λ j. pick (same_bytes (name_in store i) name) (Some i) (first_named (many - (i + 1)) store name j)) f

  pub named_here : i < many → same_bytes (name_in store i) name ≡ true → first_named (many - i) store name i ≡ Some i
  named_here h e = next_record h ∙ ap (λ z. pick z (Some i) (first_named (many - (i + 1)) store name (i + 1))) e

  pub named_later : i < many → same_bytes (name_in store i) name ≡ false → first_named (many - i) store name i ≡ first_named (many - (i + 1)) store name (i + 1)
  named_later h e = next_record h ∙ ap (λ z. pick z (Some i) (first_named (many - (i + 1)) store name (i + 1))) e

-- ---- a text that is no name

trimmed_length : (xs : List ℕ) → length (without_zeros xs) ≤ length xs
trimmed_length [] = omega arith
trimmed_length (x ∷ xs) = by (without_zeros xs) (trimmed_length xs)
  where
    test : (z : Bool) (ys : List ℕ) → length (pick z [] (x ∷ [])) ≤ 1
    test true ys = omega arith
    test false ys = omega arith

    by : (ys : List ℕ) → length ys ≤ length xs → length (before_trimmed x ys) ≤ length (x ∷ xs)
    by [] h = omega (arith, test (eqb x 0) [])
    by (c ∷ cs) h = omega (arith, h)

name_short : (store : List ℕ) (i : ℕ) → length (name_in store i) ≤ store_name_size
name_short store i =
    omega (arith, trimmed_length (part store (i * store_record_size) (i * store_record_size + store_name_size)), length-take (i * store_record_size + store_name_size - i * store_record_size) (drop (i * store_record_size) store))

pub no_name : (store name : List ℕ) (i : ℕ) → store_name_size < length name → same_bytes (name_in store i) name ≡ false
no_name store name i h = lengths_differ (λ b. b) (name_in store i) name (λ e. omega (arith, e, name_short store i, h))

never_named : (many : ℕ) (store text : List ℕ) (i : ℕ) → store_name_size < length text → first_named many store text i ≡ None
never_named zero store text i h = refl
never_named (suc many) store text i h =
    ap (λ z. pick z (Some i) (first_named many store text (suc i))) (no_name store text i h) ∙ never_named many store text (suc i) h

pub too_long : (store text : List ℕ) (n : ℕ) → n ≡ length text → store_name_size < n → lowest store text ≡ None
too_long store text n e h = never_named (room_for store_record_size store) store text 0 (omega (arith, e, h))

-- a text in a buffer of its own
pub own_text : (text own₀ own : List ℕ) (n : ℕ) → n ≡ length text → own ≡ sets own₀ 0 text → n ≤ length own₀ → take n own ≡ text
own_text text own₀ own n e f h =
    rw (e, f ∙ sets-eq text own₀ 0 (omega (arith, e, h))) (take-append_seam text (drop (0 + length text) own₀))

-- ---- a record's name, its front first

front_by : (x : ℕ) (xs : List ℕ) (z : Bool) → take (length (pick z [] (x ∷ []))) (x ∷ xs) ≡ pick z [] (x ∷ [])
front_by x xs true = refl
front_by x xs false = refl

trimmed_front : (xs : List ℕ) → take (length (without_zeros xs)) xs ≡ without_zeros xs
trimmed_front [] = refl
trimmed_front (x ∷ xs) = by (without_zeros xs) (trimmed_front xs)
  where
    by : (ys : List ℕ) → take (length ys) xs ≡ ys → take (length (before_trimmed x ys)) (x ∷ xs) ≡ before_trimmed x ys
    by [] e = front_by x xs (eqb x 0)
    by (c ∷ cs) e = ap (λ zs. x ∷ zs) e

module _ (whole name : List ℕ) where
  -- the front is another one
  pub other_front : same_bytes (take (length name) whole) name ≡ false → same_bytes (without_zeros whole) name ≡ false
  other_front e = by (same_bytes (without_zeros whole) name) refl
    where
      by : (z : Bool) → same_bytes (without_zeros whole) name ≡ z → same_bytes (without_zeros whole) name ≡ false
      by false f = f
      by true f =
          let g : without_zeros whole ≡ name = same_bytes_lem (without_zeros whole) name f in
          let h : take (length name) whole ≡ name = ap (λ z. take (length z) whole) (sym g) ∙ trimmed_front whole ∙ g in
          absurd (true≢false (sym (ap (λ z. same_bytes z name) h ∙ same_self (λ b. b) name) ∙ e))

  -- the front is this one, and the name is as long, or not
  module _ (r : ℕ) (e : take r whole ≡ without_zeros whole) (same : same_bytes (take (length name) whole) name ≡ true) where
    as_long : r ≡ length name → same_bytes (without_zeros whole) name ≡ true
    as_long h = ap (λ z. same_bytes z name) (sym e ∙ ap (λ k. take k whole) h) ∙ same

    not_as_long : r ≤ length whole → (r ≡ length name → ⊥) → same_bytes (without_zeros whole) name ≡ false
    not_as_long l n = lengths_differ (λ b. b) (without_zeros whole) name (λ f. n (sym (length-take-le r whole l) ∙ ap length e ∙ f))

    pub length-tells : r ≤ length whole → eqb r (length name) ≡ same_bytes (without_zeros whole) name
    length-tells l = by (eqb r (length name)) refl
      where
        by : (z : Bool) → eqb r (length name) ≡ z → eqb r (length name) ≡ same_bytes (without_zeros whole) name
        by true f = f ∙ sym (as_long (eqb-true r (length name) f))
        by false f = f ∙ sym (not_as_long l (eqb-false r (length name) f))

-- ---- what is found is a record of the store

abbrev pub InStore : List ℕ → Option ℕ → Type 0
InStore store None = Unit {0}
InStore store (Some i) = i * store_record_size + store_record_size ≤ length store

pub pick_in : (store : List ℕ) (z : Bool) (a b : Option ℕ) → InStore store a → InStore store b → InStore store (pick z a b)
pick_in store true a b g h = g
pick_in store false a b g h = h

named_in : (many : ℕ) (store name : List ℕ) (i : ℕ) → (i + many) * store_record_size ≤ length store → InStore store (first_named many store name i)
named_in zero store name i h = tt
named_in (suc many) store name i h =
    pick_in store (same_bytes (name_in store i) name) (Some i) (first_named many store name (suc i)) (omega (arith, h)) (named_in many store name (suc i) (omega (arith, h)))

pub lowest_in : (store name : List ℕ) → InStore store (lowest store name)
lowest_in store name = named_in (room_for store_record_size store) store name 0 (omega arith)

pub else_in : (store : List ℕ) (a b : Option ℕ) → InStore store a → InStore store b → InStore store (or_else a b)
else_in store None b g h = h
else_in store (Some i) b g h = g
