-- Laws of stored runs and of parts of a list, beside those of `lib.Seq`. Assumes nothing.
use mathlib.Core.Path.{◌≡◌, refl, sym, ap, ◌∙◌}
use mathlib.Core.List.{List, [], ◌∷◌, ◌++◌, append_assoc, append-nil}
use Prim.Native.Nat.{ℕ, zero, suc, min, ◌+◌, ◌-◌, ◌≤◌, ◌<◌}
use native.Mathlib.Nat.{add-zero, sub-zero, zero-sub}
use native.Mathlib.Decide.{dec_lt}
use native.Mathlib.Numerals.{add-one}
use native.Mathlib.Omega.{arith}
use lib.ListN.{length, get_or, take, drop, set, length-take, length-drop, drop_of_length-le}
use lib.Seq.{sets, sets-eq, take_all, drop_at, drop-cons, drop-drop, take-append_seam, take-set-le, take-nil, take-take, get_or-take, drop-set-lt, set_comm, set_out, length-take-le}
use borrow.Rule.Slice.PartMut.{put_mid}
use Rattle.octets.specs.Believed.Text.{part}

module _ {A : Type 0} where
  -- a part of no elements in front of the rest changes nothing
  pub no_front : (front rest : List A) → length front ≡ 0 → front ++ rest ≡ rest
  no_front [] rest e = refl
  no_front (x ∷ front) rest e = absurd (omega arith)

  -- from a place on: the element there, and those after it
  pub from_here : (l : List A) (i : ℕ) (d : A) → i < length l → drop i l ≡ get_or l i d ∷ drop (i + 1) l
  from_here l i d h = rw add-one (drop-cons l i d h)

  -- past the end nothing is stored
  pub sets_out : (vs table : List A) (i : ℕ) → length table ≤ i → sets table i vs ≡ table
  sets_out [] table i h = refl
  sets_out (v ∷ vs) table i h = rw (set_out table i v h) (sets_out vs table (suc i) (omega arith))

  -- two runs, one after the other, are one
  pub sets-append : (vs ws table : List A) (i : ℕ) → sets table i (vs ++ ws) ≡ sets (sets table i vs) (i + length vs) ws
  sets-append [] ws table i = rw (add-zero i)
  sets-append (v ∷ vs) ws table i =
      let e : suc i + length vs ≡ i + suc (length vs) = omega arith in
      sets-append vs ws (set table i v) (suc i) ∙ rw e

  -- a store before a run may come after it
  pub set-sets : (vs table : List A) (i j : ℕ) (v : A) → i < j → sets (set table i v) j vs ≡ set (sets table j vs) i v
  set-sets [] table i j v h = refl
  set-sets (w ∷ vs) table i j v h =
      rw (set_comm table i j v w (λ e. absurd (omega arith))) (set-sets vs (set table j w) i (suc j) v (omega arith))

  -- of two runs, one after the other, either may be stored first
  pub sets-behind_first : (vs ws table : List A) (i : ℕ) → sets (sets table (i + length vs) ws) i vs ≡ sets table i (vs ++ ws)
  sets-behind_first [] ws table i = rw (add-zero i)
  sets-behind_first (v ∷ vs) ws table i =
      let e : i + suc (length vs) ≡ suc i + length vs = omega arith in
      rw (e, ← (set-sets ws table i (suc i + length vs) v (omega arith))) (sets-behind_first vs ws (set table i v) (suc i))

  -- what stands before a run stays
  pub take-sets : (vs table : List A) (i n : ℕ) → n ≤ i → take n (sets table i vs) ≡ take n table
  take-sets [] table i n h = refl
  take-sets (v ∷ vs) table i n h = take-sets vs (set table i v) (suc i) n (omega arith) ∙ take-set-le n table i v h

  -- what stands after it stays
  pub drop-sets : (vs table : List A) (i n : ℕ) → i + length vs ≤ n → drop n (sets table i vs) ≡ drop n table
  drop-sets [] table i n h = refl
  drop-sets (v ∷ vs) table i n h = drop-sets vs (set table i v) (suc i) n (omega arith) ∙ drop-set-lt n table i v (omega arith)

  -- the run itself
  pub part-sets : (vs table : List A) (i : ℕ) → i + length vs ≤ length table → take (length vs) (drop i (sets table i vs)) ≡ vs
  part-sets vs table i h =
      let n : length (take i table) ≡ i = length-take-le i table (omega arith) in
      rw (sets-eq vs table i h, append_assoc, drop_at (take i table) (vs ++ drop (i + length vs) table) i n)
      (take-append_seam vs (drop (i + length vs) table))

  sets_behind : (x : A) (vs table : List A) (i : ℕ) → sets (x ∷ table) (suc i) vs ≡ x ∷ sets table i vs
  sets_behind x [] table i = refl
  sets_behind x (v ∷ vs) table i = sets_behind x vs (set table i v) (suc i)

  -- the front of a list, copied: from a place on the element there, and those after it
  pub copied_here : (from table : List A) (many i : ℕ) (d : A) → i < many → i < length from
      → sets table i (drop i (take many from)) ≡ sets (set table i (get_or from i d)) (i + 1) (drop (i + 1) (take many from))
  copied_here from table many i d h k =
      rw (from_here (take many from) i d (omega (arith, length-take many from)), get_or-take many from i d h, add-one)

  -- nothing of it is left where it ends, or the table does
  pub copied_all : (from table : List A) (many i : ℕ) → min many (min (length table) (length from)) ≤ i
      → sets table i (drop i (take many from)) ≡ table
  copied_all from table many i h =
      elim (dec_lt i (length table)) [
        | yes k ↦ rw (drop_of_length-le (take many from) {i = i} (omega (arith, length-take many from)))
        | no k ↦ sets_out (drop i (take many from)) table i (omega arith)
      ]

  -- a run that is stored from a place on is stored at the front of what stands there
  pub sets_mid : (vs table : List A) (i : ℕ) → i ≤ length table → take i table ++ sets (drop i table) 0 vs ≡ sets table i vs
  sets_mid vs table zero h = refl
  sets_mid vs [] (suc i) h = absurd (omega arith)
  sets_mid vs (x ∷ table) (suc i) h = ap (λ l. x ∷ l) (sets_mid vs table i (omega arith)) ∙ sym (sets_behind x vs table i)

  pub stored_mid : (vs table back : List A) (i : ℕ) → i ≤ length table → back ≡ sets (take (length table - i) (drop i table)) 0 (take (length vs) vs)
      → put_mid i (length table - i) table back ≡ sets table i vs
  stored_mid vs table back i h e =
      let none : drop (length table - i) (drop i table) ≡ [] = drop_of_length-le (drop i table) (simp length-drop (omega arith)) in
      let all : take (length table - i) (drop i table) ≡ drop i table = take_all (length table - i) (drop i table) (simp length-drop (omega arith)) in
      let run : take (length vs) vs ≡ vs = take_all (length vs) vs (omega arith) in
      simp (none, append-nil) (rw (e, all, run) (sets_mid vs table i h))

  -- a run that was stored at the front of a large enough room and is copied from there is stored as it would be at once
  pub staged : (table room vs : List A) → length vs ≤ length room → sets table 0 (take (length vs) (sets room 0 vs)) ≡ sets table 0 vs
  staged table room vs h = ap (λ (front : List A). sets table 0 front) (part-sets vs room 0 (omega arith))

-- ---- the part of a text from a position up to another

pub part_cons : (text : List ℕ) (at end : ℕ) → at < end → end ≤ length text → part text at end ≡ get_or text at 0 ∷ part text (at + 1) end
part_cons text at end h k =
    let n : end - at ≡ suc (end - (at + 1)) = omega arith in
    rw (n, drop-cons text at 0 (omega arith), add-one)

pub part_none : (text : List ℕ) (at end : ℕ) → end ≤ at → part text at end ≡ []
part_none text at end h = let n : end - at ≡ 0 = omega arith in rw n

pub part_length : (text : List ℕ) (at end : ℕ) → end ≤ length text → length (part text at end) ≡ end - at
part_length text at end h = length-take-le (end - at) (drop at text) (omega (arith, length-drop at text))

drop-take : (n m : ℕ) (l : List ℕ) → drop n (take m l) ≡ take (m - n) (drop n l)
drop-take zero m l = rw sub-zero
drop-take (suc n) zero l = rw (zero-sub (suc n))
drop-take (suc n) (suc m) [] = sym (take-nil (suc m - suc n))
drop-take (suc n) (suc m) (x ∷ l) = let e : suc m - suc n ≡ m - n = omega arith in rw e (drop-take n m l)

pub part-drop : (text : List ℕ) (at end n : ℕ) → drop n (part text at end) ≡ part text (at + n) end
part-drop text at end n = let k : end - at - n ≡ end - (at + n) = omega arith in drop-take n (end - at) (drop at text) ∙ rw (drop-drop n at text, k)

pub part-take : (text : List ℕ) (at end n : ℕ) → at + n ≤ end → take n (part text at end) ≡ part text at (at + n)
part-take text at end n h = let k : at + n - at ≡ n = omega arith in take-take n (end - at) (drop at text) (omega arith) ∙ rw k
