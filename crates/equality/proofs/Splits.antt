-- The characters of two texts put together are theirs put together, if no fold begins in the one and ends in the other. Assumes nothing.
use Prim.Native.Nat.{ℕ, suc, ◌+◌, ◌≤◌}
use native.Mathlib.Omega.{arith}
use mathlib.Core.Path.{◌≡◌, refl, ap, ◌∙◌}
use mathlib.Core.Bool.{Bool, true, false}
use mathlib.Core.List.{List, [], ◌∷◌, ◌++◌}
use borrow.Author.Tests.{ne_eqb}
use lib.Dec.{eqb}
use lib.ListN.{length}
use Rattle.octets.specs.Believed.Octets.{line_feed_byte, return_byte, open_byte}
use Rattle.octets.proofs.ChoiceLaws.{both_false}
use Rattle.scanner.specs.Believed.Characters.{character, fold_at, InFold, none, line_feed, white, characters_from}
use Rattle.scanner.proofs.CharacterLaws.{plain_here, fold_within}

-- ---- a byte that begins a fold

pub fold_here : (b : ℕ) (cs : List ℕ) (p : ℕ) → fold_at (b ∷ cs) 0 ≡ true → characters_from none (b ∷ cs) p ≡ characters_from line_feed cs (p + 1)
unfolding characters_from
fold_here b cs p e = rw (e, characters_from)

-- ---- no fold begins in the one and ends in the other

abbrev pub Apart : List ℕ → List ℕ → Type 0
Apart [] post = Unit {0}
Apart (b ∷ cs) post = (fold_at (b ∷ (cs ++ post)) 0 ≡ fold_at (b ∷ cs) 0) × Apart cs post

fold_before_open : (b : ℕ) (cs post : List ℕ) → fold_at (b ∷ (cs ++ (open_byte ∷ post))) 0 ≡ fold_at (b ∷ cs) 0
fold_before_open b [] post = rw (both_false (eqb b return_byte))
fold_before_open b (c ∷ []) post = refl
fold_before_open b (c ∷ d ∷ cs) post = refl

-- the second begins with "("
pub apart_before_open : (cs post : List ℕ) → Apart cs (open_byte ∷ post)
apart_before_open [] post = tt
apart_before_open (b ∷ cs) post = (fold_before_open b cs post, apart_before_open cs post)

-- the last of one or more bytes
abbrev pub last_byte : ℕ → List ℕ → ℕ
last_byte b [] = b
last_byte b (c ∷ cs) = last_byte c cs

-- a byte with which no CR and no CRLF ends
pub record NoLineEnd (b : ℕ) : Type 0 where
  pub no_return : b ≡ return_byte → ⊥
  pub no_line_feed : b ≡ line_feed_byte → ⊥

fold_behind : (b : ℕ) (cs post : List ℕ) → NoLineEnd (last_byte b cs) → fold_at (b ∷ (cs ++ post)) 0 ≡ fold_at (b ∷ cs) 0
fold_behind b [] post n = rw (ne_eqb b return_byte n.no_return)
fold_behind b (c ∷ []) post n = rw (ne_eqb c line_feed_byte n.no_line_feed, both_false (eqb b return_byte))
fold_behind b (c ∷ d ∷ cs) post n = refl

-- the first ends with such a byte
pub apart_behind : (b : ℕ) (cs post : List ℕ) → NoLineEnd (last_byte b cs) → Apart (b ∷ cs) post
apart_behind b [] post n = (fold_behind b [] post n, tt)
apart_behind b (c ∷ cs) post n = (fold_behind b (c ∷ cs) post n, apart_behind c cs post n)

-- ---- the characters

-- what is left of a fold lies in the first
abbrev Enough : InFold → List ℕ → Type 0
Enough none cs = Unit {0}
Enough line_feed cs = 2 ≤ length cs
Enough white cs = 1 ≤ length cs

pub fold_enough : (b : ℕ) (cs : List ℕ) → fold_at (b ∷ cs) 0 ≡ true → 2 ≤ length cs
fold_enough b cs e = omega (arith, fold_within (b ∷ cs) 0 e)

position : (p n : ℕ) → p + 1 + n ≡ p + suc n
position p n = omega arith

split_by : (z : Bool) (b : ℕ) (cs post : List ℕ) (p : ℕ) → fold_at (b ∷ cs) 0 ≡ z → fold_at (b ∷ (cs ++ post)) 0 ≡ z
    → (z ≡ true → characters_from line_feed (cs ++ post) (p + 1) ≡ characters_from line_feed cs (p + 1) ++ characters_from none post (p + 1 + length cs))
    → (z ≡ false → characters_from none (cs ++ post) (p + 1) ≡ characters_from none cs (p + 1) ++ characters_from none post (p + 1 + length cs))
    → characters_from none (b ∷ (cs ++ post)) p ≡ characters_from none (b ∷ cs) p ++ characters_from none post (p + suc (length cs))
split_by true b cs post p e f g h = rw (fold_here b (cs ++ post) p f, fold_here b cs p e, ← (position p (length cs))) (g refl)
split_by false b cs post p e f g h = rw (plain_here b (cs ++ post) p f, plain_here b cs p e, ← (position p (length cs))) (ap (λ xs. character b p false ∷ xs) (h refl))

split_from : (cs : List ℕ) (fold : InFold) (post : List ℕ) (p : ℕ) → Apart cs post → Enough fold cs → characters_from fold (cs ++ post) p ≡ characters_from fold cs p ++ characters_from none post (p + length cs)
unfolding characters_from
split_from [] none post p a n = let e : p + 0 ≡ p = omega arith in rw e refl
split_from [] line_feed post p a n = absurd (omega (arith, n))
split_from [] white post p a n = absurd (omega (arith, n))
split_from (b ∷ cs) none post p a n =
    split_by (fold_at (b ∷ cs) 0) b cs post p refl a.0
    (λ e. split_from cs line_feed post (p + 1) a.1 (fold_enough b cs e)) (λ e. split_from cs none post (p + 1) a.1 tt)
split_from (b ∷ cs) line_feed post p a n = split_from cs white post (p + 1) a.1 (omega (arith, n)) ∙ rw (position p (length cs)) refl
split_from (b ∷ cs) white post p a n = ap (λ xs. character b p true ∷ xs) (split_from cs none post (p + 1) a.1 tt ∙ rw (position p (length cs)) refl)

pub split : (cs post : List ℕ) (p : ℕ) → Apart cs post → characters_from none (cs ++ post) p ≡ characters_from none cs p ++ characters_from none post (p + length cs)
split cs post p a = split_from cs none post p a tt
