-- Laws of records, over any grammar. Assumes nothing.
use Prim.Native.Nat.{ℕ, zero, suc, ◌+◌, ◌≤◌, ◌<◌}
use native.Mathlib.Omega.{arith}
use mathlib.Core.Path.{◌≡◌, refl, sym, ap, ◌∙◌}
use mathlib.Core.List.{List, [], ◌∷◌, ◌++◌, append_assoc}
use mathlib.Core.Option.{Option, none, some}
use lib.ListN.{length, get_or, length-append}
use Rattle.scanner.specs.Believed.Symbols.{Symbol}
use Rattle.grammar.specs.Believed.Grammar.{Makes, Rule, Forest, nil, leaf, branch, yield_then, yield}
use Rattle.grammar.specs.Believed.Records.{last_end, count, record_of, records_from, records}
use Rattle.records.specs.Believed.AddressRecords.{AddressRecord}

-- ---- a parent's number is smaller than its child's

-- these records, the first of them numbered `next`, have parents of smaller numbers: the parent's number plus 1 is at most the record's own number
abbrev pub ParentsBefore : ℕ → List AddressRecord → Type 0
ParentsBefore next [] = Unit {0}
ParentsBefore next (r ∷ rs) = (r.parent ≤ next) × ParentsBefore (suc next) rs

parents-append : (next : ℕ) (rs ss : List AddressRecord) → ParentsBefore next rs → ParentsBefore (next + length rs) ss → ParentsBefore next (rs ++ ss)
parents-append next [] ss p q = let e : next + 0 ≡ next = omega arith in rw e at q
parents-append next (r ∷ rs) ss p q =
    let e : next + suc (length rs) ≡ suc next + length rs = omega arith in
    (p.0, parents-append (suc next) rs ss p.1 (rw e at q))

parent_at : (rs : List AddressRecord) (next i : ℕ) (r : AddressRecord) → ParentsBefore next rs → i < length rs → (get_or rs i r).parent ≤ next + i
parent_at [] next i r p h = absurd (omega arith)
parent_at (s ∷ rs) next zero r p h = omega arith
parent_at (s ∷ rs) next (suc i) r p h = omega (arith, parent_at rs (suc next) i r p.1 (omega arith))

-- ---- the end of symbols that end with others

pub last-append : {C : Type 0} (q : ℕ) (zs : List (Symbol C)) (x : Symbol C) (xs : List (Symbol C)) → last_end q (zs ++ (x ∷ xs)) ≡ last_end x.lexeme.end xs
last-append q [] x xs = refl
last-append q (z ∷ zs) x xs = last-append z.lexeme.end zs x xs

module _ {C N : Type 0} where
  -- ---- symbols

  pub yield-append : (forest : Forest C N) (xs : List (Symbol C)) → yield_then forest xs ≡ yield forest ++ xs
  yield-append nil xs = refl
  yield-append (leaf x forest) xs = ap (λ l. x ∷ l) (yield-append forest xs)
  yield-append (branch rule parts forest) xs =
      yield-append parts (yield_then forest xs) ∙ ap (λ l. yield parts ++ l) (yield-append forest xs) ∙ sym (append_assoc (yield parts) (yield forest) xs)
      ∙ ap (λ l. l ++ xs) (sym (yield-append parts (yield forest)))

  -- ---- the count is the number of records

  length-branch : (rule : Rule C N) (parts forest : Forest C N) (depth parent next : ℕ)
      → ((d p i : ℕ) → length (records_from parts d p i) ≡ count parts) → ((d p i : ℕ) → length (records_from forest d p i) ≡ count forest)
      → length (records_from (branch rule parts forest) depth parent next) ≡ count (branch rule parts forest)
  length-branch rule parts forest depth parent next a b = by rule.makes refl
    where
      by : (o : Option Makes) → rule.makes ≡ o → length (records_from (branch rule parts forest) depth parent next) ≡ count (branch rule parts forest)
      by none e = rw e (simp (length-append, a, b) (omega arith))
      by (some makes) e = rw e (simp (length-append, a, b) (omega arith))

  pub length_from : (forest : Forest C N) (depth parent next : ℕ) → length (records_from forest depth parent next) ≡ count forest
  length_from nil depth parent next = refl
  length_from (leaf x forest) depth parent next = length_from forest depth parent next
  length_from (branch rule parts forest) depth parent next = length-branch rule parts forest depth parent next (λ d p i. length_from parts d p i) (λ d p i. length_from forest d p i)

  pub length-records : (forest : Forest C N) → length (records forest) ≡ count forest
  length-records forest = length_from forest 0 0 0

  parents_branch : (rule : Rule C N) (parts forest : Forest C N) (depth parent next : ℕ) → parent ≤ next
      → ((d p i : ℕ) → p ≤ i → ParentsBefore i (records_from parts d p i)) → ((d p i : ℕ) → p ≤ i → ParentsBefore i (records_from forest d p i))
      → ParentsBefore next (records_from (branch rule parts forest) depth parent next)
  parents_branch rule parts forest depth parent next h a b = by rule.makes refl
    where
      by : (o : Option Makes) → rule.makes ≡ o → ParentsBefore next (records_from (branch rule parts forest) depth parent next)
      by none e =
          rw e (parents-append next (records_from parts depth parent next) (records_from forest depth parent (next + count parts))
          (a depth parent next h) (rw (length_from parts depth parent next) (b depth parent (next + count parts) (omega arith))))
      by (some makes) e =
          rw e (
            h,
            parents-append (suc next) (records_from parts (suc depth) (suc next) (suc next)) (records_from forest depth parent (suc next + count parts))
                (a (suc depth) (suc next) (suc next) (omega arith)) (rw (length_from parts (suc depth) (suc next) (suc next)) (b depth parent (suc next + count parts) (omega arith))),
          )

  pub parents_from : (forest : Forest C N) (depth parent next : ℕ) → parent ≤ next → ParentsBefore next (records_from forest depth parent next)
  parents_from nil depth parent next h = tt
  parents_from (leaf x forest) depth parent next h = parents_from forest depth parent next h
  parents_from (branch rule parts forest) depth parent next h =
      parents_branch rule parts forest depth parent next h (λ d p i g. parents_from parts d p i g) (λ d p i g. parents_from forest d p i g)

  -- the record numbered `i` has as parent, plus 1, at most `i`
  pub parent_smaller : (forest : Forest C N) (i : ℕ) (r : AddressRecord) → i < length (records forest) → (get_or (records forest) i r).parent ≤ i
  parent_smaller forest i r h = omega (arith, parent_at (records forest) 0 i r (parents_from forest 0 0 0 (omega arith)) h)

  -- ---- records after others

  -- records, and those of a forest after them
  abbrev pub Then : List AddressRecord → Forest C N → ℕ → ℕ → List AddressRecord
  Then rs k d p = rs ++ records_from k d p (length rs)

  -- a rule that makes no record
  pub plain_then : (r : Rule C N) (parts k : Forest C N) (rs : List AddressRecord) (d p : ℕ) → r.makes ≡ none → Then rs (branch r parts k) d p ≡ Then (Then rs parts d p) k d p
  plain_then r parts k rs d p e =
      let n : length (Then rs parts d p) ≡ length rs + count parts = length-append rs (records_from parts d p (length rs)) ∙ ap (λ (m : ℕ). length rs + m) (length_from parts d p (length rs)) in
      rw (e, n) (sym (append_assoc rs (records_from parts d p (length rs)) (records_from k d p (length rs + count parts))))

  -- a rule that makes one
  pub record_then : (r : Rule C N) (m : Makes) (parts k : Forest C N) (rs : List AddressRecord) (d p : ℕ) → r.makes ≡ some m
      → Then rs (branch r parts k) d p ≡ Then (Then (rs ++ (record_of m d p parts ∷ [])) parts (suc d) (suc (length rs))) k d p
  record_then r m parts k rs d p e =
      let one : length (rs ++ (record_of m d p parts ∷ [])) ≡ suc (length rs) = omega (arith, length-append rs (record_of m d p parts ∷ [])) in
      let all : length ((rs ++ (record_of m d p parts ∷ [])) ++ records_from parts (suc d) (suc (length rs)) (suc (length rs))) ≡ suc (length rs) + count parts =
      length-append (rs ++ (record_of m d p parts ∷ [])) (records_from parts (suc d) (suc (length rs)) (suc (length rs)))
      ∙ omega (arith, one, length_from parts (suc d) (suc (length rs)) (suc (length rs))) in
      rw (e, one, all)
      (sym
      (append_assoc (rs ++ (record_of m d p parts ∷ [])) (records_from parts (suc d) (suc (length rs)) (suc (length rs))) (records_from k d p (suc (length rs) + count parts))
      ∙ append_assoc rs (record_of m d p parts ∷ []) (records_from parts (suc d) (suc (length rs)) (suc (length rs)) ++ records_from k d p (suc (length rs) + count parts))))
