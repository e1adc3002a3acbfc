-- The positions of a record are positions of symbols, over any grammar: where no symbol lies past a position, no record does; and where
-- a number of a record holds that position, the records are read back from a table. Assumes nothing.
use Prim.Native.Nat.{ℕ, zero, suc, ◌+◌, ◌*◌, ◌^◌, ◌≤◌, ◌<◌}
use native.Mathlib.Omega.{arith}
use mathlib.Core.Path.{◌≡◌, refl}
use mathlib.Core.List.{List, [], ◌∷◌, ◌++◌}
use mathlib.Core.Option.{Option, none, some}
use lib.ListN.{length, get_or}
use lib.Seq.{sets}
use Rattle.octets.specs.Believed.Numbers.{number_width}
use Rattle.records.specs.Believed.AddressRecords.{AddressRecord, no_record, address_record_size, table_bytes, record_in}
use Rattle.records.proofs.ReadBack.{address_back}
use Rattle.scanner.specs.Believed.Symbols.{Symbol}
use Rattle.grammar.specs.Believed.Grammar.{Makes, Rule, Forest, nil, leaf, branch, yield_then, yield}
use Rattle.grammar.specs.Believed.Language.{start_of}
use Rattle.grammar.specs.Believed.Records.{last_end, part_of, name_of, count, record_of, records_from, records}
use Rattle.grammar.proofs.Any.Records.{length-records, parent_smaller}

-- ---- symbols

module _ {C : Type 0} (limit : ℕ) where
  -- the symbols do not lie past a position
  abbrev pub SymbolsUpTo : List (Symbol C) → Type 0
  SymbolsUpTo [] = Unit {0}
  SymbolsUpTo (x ∷ xs) = (x.lexeme.start ≤ limit) × (x.lexeme.end ≤ limit) × SymbolsUpTo xs

  position_up_to : (q : ℕ) → q ≤ limit → (xs : List (Symbol C)) → SymbolsUpTo xs → start_of q xs ≤ limit
  position_up_to q h [] u = h
  position_up_to q h (x ∷ xs) u = u.0

  last_up_to : (q : ℕ) → q ≤ limit → (xs : List (Symbol C)) → SymbolsUpTo xs → last_end q xs ≤ limit
  last_up_to q h [] u = h
  last_up_to q h (x ∷ xs) u = last_up_to x.lexeme.end u.1 xs u.2

-- ---- forests

module _ {C N : Type 0} (limit : ℕ) where
  -- the symbols of a forest do not lie past a position
  abbrev ForestUpTo : Forest C N → Type 0
  ForestUpTo nil = Unit {0}
  ForestUpTo (leaf x forest) = (x.lexeme.start ≤ limit) × (x.lexeme.end ≤ limit) × ForestUpTo forest
  ForestUpTo (branch rule parts forest) = ForestUpTo parts × ForestUpTo forest

  forest_up_to : (forest : Forest C N) (xs : List (Symbol C)) → SymbolsUpTo limit (yield_then forest xs) → ForestUpTo forest × SymbolsUpTo limit xs
  forest_up_to nil xs u = (tt, u)
  forest_up_to (leaf x forest) xs u = let (a, b) = forest_up_to forest xs u.2 in ((u.0, u.1, a), b)
  forest_up_to (branch rule parts forest) xs u =
      let (a, b) = forest_up_to parts (yield_then forest xs) u in
      let (c, d) = forest_up_to forest xs b in
      ((a, c), d)

  yield_up_to : (forest : Forest C N) (xs : List (Symbol C)) → ForestUpTo forest → SymbolsUpTo limit xs → SymbolsUpTo limit (yield_then forest xs)
  yield_up_to nil xs r u = u
  yield_up_to (leaf x forest) xs r u = (r.0, r.1, yield_up_to forest xs r.2 u)
  yield_up_to (branch rule parts forest) xs r u = yield_up_to parts (yield_then forest xs) r.0 (yield_up_to forest xs r.1 u)

  part_up_to : (i : ℕ) (forest : Forest C N) → ForestUpTo forest → SymbolsUpTo limit (part_of i forest)
  part_up_to i nil r = tt
  part_up_to zero (leaf x forest) r = (r.0, r.1, tt)
  part_up_to zero (branch rule parts forest) r = yield_up_to parts [] r.0 tt
  part_up_to (suc i) (leaf x forest) r = part_up_to i forest r.2
  part_up_to (suc i) (branch rule parts forest) r = part_up_to i forest r.1

  name_up_to : (o : Option ℕ) (forest : Forest C N) → ForestUpTo forest → SymbolsUpTo limit (name_of o forest)
  name_up_to none forest r = tt
  name_up_to (some i) forest r = part_up_to i forest r

-- ---- records

-- a record does not lie past a position
pub record RecordUpTo (limit : ℕ) (r : AddressRecord) : Type 0 where
  pub start : r.start ≤ limit
  pub end : r.end ≤ limit
  pub name_start_lem : r.name_start ≤ limit
  pub name_end_lem : r.name_end ≤ limit

module _ (limit : ℕ) where
  -- each of these
  abbrev pub RecordsUpTo : List AddressRecord → Type 0
  RecordsUpTo [] = Unit {0}
  RecordsUpTo (r ∷ rs) = RecordUpTo limit r × RecordsUpTo rs

  up_to-append : (rs ss : List AddressRecord) → RecordsUpTo rs → RecordsUpTo ss → RecordsUpTo (rs ++ ss)
  up_to-append [] ss a b = b
  up_to-append (r ∷ rs) ss a b = (a.0, up_to-append rs ss a.1 b)

  up_to_at : (rs : List AddressRecord) (i : ℕ) (d : AddressRecord) → RecordsUpTo rs → i < length rs → RecordUpTo limit (get_or rs i d)
  up_to_at [] i d a l = absurd (omega arith)
  up_to_at (r ∷ rs) zero d a l = a.0
  up_to_at (r ∷ rs) (suc i) d a l = up_to_at rs i d a.1 (omega arith)

module _ {C N : Type 0} (limit : ℕ) where
  record_up_to : (makes : Makes) (depth parent : ℕ) (parts : Forest C N) → ForestUpTo limit parts → RecordUpTo limit (record_of makes depth parent parts)
  record_up_to makes depth parent parts r =
      let xs = yield_up_to limit parts [] r tt in
      let name = name_up_to limit makes.name parts r in
      let start : start_of 0 (yield parts) ≤ limit = position_up_to limit 0 (omega arith) (yield parts) xs in
      record {
        start = start;
        end = last_up_to limit (start_of 0 (yield parts)) start (yield parts) xs;
        name_start_lem = position_up_to limit (start_of 0 (yield parts)) start (name_of makes.name parts) name;
        name_end_lem = last_up_to limit (start_of 0 (yield parts)) start (name_of makes.name parts) name;
      }

  branch_up_to : (rule : Rule C N) (parts forest : Forest C N) (depth parent next : ℕ) → ForestUpTo limit parts
      → ((d p i : ℕ) → RecordsUpTo limit (records_from parts d p i)) → ((d p i : ℕ) → RecordsUpTo limit (records_from forest d p i))
      → RecordsUpTo limit (records_from (branch rule parts forest) depth parent next)
  branch_up_to rule parts forest depth parent next r a b = by rule.makes refl
    where
      by : (o : Option Makes) → rule.makes ≡ o → RecordsUpTo limit (records_from (branch rule parts forest) depth parent next)
      by none e = rw e (up_to-append limit (records_from parts depth parent next) _ (a depth parent next) (b depth parent (next + count parts)))
      by (some makes) e = rw e (record_up_to makes depth parent parts r, up_to-append limit (records_from parts (suc depth) (suc next) (suc next)) _ (a (suc depth) (suc next) (suc next)) (b depth parent (suc next + count parts)))

  from_up_to : (forest : Forest C N) (depth parent next : ℕ) → ForestUpTo limit forest → RecordsUpTo limit (records_from forest depth parent next)
  from_up_to nil depth parent next r = tt
  from_up_to (leaf x forest) depth parent next r = from_up_to forest depth parent next r.2
  from_up_to (branch rule parts forest) depth parent next r = branch_up_to rule parts forest depth parent next r.0 (λ d p i. from_up_to parts d p i r.0) (λ d p i. from_up_to forest d p i r.1)

  -- the records of a derivation of symbols that do not lie past a position
  pub records_up_to : (forest : Forest C N) → SymbolsUpTo limit (yield forest) → RecordsUpTo limit (records forest)
  records_up_to forest u = from_up_to forest 0 0 0 (forest_up_to limit forest [] u).0

-- ---- read back from a table

-- each record of a derivation whose number a record can hold is read back from a table with room for all
abbrev pub ReadBack : {C N : Type 0} → Forest C N → Type 0
ReadBack k =
    (table : List ℕ) → count k * address_record_size ≤ length table → (i : ℕ) → i < count k → i < 256 ^ number_width
    → record_in (sets table 0 (table_bytes (records k))) i ≡ get_or (records k) i no_record

pub read_back : {C N : Type 0} (k : Forest C N) (limit : ℕ) → limit < 256 ^ number_width → SymbolsUpTo limit (yield k) → ReadBack k
read_back k limit small u table fits i l h =
    let n : length (records k) ≡ count k = length-records k in
    let before : (get_or (records k) i no_record).parent ≤ i = parent_smaller k i no_record (omega arith) in
    let here = up_to_at limit (records k) i no_record (records_up_to limit k u) (omega arith) in
    address_back (records k) table (omega arith) i (omega arith)
    (record { parent = omega arith; start = omega (arith, here.start); end = omega (arith, here.end); name_start_lem = omega (arith, here.name_start_lem); name_end_lem = omega (arith, here.name_end_lem) })
