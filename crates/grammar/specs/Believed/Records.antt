-- Document 01, "Addresses": the records of a derivation, over any grammar that makes records.
use Rattle.std.specs.Prelude.{ℕ, zero, suc, ◌+◌, List, [], ◌∷◌, ◌++◌}
use Rattle.std.proofs.Math.Option.{Option, none, some}
use Rattle.records.specs.Believed.AddressRecords.{AddressRecord}
use Rattle.scanner.specs.Believed.Symbols.{Symbol}
use Rattle.grammar.specs.Believed.Grammar.{Makes, Forest, nil, leaf, branch, yield}
use Rattle.grammar.specs.Believed.Language.{start_of}

-- ---- of symbols

-- the end of the last of these symbols; where there is none, this position
abbrev pub last_end : {C : Type 0} → ℕ → List (Symbol C) → ℕ
last_end position [] = position
last_end position (x ∷ xs) = last_end x.lexeme.end xs

-- the meanings of symbols, one after the other
abbrev pub meaning_of : {C : Type 0} → List (Symbol C) → List ℕ
meaning_of [] = []
meaning_of (x ∷ xs) = x.lexeme.meaning ++ meaning_of xs

-- ---- records

module _ {C N : Type 0} where
  -- the symbols of the i-th tree of a forest
  abbrev pub part_of : ℕ → Forest C N → List (Symbol C)
  part_of i nil = []
  part_of zero (leaf x forest) = x ∷ []
  part_of zero (branch rule parts forest) = yield parts
  part_of (suc i) (leaf x forest) = part_of i forest
  part_of (suc i) (branch rule parts forest) = part_of i forest

  -- the symbols of the name of an address with these parts
  abbrev pub name_of : Option ℕ → Forest C N → List (Symbol C)
  name_of none parts = []
  name_of (some i) parts = part_of i parts

  -- the number of addresses in a forest
  abbrev pub count : Forest C N → ℕ
  count nil = 0
  count (leaf x forest) = count forest
  count (branch rule parts forest) = elim rule.makes [ none ↦ 0 | some makes ↦ 1 ] + count parts + count forest

  -- the record of an address with these parts: from its first to its last symbol; without a name both name positions are its start
  abbrev pub record_of : Makes → ℕ → ℕ → Forest C N → AddressRecord
  record_of makes depth parent parts =
      let start = start_of 0 (yield parts) in
      let name = name_of makes.name parts in
      record {
        kind = makes.kind (meaning_of name);
        depth = depth;
        parent = parent;
        start = start;
        end = last_end start (yield parts);
        name_start = start_of start name;
        name_end = last_end start name;
      }

  -- the records of a forest, in order of start, at this depth and with this parent; the first of them has the number `next`.
  -- An address has itself as parent of what lies in it
  abbrev pub records_from : Forest C N → ℕ → ℕ → ℕ → List AddressRecord
  records_from nil depth parent next = []
  records_from (leaf x forest) depth parent next = records_from forest depth parent next
  records_from (branch rule parts forest) depth parent next =
      elim rule.makes [
        | none ↦ records_from parts depth parent next ++ records_from forest depth parent (next + count parts)
        | some makes ↦ record_of makes depth parent parts
            ∷ (records_from parts (suc depth) (suc next) (suc next) ++ records_from forest depth parent (suc next + count parts))
      ]

  -- the records of a derivation
  abbrev pub records : Forest C N → List AddressRecord
  records forest = records_from forest 0 0 0
