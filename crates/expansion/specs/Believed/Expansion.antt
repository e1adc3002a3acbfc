-- Document 02, CR 10: the expansion of an address list, by its derivation: each Include is replaced, in the list that it stands in,
-- by the addresses of its stored list, themselves expanded, in text order and depth first.
use Rattle.std.specs.Prelude.{ℕ, zero, suc, ◌+◌, Bool, false, List, None, Some, eqb, ltb, leb, length}
use Rattle.std.proofs.Math.Option.{none, some}
use Rattle.octets.specs.Believed.Choice.{pick, either}
use Rattle.octets.specs.Believed.Numbers.{level_limit, opening_limit, too_many_levels, leads_nowhere, too_many_openings}
use Rattle.grammar.specs.Believed.Grammar.{nil, leaf, branch, yield, levels}
use Rattle.grammar.specs.Believed.Language.{start_of}
use Rattle.grammar.specs.Believed.Records.{meaning_of, name_of}
use Rattle.grammar.specs.Believed.Rfc733.{Derivation, kind_number, include, postal, other_typed}
use Rattle.addresses.specs.Believed.Outcome.{body_read}
use Rattle.plain.specs.Believed.Meaning.{Addresses, no_address, and_address, address_of, addresses_after}
use Rattle.expansion.specs.Believed.Store.{leads_to, list_in}

-- ---- expansion so far

-- stopped with a number, a position and the openings before it; or addresses and the openings that they took
pub data Expansion : Type 0 where
  stopped : ℕ → ℕ → ℕ → Expansion
  reached : Addresses → ℕ → Expansion

-- what comes next, if nothing stopped it
abbrev pub and_then : Expansion → (Addresses → ℕ → Expansion) → Expansion
and_then (stopped n p openings) next = stopped n p openings
and_then (reached addresses openings) next = next addresses openings

-- the opening of a record, in place of an Include of the body that stands at a position, with so many levels open around it,
-- after these addresses of its list and after so many openings
abbrev pub Opening : Type 0
Opening = ℕ → ℕ → ℕ → Addresses → ℕ → Expansion

-- a typed address other than Include
abbrev pub other_type : ℕ → Bool
other_type kind = either (eqb kind (kind_number postal)) (eqb kind (kind_number other_typed))

module _ (store : List ℕ) where
  -- an Include with this in it; `typed`: directly in another typed address
  abbrev pub expand_include : Opening → Bool → ℕ → ℕ → Addresses → Addresses → ℕ → Expansion
  expand_include opening typed place depth held before openings =
      elim (pick typed None (leads_to store held)) [
        | None ↦ stopped leads_nowhere place openings
        | Some i ↦ opening i place depth before openings
      ]

  -- addresses, and then those of a forest, expanded, with so many levels open around it; `place_of` tells the position that counts for an
  -- Include which starts at a position
  abbrev pub expand_forest : Opening → (ℕ → ℕ) → Bool → ℕ → Derivation → Addresses → ℕ → Expansion
  expand_forest opening place_of typed depth nil before openings = reached before openings
  expand_forest opening place_of typed depth (leaf x forest) before openings = expand_forest opening place_of typed depth forest before openings
  expand_forest opening place_of typed depth (branch rule parts forest) before openings =
      and_then
      (elim rule.makes [
        | none ↦ expand_forest opening place_of typed depth parts before openings
        | some makes ↦
            let kind = makes.kind (meaning_of (name_of makes.name parts)) in
            pick (eqb kind (kind_number include))
            (expand_include opening typed (place_of (start_of 0 (yield parts))) depth (addresses_after no_address parts) before openings)
            (and_then (expand_forest opening place_of (other_type kind) (depth + pick rule.opens 1 0) parts no_address openings)
            (λ members openings'. reached (and_address before (address_of makes parts members)) openings'))
      ])
      (λ before' openings'. expand_forest opening place_of typed depth forest before' openings')

  -- ---- stored lists

  -- a stored list, as a message of its own: refused gives its own number and the record's; its levels and those open around it may not
  -- pass 64 together; else its addresses stand in place of the Include, one opening more
  abbrev pub expand_stored : Opening → ℕ → ℕ → ℕ → Addresses → ℕ → Expansion
  expand_stored opening i place depth before openings =
      let list = list_in store i in
      body_read (λ n p. stopped n i openings)
      (λ k. pick (ltb level_limit (depth + levels k)) (stopped too_many_levels place openings) (expand_forest opening (λ start. place) false depth k before (suc openings)))
      list 0 (length list)

  -- the opening of a record, after at most 64 openings, of which at most 64 lie in each other; a further one is 20. Those around it
  -- are all counted, so it is the count that stops
  abbrev pub opened_within : ℕ → ℕ → ℕ → ℕ → Addresses → ℕ → Expansion
  opened_within zero i place depth before openings = stopped too_many_openings place openings
  opened_within (suc deep) i place depth before openings =
      pick (leb opening_limit openings) (stopped too_many_openings place openings)
      (expand_stored (λ i' place' depth' before' openings'. opened_within deep i' place' depth' before' openings') i place depth before openings)

  -- the expansion of a derivation
  abbrev pub expansion : Derivation → Expansion
  expansion k = expand_forest (λ i place depth before openings. opened_within opening_limit i place depth before openings) (λ start. start) false 0 k no_address 0
