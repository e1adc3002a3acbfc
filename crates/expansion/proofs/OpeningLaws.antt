-- What comes of a record that an Include leads to. Assumes nothing.
use Prim.Native.Nat.{ℕ, zero, suc, ◌+◌, ◌-◌, ◌≤◌, ◌<◌}
use native.Mathlib.Omega.{arith}
use mathlib.Core.Path.{◌≡◌, refl, sym, ap, ◌∙◌}
use mathlib.Core.Bool.{Bool, true, false}
use mathlib.Core.List.{List, [], ◌∷◌}
use borrow.Author.Tests.{leb-true, leb-false, le-leb, lt-leb, le-ltb, lt-ltb}
use types.Run.{OneOf}
use denote.Enum.Declared.{tag_of}
use lib.Dec.{ltb, leb}
use lib.ListN.{length}
use Rattle.octets.specs.Believed.Choice.{pick, both}
use Rattle.octets.specs.Believed.Numbers.{level_limit, opening_limit, too_many_levels, too_many_openings}
use Rattle.octets.specs.declared.answers.Answer.{Answer}
use Rattle.octets.specs.declared.answers.Answer.TheVariants.{Refused}
use Rattle.octets.specs.contracts.answers.Answer as answer-declared
use Rattle.octets.proofs.ChoiceLaws.{both_parts}
use Rattle.scanner.specs.Believed.Scanning.{scan, symbols_of}
use Rattle.grammar.specs.Believed.Grammar.{levels}
use Rattle.grammar.specs.Believed.Rfc733.{Derivation}
use Rattle.addresses.specs.Believed.Outcome.{body_read, outcome}
use Rattle.addresses.specs.Believed.Within.{list_within}
use Rattle.addresses.proofs.Judgements.{ListBody, refused_at, listed, judged, listed_read}
use Rattle.addresses.proofs.Told.{refused_told, some_list}
use Rattle.addresses.proofs.WithinLaws.{within_listed, within_not}
use Rattle.plain.specs.declared.places.Place.{Place}
use Rattle.expansion.specs.Believed.Store.{list_in}
use Rattle.expansion.specs.Ties.Walk.{Trail, halted, walk_within}
use Rattle.expansion.specs.Ties.Steps.{Continuation, spot, fault_in, walk_symbols, RecordOpens, VerdictIs}
use Rattle.octets.specs.Believed.Answers.{fault}
use Rattle.octets.specs.declared.answers.Fault.{Fault}
use Rattle.std.specs.Prelude.{Some, Err}

-- ---- the fault of a list, by what the reader answers

module _ (i position : ℕ) (list table : List ℕ) where
  pub fault_refused : (n p : ℕ) → Refused n p ≡ (outcome list 0 (length list) table).answer → fault n i ≡ fault_in list i position
  fault_refused n p e = sym (refused_told list 0 (length list) table n p e Fault (λ n p. fault n i) (λ k. fault too_many_levels position))

  pub fault_levels : (r : Answer) → r ≡ (outcome list 0 (length list) table).answer → OneOf (0 ∷ 2 ∷ []) (tag_of answer-declared.the_type r) → fault too_many_levels position ≡ fault_in list i position
  fault_levels r e o = sym (listed_read (some_list list 0 (length list) table r e o).body (λ n p. fault n i) (λ k. fault too_many_levels position))

-- ---- the record

module _ (store : List ℕ) (i position depth openings : ℕ) where
  abbrev refuse : ℕ → ℕ → Trail
  refuse n p = halted n i openings

  abbrev derive : ℕ → Place → Continuation → Derivation → Trail
  derive deep place following k =
      pick (ltb level_limit (depth + levels k)) (halted too_many_levels position openings)
      (walk_symbols store deep (Some (spot position depth)) place [] (symbols_of (scan (list_in store i) 0)) (suc openings) following)

  -- the 65th
  pub too_many : opening_limit ≤ openings → VerdictIs store i position depth openings (Err (fault too_many_openings position))
  too_many h zero place following n = refl
  too_many h (suc deep) place following n =
      ap (λ z. pick z (halted too_many_openings position openings) (body_read refuse (derive deep place following) (list_in store i) 0 (length (list_in store i)))) (le-leb opening_limit openings h)

  module _ (few : openings < opening_limit) where
    reads : (deep : ℕ) (place : Place) (following : Continuation)
        → walk_within store (suc deep) i position depth place openings following ≡ body_read refuse (derive deep place following) (list_in store i) 0 (length (list_in store i))
    reads deep place following =
        ap (λ z. pick z (halted too_many_openings position openings) (body_read refuse (derive deep place following) (list_in store i) 0 (length (list_in store i)))) (lt-leb opening_limit openings few)

    -- it is opened
    pub opens : both (leb depth level_limit) (list_within (level_limit - depth) (list_in store i)) ≡ true → RecordOpens store i position depth openings
    opens e =
        let (a, b) = both_parts _ _ e in
        let low = leb-true depth level_limit a in
        let (k, body, fits) = within_listed (level_limit - depth) (list_in store i) b in
        record {
          few = few;
          low = low;
          walks = λ deep place following.
              reads deep place following ∙ listed_read body refuse (derive deep place following)
              ∙ ap (λ z. pick z (halted too_many_levels position openings) (walk_symbols store deep (Some (spot position depth)) place [] (symbols_of (scan (list_in store i) 0)) (suc openings) following)) (le-ltb level_limit (depth + levels k) (omega (arith, low, fits)))
              ∙ ap (λ u. walk_symbols store deep (Some (spot position depth)) place [] (symbols_of (scan (list_in store i) 0)) u following) (omega arith);
        }

    -- or its list is at fault
    deeper : (k : Derivation) → ListBody (list_in store i) 0 (length (list_in store i)) k → (z : Bool) → leb depth level_limit ≡ z → both z (list_within (level_limit - depth) (list_in store i)) ≡ false → level_limit < depth + levels k
    deeper k b true a e = omega (arith, leb-true depth level_limit a, within_not (level_limit - depth) (list_in store i) b e)
    deeper k b false a e = omega (arith, leb-false depth level_limit a)

    halts : (n p : ℕ) → ((deep : ℕ) (place : Place) (following : Continuation) → body_read refuse (derive deep place following) (list_in store i) 0 (length (list_in store i)) ≡ halted n p openings)
        → VerdictIs store i position depth openings (Err (fault n p))
    halts n p f zero place following h = absurd (omega (arith, h, few))
    halts n p f (suc deep) place following h = reads deep place following ∙ f deep place following

    pub at_fault : both (leb depth level_limit) (list_within (level_limit - depth) (list_in store i)) ≡ false → (r : Fault) → r ≡ fault_in (list_in store i) i position → VerdictIs store i position depth openings (Err r)
    at_fault e r g =
        elim (judged (list_in store i) 0 (length (list_in store i))) [
          | refused_at n p f ↦ rw (g ∙ f Fault (λ n p. fault n i) (λ k. fault too_many_levels position)) (halts n i (λ deep place following. f Trail refuse (derive deep place following)))
          | listed k b ↦
              rw (g ∙ listed_read b (λ n p. fault n i) (λ k. fault too_many_levels position))
              (halts too_many_levels position (λ deep place following.
              listed_read b refuse (derive deep place following)
              ∙ ap (λ z. pick z (halted too_many_levels position openings) (walk_symbols store deep (Some (spot position depth)) place [] (symbols_of (scan (list_in store i) 0)) (suc openings) following)) (lt-ltb level_limit (depth + levels k) (deeper k b _ refl e))))
        ]
