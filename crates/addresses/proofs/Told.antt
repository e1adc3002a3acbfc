-- What the reader's answer tells of a body: that it is refused so, or that it is a list. Assumes nothing.
use mathlib.Core.Path.{◌≡◌, refl, ap, ◌∙◌}
use mathlib.Core.Bool.{Bool, true, false}
use mathlib.Core.List.{List, [], ◌∷◌}
use Prim.Native.Nat.{ℕ}
use native.Mathlib.Omega.{arith}
use lib.Dec.{ltb}
use types.Run.{OneOf, miss}
use denote.Enum.Declared.{tag_of}
use Rattle.octets.specs.contracts.answers.Answer as answer-declared
use Rattle.octets.specs.Believed.Choice.{pick}
use Rattle.octets.specs.Believed.Stored.{room_for}
use Rattle.octets.specs.declared.answers.Answer.{Answer}
use Rattle.octets.specs.declared.answers.Answer.TheVariants.{Accepted, Refused, NoRoom}
use Rattle.records.specs.Believed.AddressRecords.{address_record_size}
use Rattle.grammar.specs.Believed.Records.{count}
use Rattle.grammar.specs.Believed.Rfc733.{Derivation}
use Rattle.addresses.specs.Believed.Outcome.{Outcome, refusal, derived, outcome}
use Rattle.addresses.proofs.Judgements.{ListBody, RefusedBody, Judged, refused_at, listed, listed_read, judged}

-- what is read of a list is no refusal
derived_by : (test : Bool) (n p : ℕ) (one other : Outcome) {m m' : ℕ} → one.answer ≡ NoRoom m → other.answer ≡ Accepted m' → Refused n p ≡ (pick test one other).answer → ⊥
derived_by true n p one other e f g = let h : Refused n p ≡ NoRoom _ = g ∙ e in let z : ◌≡◌ {A = ℕ} 0 1 = cc in omega arith
derived_by false n p one other e f g = let h : Refused n p ≡ Accepted _ = g ∙ f in let z : ◌≡◌ {A = ℕ} 0 1 = cc in omega arith

-- a list, if there is one
pub record SomeList (message : List ℕ) (start end : ℕ) : Type 0 where
  pub derivation : Derivation
  pub body : ListBody message start end derivation

module _ (message : List ℕ) (start end : ℕ) where
  refused_by : Judged message start end → (table : List ℕ) (n p : ℕ) → Refused n p ≡ (outcome message start end table).answer → RefusedBody message start end n p
  refused_by (refused_at m q f) table n p e =
      let g : Refused n p ≡ Refused m q = e ∙ ap (λ (z : Outcome). z.answer) (f Outcome (refusal table) (derived table)) in
      let i : n ≡ m = cc in
      let j : p ≡ q = cc in
      rw (i, j) f
  refused_by (listed k b) table n p e =
      absurd (derived_by (ltb (room_for address_record_size table) (count k)) n p _ _ refl refl (e ∙ ap (λ (z : Outcome). z.answer) (listed_read b (refusal table) (derived table))))

  -- the reader refuses
  pub refused_told : (table : List ℕ) (n p : ℕ) → Refused n p ≡ (outcome message start end table).answer → RefusedBody message start end n p
  refused_told = refused_by (judged message start end)

  list_by : Judged message start end → (table : List ℕ) (r : Answer) → r ≡ (outcome message start end table).answer → OneOf (0 ∷ 2 ∷ []) (tag_of answer-declared.the_type r) → SomeList message start end
  list_by (refused_at m q f) table r e o = absurd (miss (0 ∷ 2 ∷ []) 1 tt (rw (e ∙ ap (λ (z : Outcome). z.answer) (f Outcome (refusal table) (derived table))) at o))
  list_by (listed k b) table r e o = record { derivation = k; body = b }

  -- the reader does not refuse
  pub some_list : (table : List ℕ) (r : Answer) → r ≡ (outcome message start end table).answer → OneOf (0 ∷ 2 ∷ []) (tag_of answer-declared.the_type r) → SomeList message start end
  some_list = list_by (judged message start end)
