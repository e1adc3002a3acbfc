-- The laws of looking up a name in a table. Assumes nothing.
use mathlib.Core.Path.{◌≡◌, refl, sym, ap, ◌∙◌}
use mathlib.Core.Bool.{Bool, true, false, cond, not}
use mathlib.Core.List.{List, [], ◌∷◌, map}
use Rattle.std.proofs.lemmas.List.{length-map}
use Prim.Native.Nat.{ℕ, suc, ◌+◌}
use native.Mathlib.Omega.{arith}
use native.Mathlib.Decide.{dec_lt}
use borrow.Author.Tests.{lt-ltb, le-ltb}
use lib.Dec.{ltb}
use lib.IntN.{ℤ, pos}
use lib.ListN.{length, get_or}
use denote.Bor.{Bor}
use Rattle.std.specs.Prelude.{Option, Some, None}
use Rattle.std.specs.List.{position_or_len, find}
use Rattle.std.specs.Option.{option_map}
use Rattle.octets.specs.Believed.Choice.{pick}
use Rattle.dates.specs.Believed.Names.{called, place}
use Rattle.std.proofs.lemmas.Option.{none-some, same_Some}
use Rattle.dates.specs.Believed.Parts.{Part}
use Rattle.dates.specs.Executable.Form.{and_then}
use Rattle.dates.specs.Ties.Names.{place_in, minutes_in}

module _ (name : List ℕ) where
  -- the first place at which a name is called so
  abbrev found : List (Bor (List ℕ)) → ℕ
  found names = position_or_len (λ full. called full.now name) names

  at_place : (names : List (Bor (List ℕ))) → found names ≡ place (map (λ full. full.now) names) name
  unfolding place
  at_place [] = refl
  at_place (full ∷ names) = go (called full.now name) (at_place names)
    where
      go : (t : Bool) → found names ≡ place (map (λ full. full.now) names) name → cond (not t) (1 + found names) 0 ≡ pick t 0 (suc (place (map (λ full. full.now) names) name))
      go true e = refl
      go false e = omega arith

  either_way : {A : Type 0} (t : Bool) (x y : A) → cond t x y ≡ pick t x y
  either_way true x y = refl
  either_way false x y = refl

  pub place_found : (names : List (Bor (List ℕ))) → cond (ltb (found names) (length names)) (Some (found names)) None ≡ place_in (map (λ full. full.now) names) name
  place_found names =
      let among : List (List ℕ) = map (λ full. full.now) names in
      either_way (ltb (found names) (length names)) (Some (found names)) None
      ∙ ap (λ (p : ℕ). pick {A = Option ℕ} (ltb p (length names)) (Some p) None) (at_place names)
      ∙ ap (λ (n : ℕ). pick {A = Option ℕ} (ltb (place among name) n) (Some (place among name)) None) (sym (length-map names (λ full. full.now)))

  one_on : (a b : ℕ) → ltb a b ≡ ltb (suc a) (suc b)
  one_on a b = elim (dec_lt a b) [
    | yes h ↦ rw (lt-ltb a b h, lt-ltb (suc a) (suc b) (omega arith))
    | no h ↦ rw (le-ltb a b (omega arith), le-ltb (suc a) (suc b) (omega arith))
  ]

  -- the first zone that is called so
  abbrev zone_among : List (Bor (List ℕ) × ℤ) → Option ℤ
  zone_among zones = option_map (λ zone. zone.1) (find (λ zone. called zone.0.now name) zones)

  abbrev minutes_among : List (Bor (List ℕ) × ℤ) → Option ℤ
  minutes_among zones = minutes_in (map (λ zone. zone.0.now) zones) (map (λ zone. zone.1) zones) name

  pub zone_found : (zones : List (Bor (List ℕ) × ℤ)) → zone_among zones ≡ minutes_among zones
  unfolding place
  zone_found [] = refl
  zone_found (zone ∷ zones) = go (called zone.0.now name) (zone_found zones)
    where
      among : ℕ
      among = place (map (λ z. z.0.now) zones) name

      go : (t : Bool) → zone_among zones ≡ minutes_among zones
          → option_map (λ z. z.1) (cond t (Some zone) (find (λ z. called z.0.now name) zones))
          ≡ pick (ltb (pick t 0 (suc among)) (suc (length (map {A = Bor (List ℕ) × ℤ} {B = List ℕ} (λ z. z.0.now) zones)))) (Some (get_or (zone.1 ∷ map (λ z. z.1) zones) (pick t 0 (suc among)) (pos 0))) None
      go true e = rw (lt-ltb 0 (suc (length (map {A = Bor (List ℕ) × ℤ} {B = List ℕ} (λ z. z.0.now) zones))) (omega arith))
      go false e = e ∙ ap (λ (t : Bool). pick {A = Option ℤ} t (Some (get_or (map (λ z. z.1) zones) among (pos 0))) None) (one_on among (length (map {A = Bor (List ℕ) × ℤ} {B = List ℕ} (λ z. z.0.now) zones)))

-- a first part that is a name, by what is found of its bytes
module _ (names : List (List ℕ)) (bytes : List ℕ) (rest : List Part) where
  abbrev named : Option (ℕ × List Part)
  named = pick (ltb (place names bytes) (length names)) (Some (place names bytes, rest)) None

  pub name_missed : None ≡ place_in names bytes → named ≡ None
  name_missed e = go (ltb (place names bytes) (length names)) e
    where
      go : (t : Bool) → ◌≡◌ {A = Option ℕ} None (pick t (Some (place names bytes)) None) → ◌≡◌ {A = Option (ℕ × List Part)} (pick t (Some (place names bytes, rest)) None) None
      go true e = absurd (none-some _ e)
      go false e = refl

  pub name_met : {n : ℕ} → Some n ≡ place_in names bytes → named ≡ Some (n, rest)
  name_met {n} e = go (ltb (place names bytes) (length names)) e
    where
      go : (t : Bool) → ◌≡◌ {A = Option ℕ} (Some n) (pick t (Some (place names bytes)) None) → ◌≡◌ {A = Option (ℕ × List Part)} (pick t (Some (place names bytes, rest)) None) (Some (n, rest))
      go true e = rw (same_Some n (place names bytes) e)
      go false e = absurd (none-some n (sym e))

  module _ (minutes : List ℤ) where
    pub zone_missed : None ≡ minutes_in names minutes bytes → named ≡ None
    zone_missed e = go (ltb (place names bytes) (length names)) e
      where
        go : (t : Bool) → ◌≡◌ {A = Option ℤ} None (pick t (Some (get_or minutes (place names bytes) (pos 0))) None) → ◌≡◌ {A = Option (ℕ × List Part)} (pick t (Some (place names bytes, rest)) None) None
        go true e = absurd (none-some _ e)
        go false e = refl

    pub zone_met : {z : ℤ} → Some z ≡ minutes_in names minutes bytes → and_then {B = Option ℤ × List Part} named (λ n r. Some (Some (get_or minutes n (pos 0)), r)) ≡ Some (Some z, rest)
    zone_met {z} e = go (ltb (place names bytes) (length names)) e
      where
        go : (t : Bool) → ◌≡◌ {A = Option ℤ} (Some z) (pick t (Some (get_or minutes (place names bytes) (pos 0))) None)
            → and_then {B = Option ℤ × List Part} (pick {A = Option (ℕ × List Part)} t (Some (place names bytes, rest)) None) (λ n r. Some (Some (get_or minutes n (pos 0)), r)) ≡ Some (Some z, rest)
        go true e = rw (same_Some z (get_or minutes (place names bytes) (pos 0)) e)
        go false e = absurd (none-some z (sym e))
