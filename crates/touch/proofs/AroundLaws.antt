-- The records that cover a place are those that climbing parent by parent finds. Assumes nothing.
use Prim.Native.Nat.{ℕ, suc, ◌+◌, ◌≤◌, ◌<◌}
use native.Mathlib.Omega.{arith}
use mathlib.Core.Path.{◌≡◌, refl, sym, ap, ◌∙◌}
use mathlib.Core.Bool.{Bool, true, false}
use mathlib.Core.List.{List, [], ◌∷◌, ◌++◌, append_assoc, append-nil}
use borrow.Author.Tests.{leb-true, leb-false, ltb-true, ltb-false}
use lib.Dec.{leb, ltb}
use lib.ListN.{length, get_or, length-append}
use Rattle.octets.specs.Believed.Choice.{pick}
use Rattle.records.specs.Believed.AddressRecords.{AddressRecord, no_record}
use Rattle.touch.specs.Believed.Around.{covers, around_from, around, first_plus, Climbs, over, up, AroundClimbs}
use Rattle.touch.proofs.Nesting.{Nest, nil, node, flatten, height, Well, well_le, Nested}

-- ---- what covers a byte

around-append : (b i : ℕ) (rs ss : List AddressRecord) (acc : List ℕ) → around_from b i (rs ++ ss) acc ≡ around_from b (i + length rs) ss (around_from b i rs acc)
around-append b i [] ss acc = let e : i + 0 ≡ i = omega arith in rw e refl
around-append b i (r ∷ rs) ss acc =
    let e : i + suc (length rs) ≡ suc i + length rs = omega arith in
    around-append b (suc i) rs ss (pick (covers b r) (i ∷ acc) acc) ∙ rw e refl

data Covers (b : ℕ) (r : AddressRecord) : Type 0 where
  within : covers b r ≡ true → r.start ≤ b → b < r.end → Covers b r
  before : covers b r ≡ false → b < r.start → Covers b r
  after : covers b r ≡ false → r.end ≤ b → Covers b r

covers_cases : (b : ℕ) (r : AddressRecord) → Covers b r
covers_cases b r = by (leb r.start b) (ltb b r.end) refl refl
  where
    by : (x y : Bool) → leb r.start b ≡ x → ltb b r.end ≡ y → Covers b r
    by true true e f = within (rw (e, f) refl) (leb-true r.start b e) (ltb-true b r.end f)
    by true false e f = after (rw (e, f) refl) (ltb-false b r.end f)
    by false true e f = before (rw e refl) (leb-false r.start b e)
    by false false e f = before (rw e refl) (leb-false r.start b e)

-- a record that does not cover a byte, where nothing in it and nothing after it does
skip : (b i : ℕ) (r : AddressRecord) (inside rest : Nest) (acc acc' : List ℕ) → covers b r ≡ false → around_from b (suc i) (flatten inside) acc ≡ acc
    → around_from b (suc i + length (flatten inside)) (flatten rest) acc ≡ acc' → around_from b i (flatten (node r inside rest)) acc ≡ acc'
skip b i r inside rest acc acc' e f g =
    ap (λ c. around_from b (suc i) (flatten inside ++ flatten rest) (pick c (i ∷ acc) acc)) e
    ∙ around-append b (suc i) (flatten inside) (flatten rest) acc ∙ ap (around_from b (suc i + length (flatten inside)) (flatten rest)) f ∙ g

-- a record that covers a byte, after which nothing does
take_it : (b i : ℕ) (r : AddressRecord) (inside rest : Nest) (acc : List ℕ) → covers b r ≡ true
    → ((ns : List ℕ) → around_from b (suc i + length (flatten inside)) (flatten rest) ns ≡ ns)
    → around_from b i (flatten (node r inside rest)) acc ≡ around_from b (suc i) (flatten inside) (i ∷ acc)
take_it b i r inside rest acc e f =
    ap (λ c. around_from b (suc i) (flatten inside ++ flatten rest) (pick c (i ∷ acc) acc)) e
    ∙ around-append b (suc i) (flatten inside) (flatten rest) (i ∷ acc) ∙ f (around_from b (suc i) (flatten inside) (i ∷ acc))

-- outside of its two positions nothing covers a byte
none_before : (n : Nest) (p i from to b : ℕ) (acc : List ℕ) → Well n p i from to → b < from → around_from b i (flatten n) acc ≡ acc
none_before nil p i from to b acc w h = refl
none_before (node r inside rest) p i from to b acc w h =
    skip b i r inside rest acc acc (by (covers_cases b r)) (none_before inside (suc i) (suc i) r.start r.end b acc w.3 (omega (arith, w.1)))
    (none_before rest p (suc i + length (flatten inside)) r.end to b acc w.4 (omega (arith, w.1, w.2)))
  where
    by : Covers b r → covers b r ≡ false
    by (within e x y) = absurd (omega (arith, w.1))
    by (before e x) = e
    by (after e x) = e

none_after : (n : Nest) (p i from to b : ℕ) (acc : List ℕ) → Well n p i from to → to ≤ b → around_from b i (flatten n) acc ≡ acc
none_after nil p i from to b acc w h = refl
none_after (node r inside rest) p i from to b acc w h =
    let le = well_le rest p (suc i + length (flatten inside)) r.end to w.4 in
    skip b i r inside rest acc acc (by (covers_cases b r)) (none_after inside (suc i) (suc i) r.start r.end b acc w.3 (omega (arith, le)))
    (none_after rest p (suc i + length (flatten inside)) r.end to b acc w.4 h)
  where
    by : Covers b r → covers b r ≡ false
    by (within e x y) = absurd (omega (arith, well_le rest p (suc i + length (flatten inside)) r.end to w.4))
    by (before e x) = e
    by (after e x) = e

-- ---- the path of parents

get_after : (front : List AddressRecord) (r : AddressRecord) (rs : List AddressRecord) → get_or (front ++ (r ∷ rs)) (length front) no_record ≡ r
get_after [] r rs = refl
get_after (f ∷ front) r rs = get_after front r rs

-- a path of covering records, of at most so many
record PathOf (all : List AddressRecord) (many : ℕ) (ns : List ℕ) : Type 0 where
  climbs : Climbs all (first_plus ns) ns
  few : length ns ≤ many

path_widen : {all : List AddressRecord} {many many' : ℕ} {ns : List ℕ} → many ≤ many' → PathOf all many ns → PathOf all many' ns
path_widen h x = record { climbs = x.climbs; few = omega (arith, x.few) }

-- a nest that stands among all records, after those of `front`, adds to the path above it those of its records that cover the place
abbrev Adds : List AddressRecord → Nest → ℕ → ℕ → List ℕ → Type 0
Adds all n i b above =
    (front back : List AddressRecord) (many : ℕ) → all ≡ front ++ (flatten n ++ back) → length front ≡ i → PathOf all many above → PathOf all (many + height n) (around_from b i (flatten n) above)

-- what lies in the first record of a nest stands after it
inside_at : (all : List AddressRecord) (r : AddressRecord) (inside rest : Nest) (front back : List AddressRecord) → all ≡ front ++ (flatten (node r inside rest) ++ back) → all ≡ (front ++ (r ∷ [])) ++ (flatten inside ++ (flatten rest ++ back))
inside_at all r inside rest front back e =
    e ∙ ap (λ z. front ++ (r ∷ z)) (append_assoc (flatten inside) (flatten rest) back) ∙ sym (append_assoc front (r ∷ []) (flatten inside ++ (flatten rest ++ back)))

module _ (all : List AddressRecord) (r : AddressRecord) (inside rest : Nest) (p i from to b : ℕ) (above : List ℕ) (w : Well (node r inside rest) p i from to) (q : p ≡ first_plus above) where
  abbrev next : ℕ
  next = suc i + length (flatten inside)

  -- .. and so do those after
  after_it : Adds all inside (suc i) b (i ∷ above) → Adds all rest next b above → (front back : List AddressRecord) (many : ℕ) → all ≡ front ++ (flatten (node r inside rest) ++ back) → length front ≡ i
      → PathOf all many above → PathOf all (many + height (node r inside rest)) (around_from b next (flatten rest) above)
  after_it y z front back many e l x =
      path_widen (omega arith)
      (z ((front ++ (r ∷ [])) ++ flatten inside) back many (inside_at all r inside rest front back e ∙ sym (append_assoc (front ++ (r ∷ [])) (flatten inside) (flatten rest ++ back))) (simp length-append (omega arith)) x)

  node_adds : Covers b r → Adds all inside (suc i) b (i ∷ above) → Adds all rest next b above → Adds all (node r inside rest) i b above
  node_adds (within c d f) y z front back many e l x =
      let own : get_or all i no_record ≡ r =
      ap (λ z. get_or z i no_record) e ∙ ap (λ z. get_or (front ++ (r ∷ ((flatten inside ++ flatten rest) ++ back))) z no_record) (sym l) ∙ get_after front r ((flatten inside ++ flatten rest) ++ back) in
      let t : Climbs all (get_or all i no_record).parent above = rw (own, w.0, q) x.climbs in
      let inner = y (front ++ (r ∷ [])) (flatten rest ++ back) (suc many) (inside_at all r inside rest front back e) (simp length-append (omega arith)) (record { climbs = up t; few = omega (arith, x.few) }) in
      rw (take_it b i r inside rest above c (λ ns. none_before rest p next r.end to b ns w.4 f)) (path_widen (omega arith) inner)
  node_adds (before c d) y z front back many e l x =
      rw (skip b i r inside rest above (around_from b next (flatten rest) above) c (none_before inside (suc i) (suc i) r.start r.end b above w.3 d) refl) (after_it y z front back many e l x)
  node_adds (after c d) y z front back many e l x =
      rw (skip b i r inside rest above (around_from b next (flatten rest) above) c (none_after inside (suc i) (suc i) r.start r.end b above w.3 d) refl) (after_it y z front back many e l x)

adds : (all : List AddressRecord) (n : Nest) (p i from to b : ℕ) (above : List ℕ) → Well n p i from to → p ≡ first_plus above → Adds all n i b above
adds all nil p i from to b above w q = λ front back many e l x. path_widen (omega arith) x
adds all (node r inside rest) p i from to b above w q =
    node_adds all r inside rest p i from to b above w q (covers_cases b r)
    (adds all inside (suc i) (suc i) r.start r.end b (i ∷ above) w.3 refl)
    (adds all rest p (suc i + length (flatten inside)) r.end to b above w.4 q)

-- ---- of records that lie in each other

path : {from to : ℕ} {rs : List AddressRecord} (n : Nested from to rs) (place : ℕ) → PathOf rs (height n.nest) (around place rs)
path {from} {to} {rs} n place =
    let m = adds (flatten n.nest) n.nest 0 0 from to place [] n.well refl [] [] 0 (sym (append-nil (flatten n.nest))) refl (record { climbs = over; few = omega arith }) in
    rw n.flat at (path_widen {many' = height n.nest} (omega arith) m)

pub around_climbs : {from to : ℕ} {rs : List AddressRecord} → Nested from to rs → AroundClimbs rs
around_climbs n place = (path n place).climbs

-- as many records are around a place as lie in each other, at most
pub around_few : {from to : ℕ} {rs : List AddressRecord} (n : Nested from to rs) (place : ℕ) → length (around place rs) ≤ height n.nest
around_few n place = (path n place).few
