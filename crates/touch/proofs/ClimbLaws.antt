-- What the functions that look at the tool's own table find. Assumes nothing.
use mathlib.Core.Path.{◌≡◌, refl, sym, ap, ◌∙◌}
use mathlib.Core.Bool.{Bool, true, false}
use mathlib.Core.List.{List, [], ◌∷◌}
use Prim.Native.Nat.{ℕ, zero, suc, ◌+◌, ◌-◌, ◌≤◌, ◌<◌}
use native.Mathlib.Numerals.{add-one}
use native.Mathlib.Omega.{arith}
use lib.ListN.{length, get_or, set}
use lib.Seq.{sets}
use Rattle.octets.specs.Believed.Choice.{pick}
use Rattle.records.specs.Believed.AddressRecords.{AddressRecord, no_record, record_in}
use Rattle.touch.specs.Believed.Around.{covers, around_from, around, first_plus, Climbs, over, up}
use Rattle.std.specs.Prelude.{Option, Some, None, MatchOption}
use Rattle.touch.specs.Ties.Climbing.{NonePass, LastToPass, LastAroundIs, Holds, MayClimb}

-- ---- the last record that covers a place

abbrev covered : ℕ → List AddressRecord → ℕ → Bool
covered place rs i = covers place (get_or rs i no_record)

none_around : (place next : ℕ) (rs : List AddressRecord) (sofar : List ℕ) → NonePass (covered place rs) 0 (length rs) → around_from place next rs sofar ≡ sofar
none_around place next [] sofar h = refl
none_around place next (r ∷ rs) sofar h =
    let e : covers place r ≡ false = h 0 (omega arith) (omega arith) in
    rw e (none_around place (suc next) rs sofar (λ i f l. h (suc i) (omega arith) (omega arith)))

last_first : (place next : ℕ) (rs : List AddressRecord) (sofar : List ℕ) (n : ℕ) → LastToPass (covered place rs) (length rs) n → first_plus (around_from place next rs sofar) ≡ next + n + 1
last_first place next [] sofar n h = absurd (omega (arith, h.0))
last_first place next (r ∷ rs) sofar zero h =
    let e : covers place r ≡ true = h.1 in
    rw (e, none_around place (suc next) rs (next ∷ sofar) (λ i f l. h.2 (suc i) (omega arith) (omega arith))) (omega arith)
last_first place next (r ∷ rs) sofar (suc n) h =
    last_first place (suc next) rs (pick (covers place r) (next ∷ sofar) sofar) n (omega (arith, h.0), h.1, λ i f l. h.2 (suc i) (omega arith) (omega arith)) ∙ omega arith

-- .. as a parent is written: its number plus 1, or 0
pub last_parent : {table : List ℕ} {many : ℕ} {rs : List AddressRecord} (place : ℕ) (r : Option ℕ) {last : ℕ} → Holds table many rs → LastAroundIs table many place r → MatchOption r (last ≡ 0) (λ n. last ≡ n + 1)
    → last ≡ first_plus (around place rs)
last_parent {table} {many} {rs} place None h l e =
    let none : NonePass (covered place rs) 0 (length rs) = λ i f k. ap (covers place) (sym (h.are i (omega (arith, h.many_is)))) ∙ l i f (omega (arith, h.many_is)) in
    e ∙ rw (none_around place 0 rs [] none)
last_parent {table} {many} {rs} place (Some n) h l e =
    let t : covered place rs n ≡ true = ap (covers place) (sym (h.are n l.0)) ∙ l.1 in
    let none : NonePass (covered place rs) (n + 1) (length rs) = λ i f k. ap (covers place) (sym (h.are i (omega (arith, h.many_is)))) ∙ l.2 i f (omega (arith, h.many_is)) in
    e ∙ sym (last_first place 0 rs [] n (omega (arith, l.0, h.many_is), t, none) ∙ omega arith)

pub last_low : (table : List ℕ) (many place : ℕ) (r : Option ℕ) {last : ℕ} → LastAroundIs table many place r → MatchOption r (last ≡ 0) (λ n. last ≡ n + 1) → last ≤ many
last_low table many place None l e = omega arith
last_low table many place (Some n) l e = omega (arith, l.0)

-- ---- climbing

climbs_none : {rs : List AddressRecord} {parent : ℕ} {ns : List ℕ} → Climbs rs parent ns → parent ≡ 0 → ns ≡ []
climbs_none over e = refl
climbs_none (up c) e = absurd (omega arith)

record Up (rs : List AddressRecord) (parent : ℕ) (ns : List ℕ) : Type 0 where
  rest : List ℕ
  is : ns ≡ (parent - 1) ∷ rest
  climbs : Climbs rs (get_or rs (parent - 1) no_record).parent rest

climbs_up : {rs : List AddressRecord} {parent : ℕ} {ns : List ℕ} → Climbs rs parent ns → (parent ≡ 0 → ⊥) → Up rs parent ns
climbs_up over h = absurd (h refl)
climbs_up {rs} (up {n} {ns} c) h = let e : n ≡ suc n - 1 = omega arith in record { rest = ns; is = ap (λ m. m ∷ ns) e; climbs = rw (← e) c }

pub climb_over : {rs : List AddressRecord} {parent at : ℕ} {ns path : List ℕ} → Climbs rs parent ns → parent ≡ 0 → (path ≡ sets path at ns) × (at ≡ at + length ns)
climb_over c e = let n = climbs_none c e in (rw n, rw n (omega arith))

-- one step up: the parent of a record that is held is smaller
pub climb_parent : {table : List ℕ} {parent at p : ℕ} → MayClimb table parent at → (parent ≡ 0 → ⊥) → p ≡ (record_in table (parent - 1)).parent → (p < parent) × MayClimb table p (at + 1)
climb_parent {table} {parent} {at} {p} m h e =
    let l : parent - 1 < m.many = omega (arith, m.within) in
    let q : p ≡ (get_or m.rs (parent - 1) no_record).parent = e ∙ ap (λ (r : AddressRecord). r.parent) (m.holds.are (parent - 1) l) in
    let s : p ≤ parent - 1 = rw q (m.holds.parents (parent - 1) l) in
    (omega arith, record { many = m.many; rs = m.rs; holds = m.holds; within = omega (arith, m.within); room = omega (arith, m.room) })

-- .. and the path has one number more
pub climb_on : (path : List ℕ) (at : ℕ) {table : List ℕ} {many parent p r : ℕ} {rs : List AddressRecord} {ns first after : List ℕ} → Holds table many rs → parent ≤ many → (parent ≡ 0 → ⊥) → p ≡ (record_in table (parent - 1)).parent
    → first ≡ set path at (parent - 1) → ((ns' : List ℕ) → p ≤ many → Climbs rs p ns' → (after ≡ sets first (at + 1) ns') × (r ≡ at + 1 + length ns'))
    → Climbs rs parent ns → (after ≡ sets path at ns) × (r ≡ at + length ns)
climb_on path at {parent = parent} {p = p} {rs = rs} {first = first} h l z e f g c =
    let u = climbs_up c z in
    let q : p ≡ (get_or rs (parent - 1) no_record).parent = e ∙ ap (λ (r : AddressRecord). r.parent) (h.are (parent - 1) (omega arith)) in
    let low : p ≤ parent - 1 = rw q (h.parents (parent - 1) (omega arith)) in
    let (a, b) = g u.rest (omega arith) (rw q u.climbs) in
    let n : List ℕ = (parent - 1) ∷ u.rest in
    let s : sets first (at + 1) u.rest ≡ sets path at n = rw (f, add-one at) in
    (a ∙ s ∙ ap (sets path at) (sym u.is), omega (arith, b, ap length u.is))
