-- The reader reads what the grammar derives, as it derives it, and nothing else; so what the grammar derives is unique. Assumes nothing.
use mathlib.Core.Path.{◌≡◌, refl, sym, ap, subst, ◌∙◌}
use mathlib.Core.Bool.{Bool, true, false}
use mathlib.Core.List.{List, [], ◌∷◌}
use Prim.Native.Nat.{ℕ, ◌/◌, ◌%◌, ◌<◌}
use native.Mathlib.Omega.{arith}
use lib.Dec.{eqb, ltb, leb}
use lib.IntN.{ℤ, pos}
use lib.ListN.{length, get_or}
use Rattle.std.specs.Prelude.{Option, Some, None}
use borrow.Author.Tests.{eqb-true, ltb-true, lt-ltb}
use Rattle.octets.specs.Believed.Choice.{pick}
use Rattle.octets.specs.Believed.Classes.{letter, digit}
use Rattle.octets.specs.Believed.Octets.{plus_byte, comma_byte, minus_byte, colon_byte}
use Rattle.dates.specs.Believed.Names.{day_names, month_names, zone_names, zone_minutes, place, ahead, behind}
use Rattle.dates.specs.Believed.Parts.{Part, no_part}
use Rattle.dates.specs.Believed.Grammar.{num, offset_of, Digits, Name, DayNameIs, day_name, no_day_name, DashIs, dash, no_dash, DayIs, one_digit, two_digits, MonthIs, month, YearIs, short_year, full_year, HourIs, four, six, two_two, two_four, four_two, two_two_two, ZoneIs, zone_name, dashed_name, east, west, DateIs, date}
use Rattle.dates.specs.Executable.Form.{first_key, first_bytes, after, done, and_then, digit_run_of, name_of, time, second_after, minute_after, time_of, zone_named, zone_signed, zone_of, comma_after, day_name_of, day_of, year_of, past_dash, reading_of, ReadsRight}
use Rattle.dates.specs.declared.form.DigitRun.{DigitRun}
use Rattle.dates.specs.declared.moment.Time.{Time}
use Rattle.dates.specs.declared.form.Written.{Written}

-- ---- what the grammar derives is read

read_zone : {l : List Part} {offset : Option ℤ} → ZoneIs l offset → zone_of l ≡ Some (offset, [])
unfolding zone_of zone_signed zone_named digit_run_of name_of first_key first_bytes after
read_zone (zone_name n) = rw (n.run, n.called, lt-ltb _ _ n.known)
read_zone (dashed_name e n) = rw (e, n.run, n.called, lt-ltb _ _ n.known)
read_zone (east e d) = rw (e, d.run, d.many)
read_zone (west e d) = rw (e, d.run, d.many)

-- a zone does not start with a colon
zone_starts : {l : List Part} {offset : Option ℤ} → ZoneIs l offset → eqb (first_key l) colon_byte ≡ false
unfolding first_key
zone_starts (zone_name n) = rw n.run
zone_starts (dashed_name e n) = rw e
zone_starts (east e d) = rw e
zone_starts (west e d) = rw e

read_time : {l r : List Part} {h m s : ℕ} → HourIs l h m s r → eqb (first_key r) colon_byte ≡ false → time_of l ≡ Some (time h m s, r)
unfolding time_of minute_after second_after digit_run_of first_key first_bytes after
read_time (four d) c = rw (d.run, d.many, c)
read_time (six d) c = rw (d.run, d.many)
read_time (two_two d e f) c = rw (d.run, d.many, e, f.run, f.many, c)
read_time (two_four d e f) c = rw (d.run, d.many, e, f.run, f.many)
read_time (four_two d e f) c = rw (d.run, d.many, e, f.run, f.many)
read_time (two_two_two d e f g k) c = rw (d.run, d.many, e, f.run, f.many, g, k.run, k.many)

read_year : {l r : List Part} {y : ℕ} → YearIs l y r → year_of l ≡ Some (y, r)
unfolding year_of digit_run_of first_key first_bytes after
read_year (short_year e) = rw (e.run, e.many)
read_year (full_year e) = rw (e.run, e.many)

-- neither a year nor a month starts with a "-"
year_starts : {l r : List Part} {y : ℕ} → YearIs l y r → eqb (first_key l) minus_byte ≡ false
unfolding first_key
year_starts (short_year e) = rw e.run
year_starts (full_year e) = rw e.run

month_starts : {l r : List Part} {m : ℕ} → MonthIs l m r → eqb (first_key l) minus_byte ≡ false
unfolding first_key
month_starts (month e) = rw e.run

read_dash : {l r : List Part} → DashIs l r → eqb (first_key r) minus_byte ≡ false → past_dash l ≡ r
unfolding past_dash first_key after
read_dash (dash e) c = rw e
read_dash no_dash c = rw c

read_month : {l r : List Part} {m : ℕ} → MonthIs l m r → name_of month_names l ≡ Some (m, r)
unfolding name_of first_key first_bytes after
read_month (month n) = rw (n.run, n.called, lt-ltb _ _ n.known)

read_day : {l r : List Part} {d : ℕ} → DayIs l d r → day_of l ≡ Some (d, r)
unfolding day_of digit_run_of first_key first_bytes after
read_day (one_digit e) = rw (e.run, e.many)
read_day (two_digits e) = rw (e.run, e.many)

-- a day starts with no name
day_starts : {l r : List Part} {d : ℕ} → DayIs l d r → day_name_of l ≡ Some (None, l)
unfolding day_name_of name_of first_key
day_starts (one_digit e) = rw e.run
day_starts (two_digits e) = rw e.run

read_day_name : {l r q : List Part} {name : Option ℕ} {d : ℕ} → DayNameIs l name r → DayIs r d q → day_name_of l ≡ Some (name, r)
unfolding day_name_of name_of first_key first_bytes after
read_day_name (day_name n e) x = rw (n.run, n.called, lt-ltb _ _ n.known, e)
read_day_name no_day_name x = day_starts x

-- a derivation is read as its date
complete : {l : List Part} {w : Written} → DateIs l w → reading_of l ≡ Some w
unfolding reading_of done
complete (date n x f g k y h z) =
    rw (read_day_name n x, read_day x, read_dash f (month_starts g), read_month g, read_dash k (year_starts y), read_year y, read_time h (zone_starts z), read_zone z)

-- ---- what is read the grammar derives

-- a property of the one of two that a test picks
pick_eq : {A : Type 0} (Q : A → Type 0) (a b : ℕ) {x y : A} → (a ≡ b → Q x) → Q y → Q (pick (eqb a b) x y)
pick_eq {A} Q a b {x} {y} f g = go (eqb a b) refl
  where
    go : (t : Bool) → eqb a b ≡ t → Q (pick t x y)
    go true e = f (eqb-true a b e)
    go false e = g

pick_lt : {A : Type 0} (Q : A → Type 0) (a b : ℕ) {x y : A} → (a < b → Q x) → Q y → Q (pick (ltb a b) x y)
pick_lt {A} Q a b {x} {y} f g = go (ltb a b) refl
  where
    go : (t : Bool) → ltb a b ≡ t → Q (pick t x y)
    go true e = f (ltb-true a b e)
    go false e = g

-- what a reader reads, if it reads, has a property
abbrev Right : {A : Type 0} → (A → List Part → Type 0) → Option (A × List Part) → Type 0
Right P None = Unit {0}
Right P (Some x) = P x.0 x.1

-- and so has what is read after it
right_then : {A B : Type 0} (P : A → List Part → Type 0) (Q : Option B → Type 0) (x : Option (A × List Part)) {f : A → List Part → Option B}
    → Right P x → Q None → ((a : A) (r : List Part) → P a r → Q (f a r)) → Q (and_then x f)
right_then P Q None p none g = none
right_then P Q (Some x) p none g = g x.0 x.1 p

-- a first part that is a run of digits
abbrev Runs : List Part → DigitRun → List Part → Type 0
Runs l n r = (p : Part) × (l ≡ p ∷ r) × Digits n.count p × (n.value ≡ num p)

run_right : (l : List Part) → Right (Runs l) (digit_run_of l)
unfolding digit_run_of first_key first_bytes after
run_right [] = tt
run_right (p ∷ r) =
    pick_eq (Right (Runs (p ∷ r))) p.key digit (λ e. go e (leb (length p.bytes) 6)) tt
  where
    go : p.key ≡ digit → (t : Bool) → Right (Runs (p ∷ r)) (pick t (Some (record { count = length p.bytes; value = num p }, r)) None)
    go e true = (p, refl, record { run = e; many = refl }, refl)
    go e false = tt

-- a first part that is one of these names
abbrev Names : List (List ℕ) → List Part → ℕ → List Part → Type 0
Names names l n r = (p : Part) × (l ≡ p ∷ r) × Name names n p

name_right : (names : List (List ℕ)) (l : List Part) → Right (Names names l) (name_of names l)
unfolding name_of first_key first_bytes after
name_right names [] = tt
name_right names (p ∷ r) =
    pick_eq (Right (Names names (p ∷ r))) p.key letter
    (λ e. pick_lt (Right (Names names (p ∷ r))) (place names p.bytes) (length names) (λ h. (p, refl, record { run = e; called = refl; known = h })) tt) tt

-- a mark, and what comes after it
mark_right : {A : Type 0} (Q : A → Type 0) (r : List Part) (mark : ℕ) {x y : A} → ((c : Part) (z : List Part) → r ≡ c ∷ z → c.key ≡ mark → Q x) → (no_part ≡ mark → ⊥) → Q y
    → Q (pick (eqb (first_key r) mark) x y)
unfolding first_key
mark_right Q [] mark {x} {y} f n g = pick_eq Q no_part mark (λ e. absurd (n e)) g
mark_right Q (c ∷ z) mark {x} {y} f n g = pick_eq Q c.key mark (λ e. f c z refl e) g

abbrev TimeOf : List Part → Time → List Part → Type 0
TimeOf l t r = HourIs l t.hour t.minute t.second r

-- a second after a colon, or none
second_right : (l : List Part) (h m : ℕ) (r : List Part) → HourIs l h m 0 r
    → ((c q : Part) (z : List Part) → r ≡ c ∷ q ∷ z → c.key ≡ colon_byte → Digits 2 q → HourIs l h m (num q) z) → Right (TimeOf l) (second_after h m r)
unfolding second_after after
second_right l h m r x f =
    mark_right (Right (TimeOf l)) r colon_byte
    (λ c z w e. rw w
    (right_then (Runs z) (Right (TimeOf l)) (digit_run_of z) (run_right z) tt
    (λ n y k. pick_eq (Right (TimeOf l)) n.count 2 (λ g. rw k.3 (f c k.0 y (w ∙ ap (λ (v : List Part). c ∷ v) k.1) e (rw g at k.2))) tt))) (omega arith) x

minute_right : (p : Part) (r : List Part) → Digits 2 p → Right (TimeOf (p ∷ r)) (minute_after (num p) r)
unfolding minute_after after
minute_right p r d =
    mark_right (Right (TimeOf (p ∷ r))) r colon_byte
    (λ c z w e. rw w
    (right_then (Runs z) (Right (TimeOf (p ∷ c ∷ z))) (digit_run_of z) (run_right z) tt
    (λ n y k. rw (k.1, k.3)
    (pick_eq (Right (TimeOf (p ∷ c ∷ k.0 ∷ y))) n.count 4 (λ g. two_four d e (rw g at k.2))
    (pick_eq (Right (TimeOf (p ∷ c ∷ k.0 ∷ y))) n.count 2
    (λ g. let q : Digits 2 k.0 = rw g at k.2 in
    second_right (p ∷ c ∷ k.0 ∷ y) (num p) (num k.0) y (two_two d e q) (λ c' s z' w' e' d'. rw w' (two_two_two d e q e' d'))) tt))))) (omega arith) tt

time_right : (l : List Part) → Right (TimeOf l) (time_of l)
unfolding time_of
time_right l =
    right_then (Runs l) (Right (TimeOf l)) (digit_run_of l) (run_right l) tt
    (λ n r k. rw (k.1, k.3)
    (pick_eq (Right (TimeOf (k.0 ∷ r))) n.count 6 (λ g. six (rw g at k.2))
    (pick_eq (Right (TimeOf (k.0 ∷ r))) n.count 4
    (λ g. let d : Digits 4 k.0 = rw g at k.2 in second_right (k.0 ∷ r) (num k.0 / 100) (num k.0 % 100) r (four d) (λ c s z w e f. rw w (four_two d e f)))
    (pick_eq (Right (TimeOf (k.0 ∷ r))) n.count 2 (λ g. minute_right k.0 r (rw g at k.2)) tt))))

-- a zone is one if nothing follows it
abbrev ZoneOf : List Part → Option ℤ → List Part → Type 0
ZoneOf l offset r = r ≡ [] → ZoneIs l offset

zone_name_right : (l q : List Part) → ((p : Part) (z : ℕ) → q ≡ p ∷ [] → Name zone_names z p → ZoneIs l (Some (get_or zone_minutes z (pos 0)))) → Right (ZoneOf l) (zone_named q)
unfolding zone_named
zone_name_right l q f =
    right_then (Names zone_names q) (Right (ZoneOf l)) (name_of zone_names q) (name_right zone_names q) tt
    (λ n r k w. f k.0 n (k.1 ∙ ap (λ (x : List Part). k.0 ∷ x) w) k.2)

signed_right : (l q : List Part) (direction : ℕ → ℕ → ℤ) → ((p : Part) → q ≡ p ∷ [] → Digits 4 p → ZoneIs l (offset_of direction (num p))) → Right (ZoneOf l) (zone_signed direction q)
unfolding zone_signed
signed_right l q direction f =
    right_then (Runs q) (Right (ZoneOf l)) (digit_run_of q) (run_right q) tt
    (λ n r k. pick_eq (Right (ZoneOf l)) n.count 4 (λ g. rw k.3 (λ w. f k.0 (k.1 ∙ ap (λ (x : List Part). k.0 ∷ x) w) (rw g at k.2))) tt)

zone_right : (l : List Part) → Right (ZoneOf l) (zone_of l)
unfolding zone_of zone_named name_of first_key after
zone_right [] = tt
zone_right (s ∷ r) =
    pick_eq (Right (ZoneOf (s ∷ r))) s.key plus_byte
    (λ e. signed_right (s ∷ r) r ahead (λ p w d. subst (λ (x : List Part). ZoneIs (s ∷ x) (offset_of ahead (num p))) (sym w) (east e d)))
    (pick_eq (Right (ZoneOf (s ∷ r))) s.key minus_byte
    (λ e. pick_eq (Right (ZoneOf (s ∷ r))) (first_key r) digit
    (λ g. signed_right (s ∷ r) r behind (λ p w d. subst (λ (x : List Part). ZoneIs (s ∷ x) (offset_of behind (num p))) (sym w) (west e d)))
    (zone_name_right (s ∷ r) r (λ p z w n. subst (λ (x : List Part). ZoneIs (s ∷ x) (Some (get_or zone_minutes z (pos 0)))) (sym w) (dashed_name e n))))
    (zone_name_right (s ∷ r) (s ∷ r) (λ p z w n. subst (λ (x : List Part). ZoneIs x (Some (get_or zone_minutes z (pos 0)))) (sym w) (zone_name n))))

day_name_right : (l : List Part) → Right (DayNameIs l) (day_name_of l)
unfolding day_name_of after
day_name_right l = go (name_of day_names l) (name_right day_names l)
  where
    go : (x : Option (ℕ × List Part)) → Right (Names day_names l) x → Right (DayNameIs l) (comma_after l x)
    go None y = no_day_name
    go (Some x) y = mark_right (Right (DayNameIs l)) x.1 comma_byte (λ c z w e. rw (y.1, w) (day_name y.2 e)) (omega arith) tt

day_right : (l : List Part) → Right (DayIs l) (day_of l)
unfolding day_of
day_right l =
    right_then (Runs l) (Right (DayIs l)) (digit_run_of l) (run_right l) tt
    (λ n r k. rw (k.1, k.3)
    (pick_eq (λ (t : Bool). Right (DayIs (k.0 ∷ r)) (pick t (Some (num k.0, r)) None)) n.count 1 {x = true} {y = eqb n.count 2} (λ g. one_digit (rw g at k.2))
    (pick_eq (Right (DayIs (k.0 ∷ r))) n.count 2 (λ g. two_digits (rw g at k.2)) tt)))

month_right : (l : List Part) → Right (MonthIs l) (name_of month_names l)
month_right l = go (name_of month_names l) (name_right month_names l)
  where
    go : (x : Option (ℕ × List Part)) → Right (Names month_names l) x → Right (MonthIs l) x
    go None y = tt
    go (Some x) y = rw y.1 (month y.2)

year_right : (l : List Part) → Right (YearIs l) (year_of l)
unfolding year_of
year_right l =
    right_then (Runs l) (Right (YearIs l)) (digit_run_of l) (run_right l) tt
    (λ n r k. rw (k.1, k.3)
    (pick_eq (Right (YearIs (k.0 ∷ r))) n.count 2 (λ g. short_year (rw g at k.2))
    (pick_eq (Right (YearIs (k.0 ∷ r))) n.count 4 (λ g. full_year (rw g at k.2)) tt)))

dash_right : (l : List Part) → DashIs l (past_dash l)
unfolding past_dash first_key after
dash_right [] = no_dash
dash_right (p ∷ r) = pick_eq (λ q. DashIs (p ∷ r) q) p.key minus_byte (λ e. dash e) no_dash

abbrev ReadingOk : List Part → Option Written → Type 0
ReadingOk l None = Unit {0}
ReadingOk l (Some w) = DateIs l w

-- nothing comes after a date
ends : (l : List Part) {w : Written} (r : List Part) → (r ≡ [] → DateIs l w) → ReadingOk l (pick (done r) (Some w) None)
unfolding done
ends l [] f = f refl
ends l (p ∷ r) f = tt

reading_right : (l : List Part) → ReadingOk l (reading_of l)
unfolding reading_of
reading_right l =
    right_then (DayNameIs l) (ReadingOk l) (day_name_of l) (day_name_right l) tt
    (λ name r₁ a. right_then (DayIs r₁) (ReadingOk l) (day_of r₁) (day_right r₁) tt
    (λ d r₂ b. right_then (MonthIs (past_dash r₂)) (ReadingOk l) (name_of month_names (past_dash r₂)) (month_right (past_dash r₂)) tt
    (λ m r₃ c. right_then (YearIs (past_dash r₃)) (ReadingOk l) (year_of (past_dash r₃)) (year_right (past_dash r₃)) tt
    (λ y r₄ e. right_then (TimeOf r₄) (ReadingOk l) (time_of r₄) (time_right r₄) tt
    (λ t r₅ g. right_then (ZoneOf r₅) (ReadingOk l) (zone_of r₅) (zone_right r₅) tt
    (λ z r₆ k. ends l r₆ (λ w. date a b (dash_right r₂) c (dash_right r₃) e g (k w))))))))

-- what is read as a date is derived
sound : (l : List Part) (w : Written) → reading_of l ≡ Some w → DateIs l w
sound l w e = subst (λ (x : Option Written). ReadingOk l x) e (reading_right l)

-- where nothing is read nothing is derived
refused : (l : List Part) → reading_of l ≡ None → (w : Written) → DateIs l w → ⊥
refused l e w x = let c : reading_of l ≡ Some w = complete x in let z : ◌≡◌ {A = ℕ} 0 1 = cc in omega arith

-- where nothing is derived nothing is read
not_read : (l : List Part) → ((w : Written) → DateIs l w → ⊥) → reading_of l ≡ None
not_read l n = go (reading_of l) (λ w e. n w (sound l w e))
  where
    go : (r : Option Written) → ((w : Written) → r ≡ Some w → ⊥) → r ≡ None
    go None n = refl
    go (Some w) n = absurd (n w refl)

pub reads_right : ReadsRight
reads_right l = record { derived = sound l; read = λ w x. complete x; underived = refused l; unread = not_read l }

-- parts write one date
pub unique : (l : List Part) (w v : Written) → DateIs l w → DateIs l v → w ≡ v
unique l w v x y = let c : reading_of l ≡ Some w = complete x in let d : reading_of l ≡ Some v = complete y in cc
