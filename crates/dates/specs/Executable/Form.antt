-- The executable layer: a reader of the grammar, over the parts from left to right.
-- Nothing here needs to be believed: `ReadsRight` says that what it reads is the one right reading; what is answered `ByGrammar` says by the grammar alone.
use Rattle.std.specs.Prelude.{◌≡◌, ℕ, ◌+◌, ◌/◌, ◌%◌, Bool, true, false, List, [], ◌∷◌, eqb, leb, ltb, ℤ, pos, length, get_or, Option, Some, None}
use Rattle.octets.specs.Believed.Choice.{pick, either}
use Rattle.octets.specs.Believed.Classes.{letter, digit}
use Rattle.octets.specs.Believed.Octets.{plus_byte, comma_byte, minus_byte, colon_byte}
use Rattle.dates.specs.Believed.Names.{day_names, month_names, zone_names, zone_minutes, place, ahead, behind}
use Rattle.dates.specs.Believed.Parts.{Part, no_part}
use Rattle.dates.specs.Believed.Grammar.{decimal, offset_of, DateIs}
use Rattle.dates.specs.declared.form.DigitRun.{DigitRun}
use Rattle.dates.specs.declared.moment.Time.{Time}
use Rattle.dates.specs.declared.form.Written.{Written}

-- ---- the first part

unfoldable pub first_key : List Part → ℕ
first_key [] = no_part
first_key (p ∷ rest) = p.key

unfoldable pub first_bytes : List Part → List ℕ
first_bytes [] = []
first_bytes (p ∷ rest) = p.bytes

-- the parts after it
unfoldable pub after : List Part → List Part
after [] = []
after (p ∷ rest) = rest

unfoldable pub done : List Part → Bool
done [] = true
done (p ∷ rest) = false

-- ---- readers: what each reads, and the parts after it; or nothing

-- what is read of the parts after what a reader read
abbrev pub and_then : {A B : Type 0} → Option (A × List Part) → (A → List Part → Option B) → Option B
and_then None f = None
and_then (Some x) f = f x.0 x.1

-- a run of at most six digits
unfoldable pub digit_run_of : List Part → Option (DigitRun × List Part)
digit_run_of l =
    pick (eqb (first_key l) digit)
    (pick (leb (length (first_bytes l)) 6) (Some (record { count = length (first_bytes l); value = decimal (first_bytes l) }, after l)) None) None

-- one of these names
unfoldable pub name_of : List (List ℕ) → List Part → Option (ℕ × List Part)
name_of names l =
    pick (eqb (first_key l) letter)
    (pick (ltb (place names (first_bytes l)) (length names)) (Some (place names (first_bytes l), after l)) None) None

-- ---- the time of day

abbrev pub time : ℕ → ℕ → ℕ → Time
time h m s = record { hour = h; minute = m; second = s }

-- the second, a colon and two digits, or none
unfoldable pub second_after : ℕ → ℕ → List Part → Option (Time × List Part)
second_after h m l =
    pick (eqb (first_key l) colon_byte) (and_then (digit_run_of (after l)) (λ n r. pick (eqb n.count 2) (Some (time h m n.value, r)) None))
    (Some (time h m 0, l))

-- after two digits: a colon and four; or a colon, two and perhaps the second
unfoldable pub minute_after : ℕ → List Part → Option (Time × List Part)
minute_after h l =
    pick (eqb (first_key l) colon_byte)
    (and_then (digit_run_of (after l))
    (λ n r. pick (eqb n.count 4) (Some (time h (n.value / 100) (n.value % 100), r)) (pick (eqb n.count 2) (second_after h n.value r) None))) None

-- six digits; four and perhaps the second; or two and what comes after them
unfoldable pub time_of : List Part → Option (Time × List Part)
time_of l =
    and_then (digit_run_of l)
    (λ n r. pick (eqb n.count 6) (Some (time (n.value / 10000) (n.value / 100 % 100) (n.value % 100), r))
    (pick (eqb n.count 4) (second_after (n.value / 100) (n.value % 100) r) (pick (eqb n.count 2) (minute_after n.value r) None)))

-- ---- the zone: local time minus GMT, if it is in range

-- a zone of the table
unfoldable pub zone_named : List Part → Option (Option ℤ × List Part)
zone_named l = and_then (name_of zone_names l) (λ n r. Some (Some (get_or zone_minutes n (pos 0)), r))

-- four digits after a sign
unfoldable pub zone_signed : (ℕ → ℕ → ℤ) → List Part → Option (Option ℤ × List Part)
zone_signed direction l = and_then (digit_run_of l) (λ n r. pick (eqb n.count 4) (Some (offset_of direction n.value, r)) None)

unfoldable pub zone_of : List Part → Option (Option ℤ × List Part)
zone_of l =
    pick (eqb (first_key l) plus_byte) (zone_signed ahead (after l))
    (pick (eqb (first_key l) minus_byte) (pick (eqb (first_key (after l)) digit) (zone_signed behind (after l)) (zone_named (after l))) (zone_named l))

-- ---- the date

-- a day's name and a comma; or neither
abbrev pub comma_after : List Part → Option (ℕ × List Part) → Option (Option ℕ × List Part)
comma_after l None = Some (None, l)
comma_after l (Some x) = pick (eqb (first_key x.1) comma_byte) (Some (Some x.0, after x.1)) None

unfoldable pub day_name_of : List Part → Option (Option ℕ × List Part)
day_name_of l = comma_after l (name_of day_names l)

unfoldable pub day_of : List Part → Option (ℕ × List Part)
day_of l = and_then (digit_run_of l) (λ n r. pick (either (eqb n.count 1) (eqb n.count 2)) (Some (n.value, r)) None)

unfoldable pub year_of : List Part → Option (ℕ × List Part)
year_of l = and_then (digit_run_of l) (λ n r. pick (eqb n.count 2) (Some (n.value + 1900, r)) (pick (eqb n.count 4) (Some (n.value, r)) None))

-- past a "-" that may stand there
unfoldable pub past_dash : List Part → List Part
past_dash l = pick (eqb (first_key l) minus_byte) (after l) l

-- the day's name, the day, the month, the year, the time and the zone
unfoldable pub reading_of : List Part → Option Written
reading_of l =
    and_then (day_name_of l)
    (λ name r. and_then (day_of r)
    (λ day r. and_then (name_of month_names (past_dash r))
    (λ month r. and_then (year_of (past_dash r))
    (λ year r. and_then (time_of r)
    (λ t r. and_then (zone_of r)
    (λ zone r. pick (done r) (Some (record { name = name; day = record { year = year; month = month; day = day }; time = t; zone = zone })) None))))))

-- ---- what it reads is the one right reading

pub record RightReading (l : List Part) (r : Option Written) : Type 0 where
  -- a date exactly if the grammar derives it
  pub derived : (w : Written) → r ≡ Some w → DateIs l w
  pub read : (w : Written) → DateIs l w → r ≡ Some w
  -- wrong exactly if the grammar derives none
  pub underived : r ≡ None → (w : Written) → DateIs l w → ⊥
  pub unread : ((w : Written) → DateIs l w → ⊥) → r ≡ None

-- whatever the parts are
abbrev pub ReadsRight : Type 0
ReadsRight = (l : List Part) → RightReading l (reading_of l)
