-- What is run gives the text of its definition: each entry point by what its contract says. Assumes nothing.
use mathlib.Core.Path.{◌≡◌, sym, ◌∙◌}
use mathlib.Core.Bool.{Bool, false}
use mathlib.Core.List.{List, [], ◌∷◌, ◌++◌}
use Prim.Native.Nat.{ℕ, ◌*◌, ◌%◌}
use native.Mathlib.Omega.{arith}
use borrow.Author.Tests.{eq-eqb, ne_eqb}
use lib.IntN.{ℤ}
use Rattle.std.specs.Prelude.{Result}
use Rattle.octets.specs.declared.answers.Fault.{Fault}
use lib.ListN.{length, take, replicate}
use lib.Seq.{length-take-le}
use Rattle.octets.specs.Believed.Answers.{Answered}
use Rattle.octets.specs.Believed.Choice.{pick}
use Rattle.octets.specs.Believed.Letters.{same_bytes}
use Rattle.octets.specs.Believed.Octets.{line_feed_byte}
use Rattle.octets.specs.Believed.Stored.{number_at}
use Rattle.octets.specs.declared.answers.Answer.{Answer}
use Rattle.scanner.specs.Believed.Answers.{body_scanned}
use Rattle.header.specs.Believed.Split.{split_answer, split_table}
use Rattle.addresses.specs.Believed.Outcome.{AnsweredBy, outcome}
use Rattle.editions.specs.Believed.Outcome.{outcome_of}
use Rattle.plain.specs.Believed.Written.{plain_outcome}
use Rattle.expansion.specs.Believed.Outcome as expansion
use Rattle.expansion.specs.declared.Expanded.{Expanded}
use Rattle.dates.specs.Believed.Answers as date
use Rattle.dates.specs.Believed.Outcome.{date_answer}
use Rattle.touch.specs.Believed.Answers as touch
use Rattle.touch.specs.Believed.Touched.{touched}
use Rattle.records.specs.Believed.AddressRecords.{address_record_size}
use Rattle.records.specs.Believed.FieldRecords.{field_record_size}
use Rattle.vectors.specs.Believed.Putting.{text as text_of, putting}
use Rattle.vectors.specs.Believed.Reading.{before, behind, start_of, end_of, edition_of, place_of, room_of, decoded}
use Rattle.vectors.specs.Believed.Answers.{line, answer_line, value_line, written, counted, kept_note, given, given_by, refuses_at, symbols, untouched_byte}
use Rattle.vectors.specs.Believed.Vectors.{read_text, date_text, scan_text, touch_text, open_text, compare_text, unfit_text, vector_text, vector_with, message as message_of, parts_text, answer_of, kept_lists}
use Rattle.vectors.specs.Ties.Puts.{Puts}
use Rattle.vectors.proofs.PutLaws.{puts_as, puts_both}

-- an answer, and the lent part afterwards
pub given_parts : (size : ℕ) (r : Answer) (table : List ℕ) {many : ℕ} {o p q s : List ℕ} {n a b c : ℕ} → many ≡ written r
    → Puts (answer_line r) o n p a → Puts (counted size table many) p a q b → Puts (kept_note table (many * size)) q b s c → Puts (given size r table) o n s c
unfolding given
given_parts size r table e x y z =
    puts_both {f = answer_line r} {g = λ rest. counted size table (written r) (kept_note table (written r * size) rest)} x
    (puts_both {f = counted size table (written r)} {g = kept_note table (written r * size)} (rw e at y) (rw e at z))

module _ {o p : List ℕ} {n m : ℕ} where
  -- .. of an outcome
  pub answered_by : (size : ℕ) {answer r : Answer} {bytes after : List ℕ} → Answered answer bytes r after → Puts (given size r after) o n p m → Puts (given size answer bytes) o n p m
  answered_by size t w = rw (t.answer_is, t.bytes_are) at w

  module _ (letter : ℕ) (head message table : List ℕ) where
    pub run_addresses : letter ≡ 97 → Puts (given_by address_record_size (outcome message (start_of head) (end_of head message) table)) o n p m → Puts (read_text letter head message table) o n p m
    unfolding read_text
    run_addresses a w = puts_as (λ rest. rw (eq-eqb letter 97 a)) w

    pub run_by_table : (letter ≡ 97 → ⊥) → letter ≡ 98 → Puts (given_by address_record_size (outcome message (start_of head) (end_of head message) table)) o n p m → Puts (read_text letter head message table) o n p m
    unfolding read_text
    run_by_table a b w = puts_as (λ rest. rw (ne_eqb letter 97 a, eq-eqb letter 98 b)) w

    pub run_edition : (letter ≡ 97 → ⊥) → (letter ≡ 98 → ⊥) → letter ≡ 101
        → Puts (given_by address_record_size (outcome_of (edition_of head) message (start_of head) (end_of head message) table)) o n p m → Puts (read_text letter head message table) o n p m
    unfolding read_text
    run_edition a b c w = puts_as (λ rest. rw (ne_eqb letter 97 a, ne_eqb letter 98 b, eq-eqb letter 101 c)) w

    pub run_fields : (letter ≡ 97 → ⊥) → (letter ≡ 98 → ⊥) → (letter ≡ 101 → ⊥) → letter ≡ 102
        → Puts (given field_record_size (split_answer message table) (split_table message table)) o n p m → Puts (read_text letter head message table) o n p m
    unfolding read_text
    run_fields a b c d w = puts_as (λ rest. rw (ne_eqb letter 97 a, ne_eqb letter 98 b, ne_eqb letter 101 c, eq-eqb letter 102 d)) w

    pub run_plain : (letter ≡ 97 → ⊥) → (letter ≡ 98 → ⊥) → (letter ≡ 101 → ⊥) → (letter ≡ 102 → ⊥) → letter ≡ 112
        → Puts (given_by 1 (plain_outcome message (start_of head) (end_of head message) table)) o n p m → Puts (read_text letter head message table) o n p m
    unfolding read_text
    run_plain a b c d e w = puts_as (λ rest. rw (ne_eqb letter 97 a, ne_eqb letter 98 b, ne_eqb letter 101 c, ne_eqb letter 102 d, eq-eqb letter 112 e)) w

    pub run_nothing : (letter ≡ 97 → ⊥) → (letter ≡ 98 → ⊥) → (letter ≡ 101 → ⊥) → (letter ≡ 102 → ⊥) → (letter ≡ 112 → ⊥) → Puts (λ rest. rest) o n p m → Puts (read_text letter head message table) o n p m
    unfolding read_text
    run_nothing a b c d e w = puts_as (λ rest. rw (ne_eqb letter 97 a, ne_eqb letter 98 b, ne_eqb letter 101 c, ne_eqb letter 102 d, ne_eqb letter 112 e)) w

module _ {o p q : List ℕ} {n a b : ℕ} (head message : List ℕ) {s e : ℕ} (es : s ≡ start_of head) (ee : e ≡ end_of head message) where
  pub date_text_lem : {r : Result ℤ Fault} {x y z : ℕ} {v : ℤ} → r ≡ date_answer message s e → x ≡ date.number_of r → y ≡ date.position_of r → z ≡ date.count_of r → v ≡ date.value_of r
      → Puts (line 61 (x ∷ y ∷ z ∷ [])) o n p a → Puts (value_line v) p a q b → Puts (date_text head message) o n q b
  unfolding date_text
  date_text_lem {r} f x y z v w k =
      let g : r ≡ date_answer message (start_of head) (end_of head message) = rw (es, ee) at f in
      let d = date_answer message (start_of head) (end_of head message) in
      puts_both {f = line 61 (date.number_of d ∷ date.position_of d ∷ date.count_of d ∷ [])} {g = value_line (date.value_of d)} (rw (x, y, z, g) at w) (rw (v, g) at k)

  pub scan_text_lem : {r : Answer} → r ≡ body_scanned message s e → Puts (answer_line r) o n p a → Puts (symbols 65536 message s e) p a q b → Puts (scan_text head message) o n q b
  unfolding scan_text
  scan_text_lem {r} f w k =
      let g : r ≡ body_scanned message (start_of head) (end_of head message) = rw (es, ee) at f in
      puts_both {f = answer_line (body_scanned message (start_of head) (end_of head message))} {g = symbols 65536 message (start_of head) (end_of head message)} (rw g at w) (rw (es, ee) at k)

  pub touched_text : (path : List ℕ) {t : ℕ} {r : touch.Touched} {after : List ℕ} {v w x y z : ℕ} → t ≡ place_of head → touch.AnsweredBy (touched message s e t path) r after
      → v ≡ touch.number_of r → w ≡ touch.position_of r → x ≡ touch.count_of r → y ≡ touch.category_of r → z ≡ touch.names_of r
      → Puts (line 61 (v ∷ w ∷ x ∷ y ∷ z ∷ [])) o n p a → Puts (line 42 after) p a q b → Puts (touch_text head message path) o n q b
  unfolding touch_text
  touched_text path {r = r} {after = after} et f v w x y z k l =
      let g : touch.AnsweredBy (touched message (start_of head) (end_of head message) (place_of head) path) r after = rw (es, ee, et) at f in
      let d = (touched message (start_of head) (end_of head message) (place_of head) path).answer in
      puts_both {f = line 61 (touch.number_of d ∷ touch.position_of d ∷ touch.count_of d ∷ touch.category_of d ∷ touch.names_of d ∷ [])}
      {g = line 42 (touched message (start_of head) (end_of head message) (place_of head) path).path}
      (rw (v, w, x, y, z, g.answer_is) at k)
      (rw g.path_is at l)

  pub open_text_lem : (store room : List ℕ) {r : Expanded} {after : List ℕ} → expansion.AnsweredBy (expansion.expand_outcome message s e store room) r after
      → Puts (line 35 (r.openings ∷ [])) o n p a → Puts (given 1 r.answer after) p a q b → Puts (open_text head message store room) o n q b
  unfolding open_text
  open_text_lem store room {r} {after} f k l =
      let g : expansion.AnsweredBy (expansion.expand_outcome message (start_of head) (end_of head message) store room) r after = rw (es, ee) at f in
      let d = expansion.expand_outcome message (start_of head) (end_of head message) store room in
      puts_both {f = line 35 (d.openings ∷ [])} {g = given 1 d.answer d.text} (rw g.openings_is at k) (answered_by 1 g.answered l)

pub compare_text_lem : (message other room spare : List ℕ) {r t : Answer} {x y : List ℕ} {same : Bool} {w : ℕ} {o p q s : List ℕ} {n a b c : ℕ}
    → AnsweredBy (plain_outcome message 0 (length message) room) r x → AnsweredBy (plain_outcome other 0 (length other) spare) t y → same ≡ same_bytes x y → w ≡ pick same 1 0
    → Puts (answer_line r) o n p a → Puts (answer_line t) p a q b → Puts (line 38 (w ∷ [])) q b s c → Puts (compare_text message other room spare) o n s c
unfolding compare_text
compare_text_lem message other room spare f g e h j k l =
    let d = plain_outcome message 0 (length message) room in
    let i = plain_outcome other 0 (length other) spare in
    puts_both {f = answer_line d.answer} {g = λ rest. answer_line i.answer (line 38 (pick (same_bytes d.table i.table) 1 0 ∷ []) rest)} (rw f.answer_is at j)
    (puts_both {f = answer_line i.answer} {g = line 38 (pick (same_bytes d.table i.table) 1 0 ∷ [])} (rw g.answer_is at k) (rw (h, e, f.bytes_are, g.bytes_are) at l))

pub unfit_text_lem : (head message table : List ℕ) {x t : ℕ} {r : Answer} {after : List ℕ} {refused : Bool} {w : ℕ} {o p : List ℕ} {n a : ℕ}
    → x ≡ edition_of head → AnsweredBy (outcome_of x message 0 (length message) table) r after → t ≡ place_of head → refused ≡ refuses_at r t → w ≡ pick refused 1 0
    → Puts (line 61 (w ∷ [])) o n p a → Puts (unfit_text head message table) o n p a
unfolding unfit_text
unfit_text_lem head message table {r = r} {after = after} e f g h i w =
    let d : AnsweredBy (outcome_of (edition_of head) message 0 (length message) table) r after = rw e at f in
    rw (i, h, d.answer_is, g) at w

-- ---- a line

-- rooms of the size that is asked for
pub room-length : (x : ℕ) (space : List ℕ) → 65536 ≡ length space → length (take (x % 65536) space) ≡ x % 65536
room-length x space e = length-take-le (x % 65536) space (omega (arith, e))

-- the message that is decoded
pub message_is : (first : List ℕ) {text part x : List ℕ} → 65536 ≡ length first → part ≡ text → x ≡ take (length first) (decoded false part) → x ≡ message_of text
message_is first l e d = d ∙ rw (← l, e)

module _ (letter : ℕ) (head message other store : List ℕ) {o p : List ℕ} {n m : ℕ} where
  -- rooms as they are lent
  pub in_rooms : {room spare x y : List ℕ} → room ≡ x → spare ≡ y → Puts (vector_text letter head message other store room spare) o n p m → Puts (vector_text letter head message other store x y) o n p m
  in_rooms e f w = rw (e, f) at w

  pub with_room : {x a b : ℕ} → x ≡ room_of 4096 head → a ≡ x % 65536 → b ≡ x % 65536
      → Puts (vector_text letter head message other store (replicate a untouched_byte) (replicate b untouched_byte)) o n p m → Puts (vector_with letter head message other store) o n p m
  unfolding vector_with
  with_room e f g w = rw (f, g, e) at w

pub parts_text_lem : (letter : ℕ) (head tail store : List ℕ) {x y o p : List ℕ} {n m : ℕ} → x ≡ message_of (before 124 tail) → y ≡ message_of (behind 124 tail)
    → Puts (vector_with letter head x y store) o n p m → Puts (parts_text letter head tail store) o n p m
unfolding parts_text
parts_text_lem letter head tail store e f w = rw (e, f) at w

pub all_put : (line store : List ℕ) {letter : ℕ} {head tail o p q s : List ℕ} {n m k : ℕ} → head ≡ before 124 line → tail ≡ behind 124 line → letter ≡ number_at 1 line 0
    → Puts (λ rest. line ++ rest) o 0 p n → Puts (λ rest. line_feed_byte ∷ rest) p n q m → Puts (parts_text letter head tail store) q m s k → text_of s k ≡ putting o 0 (answer_of line store)
unfolding putting
all_put line store e f g x y z =
    let t = parts_text (number_at 1 line 0) (before 124 line) (behind 124 line) store [] in
    sym (x.same (line_feed_byte ∷ t) ∙ y.same t ∙ (rw (e, f, g) at (z.same [])))

module _ (line store : List ℕ) (used : ℕ) {x : ℕ} (e : x ≡ number_at 1 line 0) where
  pub keep_not : (x ≡ 108 → ⊥) → text_of store used ≡ kept_lists line store used
  keep_not f = rw (← e, ne_eqb x 108 f)

  pub keep_new : x ≡ 108 → {part after : List ℕ} {n : ℕ} → part ≡ behind 124 line → putting store 0 (decoded false part) ≡ text_of after n → text_of after n ≡ kept_lists line store used
  keep_new f g h = sym h ∙ rw (← e, eq-eqb x 108 f, g)
