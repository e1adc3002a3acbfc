-- The lines of an answer and of a lent part, one after the other. Assumes nothing.
use mathlib.Core.Path.{◌≡◌, refl, ap, ◌∙◌}
use mathlib.Core.Bool.{true, false}
use mathlib.Core.List.{List, [], ◌∷◌, ◌++◌}
use Prim.Native.Nat.{ℕ, zero, suc, ◌+◌, ◌-◌, ◌%◌, ◌≤◌, ◌<◌}
use native.Mathlib.Omega.{arith}
use borrow.Author.Tests.{eq-eqb, ne_eqb, le-leb, lt-leb}
use lib.Dec.{eqb}
use lib.Seq.{take_all}
use Rattle.octets.specs.Believed.Choice.{pick}
use Rattle.octets.specs.Believed.Answers.{number_of, position_of}
use Rattle.octets.specs.Believed.Text.{bytes}
use Rattle.octets.specs.declared.answers.Answer.{Answer}
use Rattle.vectors.specs.Ties.Puts.{Puts}
use Rattle.vectors.proofs.PutLaws.{puts_as, puts_both}
use lib.ListN.{length, get_or, take, drop, replicate, drop_of_length-le}
use Rattle.octets.proofs.Parts.{from_here}
use Rattle.octets.specs.Believed.Octets.{line_feed_byte, space_byte}
use Rattle.records.specs.Believed.AddressRecords.{record_by, address_record_size, record_in}
use Rattle.records.specs.Believed.FieldRecords.{field_of, field_record_size, field_in}
use Rattle.listing.specs.Believed.Lines.{decimal, spaced}
use Rattle.scanner.specs.Believed.Answers.{next_in_body}
use Rattle.scanner.specs.declared.Symbol.{Symbol}
use Rattle.scanner.specs.declared.Next.{Next}
use Rattle.scanner.specs.declared.Next.TheVariants.{Found, Ended, Fault}
use Rattle.vectors.specs.Believed.Answers.{line, bracketed, front_text, address_numbers, field_numbers, counted, kept_note, refuses_at, untouched_byte, untouched_number, untouched, row_line, rows, mark_of, symbol_then, symbols}

-- ---- numbers

module _ (numbers : List ℕ) (i : ℕ) (rest : List ℕ) where
  pub spaced_next : i < length numbers → spaced (drop i numbers) rest ≡ space_byte ∷ decimal (get_or numbers i 0) (spaced (drop (i + 1) numbers) rest)
  unfolding spaced
  spaced_next h = rw (from_here numbers i 0 h)

  pub spaced_end : length numbers ≤ i → spaced (drop i numbers) rest ≡ rest
  unfolding spaced
  spaced_end h = rw (drop_of_length-le numbers {i = i} h)

-- ---- lines

pub puts_line : (mark : ℕ) (numbers : List ℕ) {o p q r s t : List ℕ} {n a b c d e : ℕ}
    → Puts (λ rest. space_byte ∷ rest) o n p a → Puts (λ rest. space_byte ∷ rest) p a q b → Puts (λ rest. mark ∷ rest) q b r c → Puts (spaced numbers) r c s d → Puts (λ rest. line_feed_byte ∷ rest) s d t e
    → Puts (line mark numbers) o n t e
unfolding line
puts_line mark numbers v w x y z =
    puts_both {f = λ rest. space_byte ∷ rest} {g = λ rest. space_byte ∷ mark ∷ spaced numbers (line_feed_byte ∷ rest)} v
    (puts_both {f = λ rest. space_byte ∷ rest} {g = λ rest. mark ∷ spaced numbers (line_feed_byte ∷ rest)} w
    (puts_both {f = λ rest. mark ∷ rest} {g = λ rest. spaced numbers (line_feed_byte ∷ rest)} x
    (puts_both {f = spaced numbers} {g = λ rest. line_feed_byte ∷ rest} y z)))

-- ---- texts

-- a text in brackets
pub puts_bracketed : (text : List ℕ) {o p q r : List ℕ} {n a b c : ℕ}
    → Puts (λ rest. bytes "  [" ++ rest) o n p a → Puts (λ rest. text ++ rest) p a q b → Puts (λ rest. bytes "]\n" ++ rest) q b r c → Puts (bracketed text) o n r c
unfolding bracketed
puts_bracketed text x y z =
    puts_both {f = λ rest. bytes "  [" ++ rest} {g = λ rest. text ++ (bytes "]\n" ++ rest)} x
    (puts_both {f = λ rest. text ++ rest} {g = λ rest. bytes "]\n" ++ rest} y z)

module _ (table : List ℕ) (many : ℕ) {o p : List ℕ} {n a : ℕ} where
  pub front_none : many ≡ 0 → Puts (λ rest. rest) o n p a → Puts (front_text table many) o n p a
  unfolding front_text
  front_none e w = puts_as (λ rest. rw (eq-eqb many 0 e)) w

  pub front_part : (many ≡ 0 → ⊥) → Puts (bracketed (take many table)) o n p a → Puts (front_text table many) o n p a
  unfolding front_text
  front_part e w = puts_as (λ rest. rw (ne_eqb many 0 e)) w

  pub front_whole : (many ≡ 0 → ⊥) → length table < many → Puts (bracketed table) o n p a → Puts (front_text table many) o n p a
  front_whole e h w = front_part e (rw (take_all many table (omega arith)) w)

-- ---- answers

module _ (a : Answer) (place : ℕ) where
  pub refuses_not : {x : ℕ} → x ≡ number_of a → (x ≡ 8 → ⊥) → false ≡ refuses_at a place
  refuses_not {x} e f = rw (← e, ne_eqb x 8 f)

  pub refuses_if : {x y : ℕ} → x ≡ number_of a → x ≡ 8 → y ≡ position_of a → eqb y place ≡ refuses_at a place
  refuses_if {x} {y} e f g = rw (← e, eq-eqb x 8 f, ← g)

-- ---- records

module _ (size : ℕ) (table : List ℕ) (many from i : ℕ) (rest : List ℕ) where
  pub rows_all : rows size table many from rest ≡ rows size table (many - 0) (from + 0) rest
  rows_all =
      let e : many - 0 ≡ many = omega arith in
      let f : from + 0 ≡ from = omega arith in
      rw (e, f)

  pub rows_next : i < many → rows size table (many - i) (from + i) rest ≡ row_line size table (from + i) (rows size table (many - (i + 1)) (from + (i + 1)) rest)
  unfolding rows
  rows_next h =
      let e : many - i ≡ suc (many - (i + 1)) = omega arith in
      let f : from + i + 1 ≡ from + (i + 1) = omega arith in
      rw (e, f)

  pub rows_none : many ≤ i → rows size table (many - i) (from + i) rest ≡ rest
  unfolding rows
  rows_none h = let e : many - i ≡ 0 = omega arith in rw e

module _ (table : List ℕ) (i : ℕ) {o p : List ℕ} {n m : ℕ} where
  pub field_row : {a b c d : ℕ} → field_of a b c d ≡ field_in table i → Puts (line 42 (a ∷ b ∷ c ∷ d ∷ [])) o n p m → Puts (row_line field_record_size table i) o n p m
  unfolding row_line
  field_row e w = puts_as (λ rest. ap (λ f. line 42 (field_numbers f) rest) e) w

  pub address_row : {a b c d e f g : ℕ} → record_by a b c d e f g ≡ record_in table i → Puts (line 42 (a ∷ b ∷ c ∷ d ∷ e ∷ f ∷ g ∷ [])) o n p m → Puts (row_line address_record_size table i) o n p m
  unfolding row_line
  address_row e w = puts_as (λ rest. ap (λ r. line 42 (address_numbers r) rest) e) w

pub other_size : (size : ℕ) (table : List ℕ) (i : ℕ) {o p : List ℕ} {n m : ℕ} → (size ≡ field_record_size → ⊥) → Puts (row_line address_record_size table i) o n p m → Puts (row_line size table i) o n p m
unfolding row_line
other_size size table i e w = puts_as (λ rest. rw (ne_eqb size field_record_size e)) w

module _ (size : ℕ) (table : List ℕ) (many : ℕ) {o p : List ℕ} {n m : ℕ} where
  pub counted_bytes : size ≡ 1 → Puts (front_text table many) o n p m → Puts (counted size table many) o n p m
  unfolding counted
  counted_bytes e w = puts_as (λ rest. rw (eq-eqb size 1 e)) w

  pub counted_few : (size ≡ 1 → ⊥) → many ≤ 10 → Puts (rows size table many 0) o n p m → Puts (counted size table many) o n p m
  unfolding counted
  counted_few e h w = puts_as (λ rest. rw (ne_eqb size 1 e, le-leb many 10 h)) w

  pub counted_many : (size ≡ 1 → ⊥) → 10 < many → {q : List ℕ} {k : ℕ} → Puts (rows size table 2 0) o n q k → Puts (rows size table 2 (many - 2)) q k p m → Puts (counted size table many) o n p m
  unfolding counted
  counted_many e h w x = puts_as (λ rest. rw (ne_eqb size 1 e, lt-leb many 10 h)) (puts_both {f = rows size table 2 0} {g = rows size table 2 (many - 2)} w x)

-- ---- a room

module _ (table : List ℕ) (from : ℕ) {o p : List ℕ} {n m : ℕ} where
  pub note_none : untouched (drop from table) ≡ true → Puts (λ rest. rest) o n p m → Puts (kept_note table from) o n p m
  unfolding kept_note
  note_none e w = puts_as (λ rest. rw e) w

  pub note_one : untouched (drop from table) ≡ false → Puts (line 33 (from ∷ [])) o n p m → Puts (kept_note table from) o n p m
  unfolding kept_note
  note_one e w = puts_as (λ rest. rw e) w

module _ (room : List ℕ) (i : ℕ) where
  pub kept_next : i < length room → get_or room i 0 ≡ untouched_byte → untouched (drop i room) ≡ untouched (drop (i + 1) room)
  unfolding untouched
  kept_next h e = rw (from_here room i 0 h, eq-eqb (get_or room i 0) untouched_byte e)

  pub not_kept : i < length room → (get_or room i 0 ≡ untouched_byte → ⊥) → untouched (drop i room) ≡ false
  unfolding untouched
  not_kept h e = rw (from_here room i 0 h, ne_eqb (get_or room i 0) untouched_byte e)

  pub kept_end : length room ≤ i → untouched (drop i room) ≡ true
  unfolding untouched
  kept_end h = rw (drop_of_length-le room {i = i} h)

pub take-replicate : (m n a : ℕ) → m ≤ n → take m (replicate n a) ≡ replicate m a
take-replicate zero n a h = refl
take-replicate (suc m) zero a h = absurd (omega arith)
take-replicate (suc m) (suc n) a h = ap (λ l. a ∷ l) (take-replicate m n a (omega arith))

-- a path of the length that is asked for
pub path_is : (x : ℕ) {path : List ℕ} → path ≡ replicate 70 untouched_number → take (x % 71) path ≡ replicate (x % 71) untouched_number
path_is x e = rw e (take-replicate (x % 71) 70 untouched_number (omega arith))

-- ---- symbols

by_step : (left less : ℕ) (message : List ℕ) (at end : ℕ) (rest : List ℕ) → left ≡ suc less
    → symbols left message at end rest ≡ symbol_then (next_in_body message at end) (λ p. symbols less message p end rest) rest
unfolding symbols
by_step left less message at end rest e = rw e

module _ (left : ℕ) (message : List ℕ) (at end : ℕ) (rest : List ℕ) where
  symbols_next : 0 < left → symbols left message at end rest ≡ symbol_then (next_in_body message at end) (λ p. symbols (left - 1) message p end rest) rest
  unfolding symbols
  symbols_next h = by_step left (left - 1) message at end rest (omega arith)

  pub symbols_found : 0 < left → {symbol : Symbol} → next_in_body message at end ≡ Found symbol → symbols left message at end rest ≡ line (mark_of symbol.class) (symbol.start ∷ symbol.end ∷ symbol.length ∷ pick symbol.apart 1 0 ∷ []) (symbols (left - 1) message symbol.end end rest)
  symbols_found h e = symbols_next h ∙ ap (λ (x : Next). symbol_then x (λ p. symbols (left - 1) message p end rest) rest) e

  pub symbols_ended : 0 < left → next_in_body message at end ≡ Ended → symbols left message at end rest ≡ rest
  symbols_ended h e = symbols_next h ∙ ap (λ (x : Next). symbol_then x (λ p. symbols (left - 1) message p end rest) rest) e

  pub symbols_fault : 0 < left → {number position : ℕ} → next_in_body message at end ≡ Fault number position → symbols left message at end rest ≡ line 33 (number ∷ position ∷ []) rest
  symbols_fault h e = symbols_next h ∙ ap (λ (x : Next). symbol_then x (λ p. symbols (left - 1) message p end rest) rest) e

  pub symbols_none : left ≤ 0 → symbols left message at end rest ≡ rest
  unfolding symbols
  symbols_none h = let e : left ≡ 0 = omega arith in rw e
