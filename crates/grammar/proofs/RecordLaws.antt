-- As many records as addresses, and the records of one address more, stored after those of a place. Assumes nothing.
use mathlib.Core.Path.{◌≡◌, refl, sym, ap, ◌∙◌}
use mathlib.Core.List.{List}
use Prim.Native.Nat.{ℕ, suc, ◌+◌, ◌*◌}
use native.Mathlib.Omega.{arith}
use lib.ListN.{length, length-append}
use lib.Seq.{sets}
use Rattle.records.specs.Believed.AddressRecords.{address_layout, address_record_size, table_bytes}
use Rattle.records.proofs.TableLaws.{stored_behind as behind}
use Rattle.grammar.specs.Executable.Trees733.{Slot, empty, comma, AddressList, idle, full, Address, mailbox, angle, group, quoted, typed}
use Rattle.grammar.proofs.Rfc733.TreeRecords.{slot_count, list_count, address_count, slot_records, list_records, inside_records, address_records}

-- ---- as many records as addresses

mutual
  pub slot_length : (r : Slot) (d p i : ℕ) → length (slot_records r d p i) ≡ slot_count r
  slot_length empty d p i = refl
  slot_length (comma l t) d p i = list_length l d p i

  pub list_length : (l : AddressList) (d p i : ℕ) → length (list_records l d p i) ≡ list_count l
  list_length (idle r) d p i = slot_length r d p i
  list_length (full r a) d p i = simp length-append (omega (arith, slot_length r d p i, inside-length a (suc d) (suc (i + slot_count r))))

  pub inside-length : (a : Address) (d i : ℕ) → suc (length (inside_records a d i)) ≡ address_count a
  inside-length (mailbox p m) d i = refl
  inside-length (angle o t l u) d i = omega (arith, list_length l d i i)
  inside-length (group o t l u) d i = omega (arith, list_length l d i i)
  inside-length (quoted t) d i = refl
  inside-length (typed t a u b) d i = omega (arith, inside-length b (suc d) (suc i))

-- ---- one record after the other

-- the records of one address more, after those of a place
pub stored_behind : (table : List ℕ) (first : ℕ) (r : Slot) (a : Address) (depth parent : ℕ)
    → sets (sets table (first * address_record_size) (table_bytes (slot_records r depth parent first))) ((first + slot_count r) * address_record_size) (table_bytes (address_records a depth parent (first + slot_count r)))
    ≡ sets table (first * address_record_size) (table_bytes (list_records (full r a) depth parent first))
stored_behind table first r a depth parent =
    let rs = slot_records r depth parent first in
    let more = address_records a depth parent (first + slot_count r) in
    ap (λ n. sets (sets table (first * address_record_size) (table_bytes rs)) ((first + n) * address_record_size) (table_bytes more)) (sym (slot_length r depth parent first))
    ∙ behind address_layout table first rs more
