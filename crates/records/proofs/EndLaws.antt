-- The end of an address record, stored again. Assumes nothing.
use mathlib.Core.Path.{◌≡◌, refl, sym, ap, ◌∙◌}
use mathlib.Core.List.{List, [], ◌∷◌, ◌++◌, append_assoc}
use Prim.Native.Nat.{ℕ, zero, suc, ◌+◌, ◌*◌, ◌<◌}
use native.Mathlib.Omega.{arith}
use lib.ListN.{length, take, drop, set, length-append}
use lib.Seq.{sets}
use Rattle.octets.specs.Believed.Numbers.{number_width}
use Rattle.octets.specs.Believed.Stored.{bytes_of}
use Rattle.octets.proofs.Parts.{sets-append, set-sets}
use Rattle.records.specs.Believed.Layout.{bytes_by}
use Rattle.records.specs.Believed.AddressRecords.{AddressRecord, address_layout, address_record_size, record_bytes, end_number, end_offset, table_bytes}
use Rattle.records.specs.Ties.Ends.{set_end}
use Rattle.records.proofs.TableLaws.{length-bytes}

set-again : (t : List ℕ) (j x y : ℕ) → set (set t j x) j y ≡ set t j y
set-again [] j x y = refl
set-again (a ∷ t) zero x y = refl
set-again (a ∷ t) (suc j) x y = ap (λ (l : List ℕ). a ∷ l) (set-again t j x y)

-- as many bytes again, at the place of others
over : (es fs bs t : List ℕ) (j : ℕ) → length es ≡ length fs → sets (sets t j (es ++ bs)) j fs ≡ sets t j (fs ++ bs)
over [] [] bs t j h = refl
over [] (f ∷ fs) bs t j h = absurd (omega arith)
over (e ∷ es) [] bs t j h = absurd (omega arith)
over (e ∷ es) (f ∷ fs) bs t j h =
    let k : set (sets (set t j e) (suc j) (es ++ bs)) j f ≡ sets (set t j f) (suc j) (es ++ bs) =
    sym (set-sets (es ++ bs) (set t j e) j (suc j) f (omega arith)) ∙ ap (λ (l : List ℕ). sets l (suc j) (es ++ bs)) (set-again t j e f) in
    ap (λ (l : List ℕ). sets l (suc j) fs) k ∙ over es fs bs (set t j f) (suc j) (omega arith)

over_at : (front es fs bs t : List ℕ) (i : ℕ) → length es ≡ length fs → sets (sets t i (front ++ (es ++ bs))) (i + length front) fs ≡ sets t i (front ++ (fs ++ bs))
over_at front es fs bs t i h =
    ap (λ (l : List ℕ). sets l (i + length front) fs) (sets-append front (es ++ bs) t i) ∙ over es fs bs (sets t i front) (i + length front) h ∙ sym (sets-append front (fs ++ bs) t i)

-- the bytes of a table around the end of a record
record Around (rs : List AddressRecord) (i e : ℕ) : Type 0 where
  front : List ℕ
  end : List ℕ
  behind : List ℕ
  before : table_bytes rs ≡ front ++ (end ++ behind)
  after : table_bytes (set_end i e rs) ≡ front ++ (bytes_of number_width e ++ behind)
  place : length front ≡ i * address_record_size + end_offset
  width : length end ≡ number_width

around : (rs : List AddressRecord) (i e : ℕ) → i < length rs → Around rs i e
around [] i e h = absurd (omega arith)
around (r ∷ rs) zero e h =
    record {
      front = bytes_by (take end_number address_layout.parts) (address_layout.numbers r);
      end = bytes_of number_width r.end;
      behind = bytes_by (drop (suc end_number) address_layout.parts) (drop (suc end_number) (address_layout.numbers r)) ++ table_bytes rs;
      before = refl;
      after = refl;
      place = refl;
      width = refl;
    }
around (r ∷ rs) (suc i) e h =
    let a = around rs i e (omega arith) in
    record {
      front = record_bytes r ++ a.front;
      end = a.end;
      behind = a.behind;
      before = ap (λ (l : List ℕ). record_bytes r ++ l) a.before ∙ sym (append_assoc (record_bytes r) a.front (a.end ++ a.behind));
      after = ap (λ (l : List ℕ). record_bytes r ++ l) a.after ∙ sym (append_assoc (record_bytes r) a.front (bytes_of number_width e ++ a.behind));
      place = omega (arith, length-append (record_bytes r) a.front, length-bytes address_layout r, a.place);
      width = a.width;
    }

-- the end of a record, stored again
pub end_stored : (t : List ℕ) (rs : List AddressRecord) (i e : ℕ) → i < length rs → sets (sets t 0 (table_bytes rs)) (i * address_record_size + end_offset) (bytes_of number_width e) ≡ sets t 0 (table_bytes (set_end i e rs))
end_stored t rs i e h =
    let a = around rs i e h in
    let n : 0 + length a.front ≡ i * address_record_size + end_offset = omega (arith, a.place) in
    let w : length a.end ≡ length (bytes_of number_width e) = a.width in
    rw (a.before, a.after, ← n) (over_at a.front a.end (bytes_of number_width e) a.behind t 0 w)
