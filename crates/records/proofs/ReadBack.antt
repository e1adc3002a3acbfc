-- Records that are stored at the front of a table, and whose numbers fit their parts, are read back, over any layout. Assumes nothing.
use mathlib.Core.Path.{◌≡◌, refl, sym, ap, ap₂, ◌∙◌}
use mathlib.Core.List.{List, [], ◌∷◌}
use Prim.Native.Nat.{ℕ, zero, suc, ◌+◌, ◌*◌, ◌^◌, ◌≤◌, ◌<◌}
use native.Mathlib.Nat.{suc-mul, mul-le-mul_right}
use native.Mathlib.Omega.{arith}
use lib.ListN.{length, get_or, drop}
use lib.Seq.{sets, get_or-take, get_or-drop}
use Rattle.octets.specs.Believed.Numbers.{number_width}
use Rattle.octets.specs.Believed.Stored.{bytes_at}
use Rattle.octets.proofs.Parts.{part-sets}
use Rattle.records.specs.Believed.Layout.{Layout, size_in, bytes_in, table_in, record_with}
use Rattle.records.specs.Believed.FieldRecords.{Field, no_field, field_layout, field_record_size, field_table, field_in}
use Rattle.records.specs.Believed.AddressRecords.{AddressRecord, no_record, address_layout, address_record_size, table_bytes, record_in}
use Rattle.records.proofs.LayoutLaws.{bytes_first, bytes_second, Fit, numbers_back}
use Rattle.records.proofs.TableLaws.{length-bytes, length-table}

-- a run that is stored is read back, byte by byte
byte_back : (run table : List ℕ) (i k : ℕ) → i + length run ≤ length table → k < length run → get_or (sets table i run) (i + k) 0 ≡ get_or run k 0
byte_back run table i k h l =
    sym (get_or-drop i (sets table i run) k 0)
    ∙ sym (get_or-take (length run) (drop i (sets table i run)) k 0 l)
    ∙ ap (λ (x : List ℕ). get_or x k 0) (part-sets run table i h)

bytes_back : (width : ℕ) (run table : List ℕ) (i k : ℕ) → i + length run ≤ length table → k + width ≤ length run
    → bytes_at width (sets table i run) (i + k) ≡ bytes_at width run k
bytes_back zero run table i k h l = refl
bytes_back (suc width) run table i k h l =
    let e : i + k + 1 ≡ i + (k + 1) = omega arith in
    ap₂ (λ b bytes. b ∷ bytes) (byte_back run table i k h (omega arith)) (rw e (bytes_back width run table i (k + 1) h (omega arith)))

module _ {A : Type 0} (layout : Layout A) where
  -- the bytes of a record among those of all
  table_at : (d : A) (rs : List A) (i width k : ℕ) → i < length rs → k + width ≤ size_in layout
      → bytes_at width (table_in layout rs) (i * size_in layout + k) ≡ bytes_at width (bytes_in layout (get_or rs i d)) k
  table_at d [] i width k l h = absurd (omega arith)
  table_at d (r ∷ rs) zero width k l h =
      let e : zero * size_in layout + k ≡ k = omega arith in
      rw e (bytes_first width (bytes_in layout r) (table_in layout rs) k (omega (arith, length-bytes layout r)))
  table_at d (r ∷ rs) (suc i) width k l h =
      let e : suc i * size_in layout + k ≡ length (bytes_in layout r) + (i * size_in layout + k) = omega (arith, length-bytes layout r, suc-mul i (size_in layout)) in
      rw e (bytes_second width (bytes_in layout r) (table_in layout rs) (i * size_in layout + k) ∙ table_at d rs i width k (omega arith) h)

  -- a record whose numbers fit
  pub record_back : ((r : A) → layout.from (layout.numbers r) ≡ r) → (d : A) (rs : List A) (table : List ℕ) → length rs * size_in layout ≤ length table
      → (i : ℕ) → i < length rs → Fit layout.parts (layout.numbers (get_or rs i d)) → record_with layout (sets table 0 (table_in layout rs)) i ≡ get_or rs i d
  record_back whole d rs table fits i l f =
      let r = get_or rs i d in
      let n : length (table_in layout rs) ≡ length rs * size_in layout = length-table layout rs in
      let m : suc i * size_in layout ≤ length rs * size_in layout = mul-le-mul_right (size_in layout) l in
      let same : (width k : ℕ) → k + width ≤ length (bytes_in layout r)
      → bytes_at width (sets table 0 (table_in layout rs)) (i * size_in layout + k) ≡ bytes_at width (bytes_in layout r) k =
      λ width k h.
      let s : k + width ≤ size_in layout = omega (arith, length-bytes layout r) in
      let e : 0 + (i * size_in layout + k) ≡ i * size_in layout + k = omega arith in
      rw e at (bytes_back width (table_in layout rs) table 0 (i * size_in layout + k) (omega arith) (omega (arith, suc-mul i (size_in layout))))
      ∙ table_at d rs i width k l s in
      ap layout.from (numbers_back (sets table 0 (table_in layout rs)) (bytes_in layout r) (i * size_in layout) same layout.parts (layout.numbers r) f refl) ∙ whole r

-- a number fits a part of a record that is no byte
abbrev pub Small : ℕ → Type 0
Small x = x < 256 ^ number_width

-- field records
pub record SmallField (f : Field) : Type 0 where
  pub name_start_lem : Small f.name_start
  pub name_end_lem : Small f.name_end
  pub body_start : Small f.body_start
  pub body_end : Small f.body_end

pub field_back : (fs : List Field) (table : List ℕ) → length fs * field_record_size ≤ length table → (i : ℕ) → i < length fs → SmallField (get_or fs i no_field)
    → field_in (sets table 0 (field_table fs)) i ≡ get_or fs i no_field
field_back fs table fits i l s =
    record_back field_layout (λ f. refl) no_field fs table fits i l (s.name_start_lem, (s.name_end_lem, (s.body_start, (s.body_end, tt))))

-- address records
pub record SmallRecord (r : AddressRecord) : Type 0 where
  pub parent : Small r.parent
  pub start : Small r.start
  pub end : Small r.end
  pub name_start_lem : Small r.name_start
  pub name_end_lem : Small r.name_end

pub address_back : (rs : List AddressRecord) (table : List ℕ) → length rs * address_record_size ≤ length table → (i : ℕ) → i < length rs → SmallRecord (get_or rs i no_record)
    → record_in (sets table 0 (table_bytes rs)) i ≡ get_or rs i no_record
address_back rs table fits i l s =
    record_back address_layout (λ r. refl) no_record rs table fits i l (tt, (tt, (s.parent, (s.start, (s.end, (s.name_start_lem, (s.name_end_lem, tt)))))))
