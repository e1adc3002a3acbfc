-- A line is written part by part. Assumes nothing.
use mathlib.Core.List.{List, ◌∷◌, ◌++◌}
use Prim.Native.Nat.{ℕ}
use Rattle.octets.specs.Believed.Octets.{line_feed_byte}
use Rattle.octets.specs.Believed.Text.{bytes}
use Rattle.octets.specs.Ties.Writing.{WroteBy}
use Rattle.octets.proofs.Writes.{wrote_both}
use Rattle.records.specs.Believed.FieldRecords.{Field}
use Rattle.records.specs.Believed.AddressRecords.{AddressRecord}
use Rattle.listing.specs.Believed.Lines.{spaced, field_line, address_line, refused_line}
use Rattle.listing.specs.Ties.Putting.{number, four}

-- the end of a line
abbrev ending : List ℕ → List ℕ
ending rest = line_feed_byte ∷ rest

-- a word
abbrev word : List ℕ → List ℕ → List ℕ
word letters rest = letters ++ rest

module _ {store : List ℕ → ℕ → List ℕ → List ℕ} where
  -- four numbers
  pub four_numbers : (w x y z : ℕ) {o p q r s : List ℕ} {n a b c d : ℕ} → WroteBy store (number w) o n p a → WroteBy store (number x) p a q b → WroteBy store (number y) q b r c → WroteBy store (number z) r c s d
      → WroteBy store (four w x y z) o n s d
  four_numbers w x y z f g h k =
      wrote_both {f = number w} {g = λ rest. number x (number y (number z rest))} f
      (wrote_both {f = number x} {g = λ rest. number y (number z rest)} g (wrote_both {f = number y} {g = number z} h k))

  -- the line of a refusal
  pub refused_line_lem : (x y : ℕ) {o p q r s : List ℕ} {n a b c d : ℕ}
      → WroteBy store (word (bytes "refused")) o n p a → WroteBy store (number x) p a q b → WroteBy store (number y) q b r c → WroteBy store ending r c s d → WroteBy store (refused_line x y) o n s d
  unfolding spaced
  refused_line_lem x y w f g e =
      wrote_both {f = word (bytes "refused")} {g = λ rest. number x (number y (ending rest))} w
      (wrote_both {f = number x} {g = λ rest. number y (ending rest)} f (wrote_both {f = number y} {g = ending} g e))

  -- the line of a field record
  pub field_line_lem : (f : Field) {o p q r : List ℕ} {n a b c : ℕ}
      → WroteBy store (word (bytes "field")) o n p a → WroteBy store (four f.name_start f.name_end f.body_start f.body_end) p a q b → WroteBy store ending q b r c → WroteBy store (field_line f) o n r c
  unfolding spaced
  field_line_lem f w x e =
      let all = four f.name_start f.name_end f.body_start f.body_end in
      wrote_both {f = word (bytes "field")} {g = λ rest. all (ending rest)} w (wrote_both {f = all} {g = ending} x e)

  -- the line of an address record
  pub address_line_lem : (r : AddressRecord) {o p q s t u v : List ℕ} {n a b c d e f : ℕ}
      → WroteBy store (word (bytes "address")) o n p a → WroteBy store (number r.kind) p a q b → WroteBy store (number r.depth) q b s c → WroteBy store (number r.parent) s c t d
      → WroteBy store (four r.start r.end r.name_start r.name_end) t d u e → WroteBy store ending u e v f → WroteBy store (address_line r) o n v f
  unfolding spaced
  address_line_lem r w k d p x e =
      let kind = number r.kind in
      let depth = number r.depth in
      let parent = number r.parent in
      let spans = four r.start r.end r.name_start r.name_end in
      wrote_both {f = word (bytes "address")} {g = λ rest. kind (depth (parent (spans (ending rest))))} w
      (wrote_both {f = kind} {g = λ rest. depth (parent (spans (ending rest)))} k
      (wrote_both {f = depth} {g = λ rest. parent (spans (ending rest))} d
      (wrote_both {f = parent} {g = λ rest. spans (ending rest)} p (wrote_both {f = spans} {g = ending} x e))))
