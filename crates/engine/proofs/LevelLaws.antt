-- The open levels, and the records that are written when they close. Assumes nothing.
use Prim.Native.Nat.{ℕ, zero, suc, ◌+◌, ◌*◌, ◌≤◌, ◌<◌}
use mathlib.Core.Path.{◌≡◌, refl, sym, ap, ◌∙◌}
use mathlib.Core.Bool.{Bool, true, false}
use mathlib.Core.List.{List}
use native.Mathlib.Omega.{arith}
use lib.Seq.{sets}
use Rattle.octets.specs.Believed.Choice.{pick}
use Rattle.octets.specs.Believed.Letters.{same_letters}
use Rattle.octets.specs.Believed.Text.{bytes}
use Rattle.grammar.specs.Believed.Rfc733.{kind_number, typed_kind, angle_list, group, include, postal, other_typed}
use Rattle.records.specs.Believed.AddressRecords.{address_record_size, record_by, record_bytes, address_layout}
use Rattle.records.proofs.TableLaws.{stored_in_front}
use Rattle.grammar.specs.Executable.Trees733.{Lexeme, Slot, Address, typed}
use Rattle.grammar.specs.Executable.Machine733.{Here, in_list, in_typed, Level, top, in_angle, in_group, as_list, close, levels_here, levels_at}
use Rattle.grammar.proofs.Rfc733.TreeRecords.{list_count, address_count, address_records, address_record}
use Rattle.grammar.proofs.RecordLaws.{stored_behind}
use Rattle.engine.specs.declared.actions.Mode.TheVariants.{AfterAddress}
use Rattle.engine.specs.Ties.Stands.{mode_of, level_at, number_here, parent_at, parent_here, Entry, HoldsHere, HoldsLevel, stored_here, stored_level}
use Rattle.engine.specs.Ties.Turns.{kind_at, OpenHere, LevelAt, Closing, Closed}
use Rattle.engine.specs.declared.OpenLevel.{OpenLevel}

-- ---- parents

pub parent_none : (h : Here) → levels_here h ≡ 0 → parent_here h ≡ 0
parent_none (in_list top r) e = refl
parent_none (in_list (in_angle h o t) r) e = absurd (omega arith)
parent_none (in_list (in_group h o t) r) e = absurd (omega arith)
parent_none (in_typed h t a u) e = absurd (omega arith)

module _ (levels : List OpenLevel) where
  entry_number : {level number start kind first last : ℕ} (d : ℕ) → Entry levels level number start kind first last → level ≡ d → number ≡ (level_at levels d).number
  entry_number d e f = sym (ap (λ (o : OpenLevel). o.number) e.is) ∙ ap (λ n. (level_at levels n).number) f

  pub parent_some : (h : Here) (d : ℕ) → HoldsHere levels h → levels_here h ≡ suc d → parent_here h ≡ suc (level_at levels d).number
  parent_some (in_list top r) d x e = absurd (omega arith)
  parent_some (in_list (in_angle h o t) r) d x e = ap suc (entry_number d x.0 (omega arith))
  parent_some (in_list (in_group h o t) r) d x e = ap suc (entry_number d x.0 (omega arith))
  parent_some (in_typed h t a u) d x e = ap suc (entry_number d x.0 (omega arith))

-- ---- kinds

typed_kind_by : (a b : Bool) → (4 < kind_number (pick a include (pick b postal other_typed))) × (kind_number (pick a include (pick b postal other_typed)) < 8)
typed_kind_by true b = (omega arith, omega arith)
typed_kind_by false true = (omega arith, omega arith)
typed_kind_by false false = (omega arith, omega arith)

pub typed_kind_bounds : (atom : List ℕ) → (4 < kind_number (typed_kind atom)) × (kind_number (typed_kind atom) < 8)
typed_kind_bounds atom = typed_kind_by (same_letters atom (bytes "Include")) (same_letters atom (bytes "Postal"))

-- the kind of the level around a list, 0 where there is none
abbrev pub kind_of_level : Level → ℕ
kind_of_level top = 0
kind_of_level (in_angle h o t) = kind_number angle_list
kind_of_level (in_group h o t) = kind_number group

-- .. around an address
abbrev pub kind_of_here : Here → ℕ
kind_of_here (in_list k r) = kind_of_level k
kind_of_here (in_typed h t a u) = kind_number (typed_kind a.meaning)

module _ (levels : List OpenLevel) (depth : ℕ) where
  entry_kind : {level number start kind first last : ℕ} → Entry levels level number start kind first last → depth ≡ suc level → kind_at levels depth ≡ kind
  entry_kind e d = ap (kind_at levels) d ∙ ap (λ (o : OpenLevel). o.kind) e.is

  pub level_kind : (k : Level) → HoldsLevel levels k → depth ≡ levels_at k → kind_at levels depth ≡ kind_of_level k
  level_kind top x d = ap (kind_at levels) d
  level_kind (in_angle h o t) x d = entry_kind x.0 d
  level_kind (in_group h o t) x d = entry_kind x.0 d

  pub here_kind : (h : Here) → OpenHere levels h depth → kind_at levels depth ≡ kind_of_here h
  here_kind (in_list k r) o = level_kind k o.holds o.depth_is
  here_kind (in_typed h t a u) o = entry_kind o.holds.0 o.depth_is

-- levels are open where the innermost has a kind
pub kind_deep : (levels : List OpenLevel) (depth : ℕ) → 0 < kind_at levels depth → 0 < depth
kind_deep levels zero h = absurd (omega arith)
kind_deep levels (suc n) h = omega arith

-- ---- closing

pub close_free : (h : Here) (a : Address) → parent_at (close h a).level + list_count (close h a).sofar ≡ number_here h + address_count a
close_free (in_list k r) a = omega arith
close_free (in_typed h t x u) a = omega (arith, close_free h (typed t x u a))

pub close_holds : (levels : List OpenLevel) (h : Here) (a : Address) → HoldsHere levels h → HoldsLevel levels (close h a).level
close_holds levels (in_list k r) a x = x
close_holds levels (in_typed h t y u) a x = close_holds levels h (typed t y u a) x.1

pub close_mode : (h : Here) (a : Address) → mode_of (as_list (close h a)) ≡ AfterAddress
close_mode (in_list k r) a = refl
close_mode (in_typed h t y u) a = close_mode h (typed t y u a)

pub close_depth : (h : Here) (a : Address) → levels_at (close h a).level ≤ levels_here h
close_depth (in_list k r) a = omega arith
close_depth (in_typed h t y u) a = omega (arith, close_depth h (typed t y u a))

-- an address of a list
pub closed_list : (lent : List ℕ) (levels : List OpenLevel) (table : List ℕ) (depth end : ℕ) (k : Level) (r : Slot) (a : Address) → Closing lent levels table depth end (in_list k r) a → Closed lent (close (in_list k r) a) table depth
closed_list lent levels table depth end k r a c =
    record { depth_is = c.is_open.depth_is; stored = c.stored ∙ stored_behind (stored_level lent k) (parent_at k) r a (levels_at k) (parent_at k) }

-- an address of a typed address, whose record is written now
pub closed_typed : (lent : List ℕ) (levels : List OpenLevel) (table after : List ℕ) (depth end : ℕ) (h : Here) (t x u : Lexeme) (a : Address) → Closing lent levels table depth end (in_typed h t x u) a
    → after ≡ sets table (number_here h * address_record_size) (record_bytes (record_by (kind_number (typed_kind x.meaning)) (levels_here h) (parent_here h) t.start end x.start x.end))
    → Closing lent levels after (levels_here h) end h (typed t x u a)
closed_typed lent levels table after depth end h t x u a c e =
    record {
      is_open = record { depth_is = refl; holds = c.is_open.holds.1; deep = omega (arith, c.is_open.deep, c.is_open.depth_is) };
      end_is = c.end_is;
      stored = stored_in_front address_layout (stored_here lent h) (number_here h) (address_record (typed t x u a) (levels_here h) (parent_here h)) (address_records a (suc (levels_here h)) (suc (number_here h)) (suc (number_here h)))
          c.stored (e ∙ ap (λ z. sets table (number_here h * address_record_size) (record_bytes (record_by (kind_number (typed_kind x.meaning)) (levels_here h) (parent_here h) t.start z x.start x.end))) c.end_is);
    }

-- the level of a typed address, and its entry
pub typed_level : (levels : List OpenLevel) (depth : ℕ) (h : Here) (t x u : Lexeme) → OpenHere levels (in_typed h t x u) depth
    → LevelAt levels (levels_here h) h t.start (kind_number (typed_kind x.meaning)) x.start x.end
typed_level levels depth h t x u o =
    record {
      entry = o.holds.0;
      is_open = record { depth_is = refl; holds = o.holds.1; deep = omega (arith, o.deep, o.depth_is) };
      kind_low = omega (arith, (typed_kind_bounds x.meaning).1);
      below = omega (arith, o.deep, o.depth_is);
    }
