-- What one symbol does in the loop, one law for each effect. Assumes nothing.
use Prim.Native.Nat.{ℕ, suc, ◌+◌, ◌-◌, ◌*◌, ◌≤◌, ◌<◌}
use native.Mathlib.Omega.{arith}
use mathlib.Core.Path.{◌≡◌, refl, sym, ap, ◌∙◌}
use mathlib.Core.List.{List, [], ◌∷◌, ◌++◌}
use lib.ListN.{length, length-append}
use lib.Seq.{sets}
use mathlib.Core.Bool.{false, true≢false}
use Rattle.std.proofs.Common.{inl, inr}
use Rattle.std.specs.Prelude.{Option, Some, None, IfSome, is_some, ◌⊎◌}
use Rattle.octets.specs.Believed.Numbers.{number_width}
use Rattle.octets.specs.Believed.Stored.{bytes_of}
use Rattle.records.specs.Believed.AddressRecords.{address_record_size, AddressRecord, record_bytes, end_offset, address_layout}
use Rattle.records.specs.Ties.Ends.{set_end}
use Rattle.records.specs.declared.Span.{Span}
use Rattle.scanner.specs.Believed.Symbols.{Lexeme}
use Rattle.scanner.specs.declared.Class.{Class}
use Rattle.editions.specs.Ties.Places.{Walked, next_place, come_to, step_from, add_record, open_group, last_number, close_record}
use Rattle.records.proofs.EndLaws.{end_stored}
use Rattle.records.proofs.TableLaws.{stored_last}
use Rattle.editions.specs.declared.places.Place.{Place}
use Rattle.editions.specs.declared.places.Place.TheVariants.{AtSign, Domain, Opened, AngleAt, AngleDomain, AngleClosed, GroupOpened, GroupClosed}
use Rattle.editions.specs.declared.Walk.{Walk}
use Rattle.editions.specs.Ties.Walks.{walk_by, walked_of, Fine, new_by, Besides, symbol_of, Goes}
use Rattle.editions.proofs.Follows.{set-length}

-- a number below is one below more
pub more_open : (o : Option ℕ) (n : ℕ) → IfSome o (λ i. i < n) → IfSome o (λ i. i < n + 1)
more_open None n h = tt
more_open (Some i) n h = omega (arith, h)

-- ---- what coming to each of these places does

mailbox_begins : {p : Place} → (p ≡ AtSign) ⊎ (p ≡ AngleAt) → (f : Walked) (t : Lexeme) → come_to p f t ≡ Some (add_record 1 f.group f.angle p f t)
mailbox_begins (inl e) f t = rw e refl
mailbox_begins (inr e) f t = rw e refl

mailbox_ends : {p : Place} → (p ≡ Domain) ⊎ (p ≡ AngleDomain) → (f : Walked) (t : Lexeme) → come_to p f t ≡ close_record (last_number (length f.records)) f.group f.angle p f t
mailbox_ends (inl e) f t = rw e refl
mailbox_ends (inr e) f t = rw e refl

angle_begins : {p : Place} → p ≡ Opened → (f : Walked) (t : Lexeme) → come_to p f t ≡ Some (add_record 2 f.group (Some (length f.records)) p f t)
angle_begins e f t = rw e refl

angle_ends : {p : Place} → p ≡ AngleClosed → (f : Walked) (t : Lexeme) → come_to p f t ≡ close_record f.angle f.group None p f t
angle_ends e f t = rw e refl

group_begins : {p : Place} → p ≡ GroupOpened → (f : Walked) (t : Lexeme) → false ≡ is_some f.group → come_to p f t ≡ Some (add_record 3 (Some (length f.records)) f.angle p f t)
group_begins e f t z = rw e (opens f.group z)
  where
    opens : (o : Option ℕ) → false ≡ is_some o → open_group o GroupOpened f t ≡ Some (add_record 3 (Some (length f.records)) f.angle GroupOpened f t)
    opens None y = refl
    opens (Some g) y = absurd (true≢false (sym y))

group_ends : {p : Place} → p ≡ GroupClosed → (f : Walked) (t : Lexeme) → come_to p f t ≡ close_record f.group None f.angle p f t
group_ends e f t = rw e refl

-- ---- a symbol leads from the loop to a place

pub record Leads (w : Walk) (class : Class) (next : Place) : Type 0 where
  pub fine : Fine w
  pub next_is : Some next ≡ next_place w.place class

module _ {w : Walk} {class : Class} {next : Place} (x : Leads w class next) (span : Span) (table : List ℕ) where
  abbrev lexeme : Besides → Lexeme
  lexeme m = (symbol_of class span m).lexeme

  -- what coming to the place does, from the loop with these records
  abbrev Does : List AddressRecord → Besides → Option Walked → Type 0
  Does rs m o = come_to next (walked_of w rs) (lexeme m) ≡ o

  known : (rs : List AddressRecord) (m : Besides) {o : Option Walked} → Does rs m o → step_from (walked_of w rs) (symbol_of class span m) ≡ o
  known rs m d = rw (← x.next_is, step_from) d

  -- ---- a record after the others

  abbrev Added : ℕ → List ℕ → Type 0
  Added kind after = after ≡ sets table (w.free * address_record_size) (record_bytes (new_by kind w span.end))

  adds : (kind : ℕ) (group angle : Option ℕ) → IfSome group (λ i. i < w.free + 1) → IfSome angle (λ i. i < w.free + 1)
      → ((rs : List AddressRecord) (m : Besides) → length rs ≡ w.free → Does rs m (Some (add_record kind group angle next (walked_of w rs) (lexeme m))))
      → {after : List ℕ} → Added kind after → Goes w class span table after (walk_by next w.name.start w.name.end group angle (w.free + 1))
  adds kind group angle f g d a =
      let r = new_by kind w span.end in
      record {
        fine = record { group = f; angle = g };
        few = omega arith;
        steps = λ m rs lent h. (
          rs ++ (r ∷ []),
          record {
            counted = omega (arith, length-append rs (r ∷ []), h.counted);
            stored = a ∙ rw (h.stored, ← h.counted) (stored_last address_layout lent rs r);
          },
          known rs m (d rs m h.counted),
        );
      }

  pub adds_mailbox : (next ≡ AtSign) ⊎ (next ≡ AngleAt) → {after : List ℕ} → Added 1 after
      → Goes w class span table after (walk_by next w.name.start w.name.end w.group w.angle (w.free + 1))
  adds_mailbox e = adds 1 w.group w.angle (more_open w.group w.free x.fine.group) (more_open w.angle w.free x.fine.angle) (λ rs m l. mailbox_begins e (walked_of w rs) (lexeme m))

  pub adds_angle : next ≡ Opened → {after : List ℕ} → Added 2 after → Goes w class span table after (walk_by next w.name.start w.name.end w.group (Some w.free) (w.free + 1))
  adds_angle e =
      adds 2 w.group (Some w.free) (more_open w.group w.free x.fine.group) (omega arith)
      (λ rs m l. angle_begins e (walked_of w rs) (lexeme m) ∙ ap (λ (n : ℕ). Some (add_record 2 w.group (Some n) next (walked_of w rs) (lexeme m))) l)

  pub adds_group : next ≡ GroupOpened → false ≡ is_some w.group → {after : List ℕ} → Added 3 after
      → Goes w class span table after (walk_by next w.name.start w.name.end (Some w.free) w.angle (w.free + 1))
  adds_group e z =
      adds 3 (Some w.free) w.angle (omega arith) (more_open w.angle w.free x.fine.angle)
      (λ rs m l. group_begins e (walked_of w rs) (lexeme m) z ∙ ap (λ (n : ℕ). Some (add_record 3 (Some n) w.angle next (walked_of w rs) (lexeme m))) l)

  -- ---- a record comes to its end

  abbrev Ended : ℕ → List ℕ → Type 0
  Ended number after = after ≡ sets table (number * address_record_size + end_offset) (bytes_of number_width span.end)

  -- the record with this number comes to its end
  abbrev Closed : Option ℕ → Option ℕ → Option ℕ → List AddressRecord → Besides → Option Walked
  Closed number group angle rs m = close_record number group angle next (walked_of w rs) (lexeme m)

  closes : (number : ℕ) (group angle : Option ℕ) → number < w.free → IfSome group (λ i. i < w.free) → IfSome angle (λ i. i < w.free)
      → ((rs : List AddressRecord) (m : Besides) → length rs ≡ w.free → Does rs m (Closed (Some number) group angle rs m))
      → {after : List ℕ} → Ended number after → Goes w class span table after (walk_by next w.name.start w.name.end group angle w.free)
  closes number group angle l f g d a =
      record {
        fine = record { group = f; angle = g };
        few = omega arith;
        steps = λ m rs lent h. (
          set_end number span.end rs,
          record {
            counted = set-length number span.end rs ∙ h.counted;
            stored = a ∙ rw h.stored (end_stored lent rs number span.end (omega (arith, h.counted)));
          },
          known rs m (d rs m h.counted),
        );
      }

  pub closes_mailbox : (next ≡ Domain) ⊎ (next ≡ AngleDomain) → (number : ℕ) → (1 ≤ w.free) × (number ≡ w.free - 1) → {after : List ℕ} → Ended number after
      → Goes w class span table after (walk_by next w.name.start w.name.end w.group w.angle w.free)
  closes_mailbox e number (h, q) =
      closes number w.group w.angle (omega arith) x.fine.group x.fine.angle
      (λ rs m l.
      let last : length rs ≡ suc number = omega arith in
      mailbox_ends e (walked_of w rs) (lexeme m) ∙ ap (λ (n : ℕ). Closed (last_number n) w.group w.angle rs m) last)

  pub closes_angle : next ≡ AngleClosed → (number : ℕ) → w.angle ≡ Some number → {after : List ℕ} → Ended number after
      → Goes w class span table after (walk_by next w.name.start w.name.end w.group None w.free)
  closes_angle e number q =
      closes number w.group None (rw q at x.fine.angle) x.fine.group tt
      (λ rs m l. angle_ends e (walked_of w rs) (lexeme m) ∙ ap (λ (o : Option ℕ). Closed o w.group None rs m) q)

  pub closes_group : next ≡ GroupClosed → (number : ℕ) → w.group ≡ Some number → {after : List ℕ} → Ended number after
      → Goes w class span table after (walk_by next w.name.start w.name.end None w.angle w.free)
  closes_group e number q =
      closes number None w.angle (rw q at x.fine.group) tt x.fine.angle
      (λ rs m l. group_ends e (walked_of w rs) (lexeme m) ∙ ap (λ (o : Option ℕ). Closed o None w.angle rs m) q)
