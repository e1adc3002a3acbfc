-- Symbols of the same classes get the same verdict, at the same place: the number of a refusal depends on no position and no meaning. Assumes nothing.
use Prim.Native.Nat.{ℕ}
use mathlib.Core.Path.{◌≡◌, refl, sym, ap, ◌∙◌}
use mathlib.Core.List.{List, [], ◌∷◌, ◌++◌}
use Rattle.grammar.specs.Believed.Grammar.{levels}
use Rattle.grammar.specs.Believed.Language.{AtMost, MoreThan, up_to, GoesOn, FirstRefused, Refusal, unfit, unfinished, too_deep, refused, Right}
use Rattle.grammar.specs.Believed.Rfc733.{Derivation, DerivedList, RightWithin}
use Rattle.grammar.specs.Executable.Machine733.{answer}
use Rattle.grammar.proofs.Rfc733.Condition3.{answer_right, answer_only}
use Rattle.grammar.specs.Executable.Trees733.{Sym}
use Rattle.equality.proofs.Pairs.{Pairwise, no_symbol, one_symbol, KeepsClass, to_themselves, turned}
use Rattle.equality.proofs.Relabels.{derived_alike}

-- ---- related symbols, put together and taken apart

-- symbols related to `before`, one related to `x`, and others related to `after`
record Parted (R : Sym → Sym → Type 0) (before : List Sym) (x : Sym) (after ys : List Sym) : Type 0 where
  front : List Sym
  y : Sym
  behind : List Sym
  is : ys ≡ front ++ (y ∷ behind)
  alike_front : Pairwise R before front
  alike_y : R x y
  alike_behind : Pairwise R after behind

module _ {R : Sym → Sym → Type 0} where
  together : {xs ys vs ws : List Sym} → Pairwise R xs ys → Pairwise R vs ws → Pairwise R (xs ++ vs) (ys ++ ws)
  together no_symbol b = b
  together (one_symbol x a) b = one_symbol x (together a b)

  parted : (before : List Sym) (x : Sym) (after ys : List Sym) → Pairwise R (before ++ (x ∷ after)) ys → Parted R before x after ys
  parted [] x after ys (one_symbol {y = y} {ys = zs} h a) = record { front = []; y = y; behind = zs; is = refl; alike_front = no_symbol; alike_y = h; alike_behind = a }
  parted (w ∷ before) x after ys (one_symbol {y = y} {ys = zs} h a) =
      let r = parted before x after zs a in
      record { front = y ∷ r.front; y = r.y; behind = r.behind; is = ap (λ l. y ∷ l) r.is; alike_front = one_symbol h r.alike_front; alike_y = r.alike_y; alike_behind = r.alike_behind }

  alike_up_to : {p q : List Sym} {x y : Sym} → Pairwise R p q → R x y → Pairwise R (up_to p x) (up_to q y)
  alike_up_to a h = together a (one_symbol h no_symbol)

-- ---- over any relation that derives related symbols alike

-- a derivation of other symbols, of as many levels
record Carried {T : Type 0} (Derives : T → List Sym → Type 0) (deep : T → ℕ) (t : T) (ys : List Sym) : Type 0 where
  again : T
  derived : Derives again ys
  same : deep again ≡ deep t

module _ {R : Sym → Sym → Type 0} (keeps : KeepsClass R) {T : Type 0} (Derives : T → List Sym → Type 0) (deep : T → ℕ) (carry : (t : T) (xs ys : List Sym) → Derives t xs → Pairwise R xs ys → Carried Derives deep t ys) where
  goes_on : (Levels : ℕ → Type 0) {xs ys : List Sym} → Pairwise R xs ys → GoesOn Derives deep Levels xs → GoesOn Derives deep Levels ys
  goes_on Levels {xs} {ys} a g =
      let c = carry g.derivation (xs ++ g.more) (ys ++ g.more) g.derived (together a (to_themselves keeps g.more)) in
      record { more = g.more; derivation = c.again; derived = c.derived; counted = rw c.same g.counted }

  module _ (limit : ℕ) where
    -- the first refused symbol of the one, and that of the other
    record FirstToo {xs rest : List Sym} (f : FirstRefused Derives deep limit xs rest) (ys : List Sym) : Type 0 where
      place : List Sym
      first : FirstRefused Derives deep limit ys place
      alike : Pairwise R (up_to f.before f.x) (up_to first.before first.x)
      there : Pairwise R rest place

    first_too : {xs rest ys : List Sym} (f : FirstRefused Derives deep limit xs rest) → Pairwise R xs ys → FirstToo f ys
    first_too {xs} {rest} {ys} f a =
        let e : xs ≡ f.before ++ (f.x ∷ f.after) = f.splits ∙ ap (λ l. f.before ++ l) f.place in
        let r = parted f.before f.x f.after ys (rw e at a) in
        let u = alike_up_to r.alike_front r.alike_y in
        record {
          place = r.y ∷ r.behind;
          first =
              record {
                before = r.front;
                x = r.y;
                after = r.behind;
                place = refl;
                splits = r.is;
                earlier =
                    λ p y q h.
                    let s = parted p y q f.before (rw h at (turned keeps r.alike_front)) in
                    goes_on (AtMost limit) (turned keeps (alike_up_to s.alike_front s.alike_y)) (f.earlier s.front s.y s.behind s.is);
                here = λ g. f.here (goes_on (AtMost limit) (turned keeps u) g);
              };
          alike = u;
          there = rw f.place (one_symbol r.alike_y r.alike_behind);
        }

    -- a refusal of the one is right of the other, for the same reason and where its symbols are
    right_too : {xs ys : List Sym} → Pairwise R xs ys → (why : Refusal) (rest : List Sym) → Right Derives deep limit xs (refused why rest) → (place : List Sym) × Pairwise R rest place × Right Derives deep limit ys (refused why place)
    right_too a unfit rest r = let f = first_too r.0 a in (f.place, f.there, (f.first, λ g. r.1 (goes_on (MoreThan limit) (turned keeps f.alike) g)))
    right_too a too_deep rest r = let f = first_too r.0 a in (f.place, f.there, (f.first, goes_on (MoreThan limit) f.alike r.1))
    right_too a unfinished rest r =
        ([], rw r.0 no_symbol, (refl, (λ place f. let g = first_too f (turned keeps a) in r.1 g.place g.first), λ t d n. let c = carry t _ _ d (turned keeps a) in r.2 c.again c.derived (rw c.same n)))

-- ---- for the address rules

module _ {R : Sym → Sym → Type 0} (keeps : KeepsClass R) where
  carried : (k : Derivation) (xs ys : List Sym) → DerivedList k xs → Pairwise R xs ys → Carried DerivedList levels k ys
  carried k xs ys d a = let c = derived_alike keeps d a in record { again = c.again; derived = c.derived; same = c.deep }

  -- a refusal stays, for the same reason and at the same place
  pub refused_alike : (limit : ℕ) {xs ys : List Sym} → Pairwise R xs ys → (why : Refusal) (rest : List Sym) → answer limit xs ≡ refused why rest → (place : List Sym) × Pairwise R rest place × (answer limit ys ≡ refused why place)
  refused_alike limit {xs} {ys} a why rest e =
      let r : RightWithin limit xs (refused why rest) = rw e at (answer_right limit xs) in
      let (place, there, right) = right_too keeps DerivedList levels carried limit a why rest r in
      (place, there, sym (answer_only limit ys (refused why place) right))
