-- What an expansion reaches: no Include, at most 64 levels, and words that a plain text can hold. Assumes nothing.
use Prim.Native.Nat.{ℕ, zero, suc, ◌+◌, ◌≤◌}
use native.Mathlib.Omega.{arith}
use mathlib.Core.Path.{◌≡◌, refl, ap, ap₂, ◌∙◌}
use mathlib.Core.Bool.{Bool, true, false}
use mathlib.Core.List.{List, [], ◌∷◌}
use Rattle.std.specs.Prelude.{Option, None, Some}
use borrow.Author.Tests.{ltb-false, leb-false}
use lib.Dec.{eqb, ltb, leb}
use lib.ListN.{length, take}
use lib.Seq.{take-length}
use Rattle.octets.specs.Believed.Choice.{pick}
use Rattle.octets.specs.Believed.Numbers.{level_limit, message_limit, opening_limit, too_many_levels, leads_nowhere, too_many_openings}
use Rattle.octets.specs.declared.answers.Answer.TheVariants.{Refused}
use Rattle.scanner.specs.Believed.Scanning.{scan, symbols_of}
use Rattle.scanner.specs.Believed.Answers.{fault_of}
use Rattle.scanner.proofs.BodyChecks.{in_order}
use Rattle.grammar.specs.Believed.Grammar.{levels}
use Rattle.grammar.specs.Believed.Rfc733.{Derivation, DerivedList, kind_number, typed_kind}
use Rattle.grammar.specs.Believed.Rfc733 as rfc733
use Rattle.grammar.specs.Executable.Trees733.{Colon, Comma, LessThan, GreaterThan, Semicolon, Sym, of, Slot, empty, comma, AddressList, idle, full, mailbox, angle, group, quoted, typed, as_forest}
use Rattle.grammar.proofs.Rfc733.Trees.{nodes_then, slot_then, list_then, address_then, slot_levels, list_levels, address_levels}
use Rattle.grammar.specs.Executable.Trees733 as trees
use Rattle.grammar.proofs.Rfc733.Derivations.{forest_levels, tree_derived}
use Rattle.plain.specs.Believed.Meaning.{atom, no_word, and_word, Addresses, no_address, and_address, Address, address}
use Rattle.plain.specs.Believed.PlainText.{addresses_text}
use Rattle.plain.specs.Believed.RoundTrip.{AcceptedBody}
use Rattle.plain.proofs.TreeMeanings.{phrase_meaning, name_meaning, nodes_meaning, address_meaning, typed_meaning, addresses_depth, address_depth, typed_depth}
use Rattle.plain.proofs.Writable.{WritableList, WritableAddress, list_of, address_of}
use Rattle.plain.proofs.Writable as writable
use Rattle.plain.proofs.ScannedWords.{WritableSymbols, writable_symbols, phrase_fine, name_fine, nodes_fine}
use Rattle.plain.proofs.RoundTrips.{reread_writable}
use Rattle.expansion.specs.Believed.Store.{leads_to, list_in}
use Rattle.expansion.specs.Believed.Expansion.{Expansion, stopped, reached, and_then, Opening, expand_include, expand_forest, expand_stored, opened_within, expansion}
use Rattle.expansion.specs.Believed.Promises.{NoInclude, NotInclude, ReadsBack, Promised}
use Rattle.expansion.proofs.TreeExpansion.{slot_expansion, list_expansion, address_expansion, forest_expansion}
use Rattle.addresses.proofs.Judgements.{Judged, refused_at, listed, judged, listed_read}

-- ---- the symbols after a tree

mutual
  after_place : (r : Slot) (xs : List Sym) → WritableSymbols (slot_then r xs) → WritableSymbols xs
  after_place empty xs g = g
  after_place (comma l t) xs g = (after_list l (of Comma t ∷ xs) g).1

  after_list : (l : AddressList) (xs : List Sym) → WritableSymbols (list_then l xs) → WritableSymbols xs
  after_list (idle r) xs g = after_place r xs g
  after_list (full r a) xs g = after_address a xs (after_place r (address_then a xs) g)

  after_address : (a : trees.Address) (xs : List Sym) → WritableSymbols (address_then a xs) → WritableSymbols xs
  after_address (mailbox p m) xs g = (nodes_fine m xs (phrase_fine p (nodes_then m xs) g).2).2
  after_address (angle o t l u) xs g = (after_list l (of GreaterThan u ∷ xs) (name_fine o (of LessThan t ∷ list_then l (of GreaterThan u ∷ xs)) g).1.1).1
  after_address (group o t l u) xs g = (after_list l (of Semicolon u ∷ xs) (name_fine o (of Colon t ∷ list_then l (of Semicolon u ∷ xs)) g).1.1).1
  after_address (quoted t) xs g = g.1
  after_address (typed t a u b) xs g = after_address b xs g.1.1.1

-- ---- fine addresses, with so many levels open around them

pub record Fine (d : ℕ) (m : Addresses) : Type 0 where
  pub no_include : NoInclude m
  pub within : d + addresses_depth m ≤ level_limit
  pub list : WritableList
  pub is : list_of list ≡ m

pub record FineOne (d : ℕ) (a : Address) : Type 0 where
  pub no_include : NotInclude a
  pub within : d + address_depth a ≤ level_limit
  pub item : WritableAddress
  pub is : address_of item ≡ a

fine_none : (d : ℕ) → d ≤ level_limit → Fine d no_address
fine_none d h = record { no_include = tt; within = omega (arith, h); list = writable.empty; is = refl }

fine_and : {d : ℕ} {m : Addresses} {a : Address} → Fine d m → FineOne d a → Fine d (and_address m a)
fine_and {d} {m} {a} f g =
    record {
      no_include = (f.no_include, g.no_include);
      within = omega (arith, f.within, g.within);
      list = writable.also f.list g.item;
      is = ap₂ and_address f.is g.is;
    }

-- an expansion that reaches fine addresses
abbrev pub FineEnd : ℕ → Expansion → Type 0
FineEnd d (stopped n p u) = u ≤ opening_limit
FineEnd d (reached m u) = Fine d m × (u ≤ opening_limit)

-- .. one more than those before it
abbrev OneMore : ℕ → Addresses → Expansion → Type 0
OneMore d before (stopped n p u) = u ≤ opening_limit
OneMore d before (reached m u) = ((a : Address) × (m ≡ and_address before a) × FineOne d a) × (u ≤ opening_limit)

-- directly in a typed address one more; else any
abbrev Ends : Bool → ℕ → Addresses → Expansion → Type 0
Ends true d before e = OneMore d before e
Ends false d before e = FineEnd d e

one_ends : (y : Bool) {d : ℕ} {before : Addresses} (e : Expansion) → Fine d before → OneMore d before e → Ends y d before e
one_ends true e f o = o
one_ends false (stopped n p u) f o = o
one_ends false {d} {before} (reached m u) f ((a, q, g), h) = (rw q (fine_and f g), h)

-- what comes next
fine_then : (d : ℕ) (e : Expansion) (next : Addresses → ℕ → Expansion) → FineEnd d e → ((m : Addresses) (u : ℕ) → Fine d m → u ≤ opening_limit → FineEnd d (next m u)) → FineEnd d (and_then e next)
fine_then d (stopped n p u) next o k = o
fine_then d (reached m u) next o k = k m u o.0 o.1

-- an enclosed list
enclosed : (d : ℕ) (before : Addresses) (e : Expansion) (of_list : Addresses → Address) → ((m : Addresses) → Fine (d + 1) m → FineOne d (of_list m)) → FineEnd (d + 1) e
    → OneMore d before (and_then e (λ members u. reached (and_address before (of_list members)) u))
enclosed d before (stopped n p u) of_list h o = o
enclosed d before (reached m u) of_list h (f, k) = ((of_list m, refl, h m f), k)

-- a typed address
typed_fine : {d : ℕ} {a : Address} (letters : List ℕ) → writable.WritableAtom letters → eqb (kind_number (typed_kind letters)) (kind_number rfc733.include) ≡ false → FineOne (d + 1) a → FineOne d (typed_meaning letters a)
typed_fine {d} {a} letters w z f =
    record {
      no_include = (z, (tt, f.no_include));
      within = omega (arith, typed_depth letters a, f.within);
      item = writable.typed letters w f.item;
      is = ap (typed_meaning letters) f.is;
    }

typed_more : (d : ℕ) (before : Addresses) (letters : List ℕ) → writable.WritableAtom letters → eqb (kind_number (typed_kind letters)) (kind_number rfc733.include) ≡ false → (e : Expansion) → OneMore (d + 1) no_address e
    → OneMore d before (and_then e (λ members u. reached (and_address before (address (kind_number (typed_kind letters)) (and_word no_word (atom letters)) no_word members)) u))
typed_more d before letters w z (stopped n p u) o = o
typed_more d before letters w z (reached m u) ((a, q, f), h) = ((typed_meaning letters a, ap (λ ms. and_address before (address (kind_number (typed_kind letters)) (and_word no_word (atom letters)) no_word ms)) q, typed_fine letters w z f), h)

-- an Include or not
typed_ends : (y : Bool) (d : ℕ) (before : Addresses) (letters : List ℕ) (z : Bool) → eqb (kind_number (typed_kind letters)) (kind_number rfc733.include) ≡ z → writable.WritableAtom letters
    → (included member : Expansion) → Fine d before → Ends y d before included → OneMore (d + 1) no_address member
    → Ends y d before (pick z included (and_then member (λ members u. reached (and_address before (address (kind_number (typed_kind letters)) (and_word no_word (atom letters)) no_word members)) u)))
typed_ends y d before letters true q w included member f i m = i
typed_ends y d before letters false q w included member f i m = one_ends y _ f (typed_more d before letters w q member m)

-- an opening that reaches fine addresses
abbrev pub GoodOpening : Opening → Type 0
GoodOpening o = (i p d : ℕ) (before : Addresses) (u : ℕ) → Fine d before → u ≤ opening_limit → FineEnd d (o i p d before u)

module _ (store : List ℕ) (opening : Opening) (good : GoodOpening opening) (place_of : ℕ → ℕ) where
  include_fine : (y : Bool) (p d : ℕ) (held before : Addresses) (u : ℕ) → Fine d before → u ≤ opening_limit → Ends y d before (expand_include store opening y p d held before u)
  include_fine true p d held before u f h = h
  include_fine false p d held before u f h = by (leads_to store held)
    where
      by : (o : Option ℕ) → FineEnd d (elim o [ None ↦ stopped leads_nowhere p u | Some i ↦ opening i p d before u ])
      by None = h
      by (Some i) = good i p d before u f h

  mutual
    place_fine : (r : Slot) (d : ℕ) (xs : List Sym) (before : Addresses) (u : ℕ) → WritableSymbols (slot_then r xs) → d + slot_levels r ≤ level_limit → Fine d before → u ≤ opening_limit
        → FineEnd d (slot_expansion store opening place_of d r before u)
    place_fine empty d xs before u g n f h = (f, h)
    place_fine (comma l t) d xs before u g n f h = list_fine l d (of Comma t ∷ xs) before u g n f h

    pub list_fine : (l : AddressList) (d : ℕ) (xs : List Sym) (before : Addresses) (u : ℕ) → WritableSymbols (list_then l xs) → d + list_levels l ≤ level_limit → Fine d before → u ≤ opening_limit
        → FineEnd d (list_expansion store opening place_of d l before u)
    list_fine (idle r) d xs before u g n f h = place_fine r d xs before u g n f h
    list_fine (full r a) d xs before u g n f h =
        fine_then d (slot_expansion store opening place_of d r before u) (λ b v. address_expansion store opening place_of false d a b v)
        (place_fine r d (address_then a xs) before u g (omega (arith, n)) f h)
        (λ b v i j. address_fine a false d xs b v (after_place r (address_then a xs) g) (omega (arith, n)) i j)

    address_fine : (a : trees.Address) (y : Bool) (d : ℕ) (xs : List Sym) (before : Addresses) (u : ℕ) → WritableSymbols (address_then a xs) → d + address_levels a ≤ level_limit → Fine d before → u ≤ opening_limit
        → Ends y d before (address_expansion store opening place_of y d a before u)
    address_fine (mailbox p m) y d xs before u g n f h =
        let (e, w, k) = phrase_fine p (nodes_then m xs) g in
        let (e', w', k') = nodes_fine m xs k in
        one_ends y (reached (and_address before (address 1 (phrase_meaning p) (nodes_meaning m) no_address)) u) f
        ((address 1 (phrase_meaning p) (nodes_meaning m) no_address, refl, record { no_include = (refl, tt); within = omega (arith, n); item = writable.mailbox (phrase_meaning p) (nodes_meaning m) e e'; is = refl }), h)
    address_fine (angle o t l c) y d xs before u g n f h =
        let (w, k) = name_fine o (of LessThan t ∷ list_then l (of GreaterThan c ∷ xs)) g in
        one_ends y (address_expansion store opening place_of y d (angle o t l c) before u) f
        (enclosed d before (list_expansion store opening place_of (d + 1) l no_address u) (λ m. address 2 (name_meaning o) no_word m)
        (λ m i. record { no_include = (refl, i.no_include); within = omega (arith, i.within); item = writable.angle (name_meaning o) w i.list; is = ap (λ z. address 2 (name_meaning o) no_word z) i.is })
        (list_fine l (d + 1) (of GreaterThan c ∷ xs) no_address u k.1 (omega (arith, n)) (fine_none (d + 1) (omega (arith, n))) h))
    address_fine (group o t l c) y d xs before u g n f h =
        let (w, k) = name_fine o (of Colon t ∷ list_then l (of Semicolon c ∷ xs)) g in
        one_ends y (address_expansion store opening place_of y d (group o t l c) before u) f
        (enclosed d before (list_expansion store opening place_of (d + 1) l no_address u) (λ m. address 3 (name_meaning o) no_word m)
        (λ m i. record { no_include = (refl, i.no_include); within = omega (arith, i.within); item = writable.group (name_meaning o) w i.list; is = ap (λ z. address 3 (name_meaning o) no_word z) i.is })
        (list_fine l (d + 1) (of Semicolon c ∷ xs) no_address u k.1 (omega (arith, n)) (fine_none (d + 1) (omega (arith, n))) h))
    address_fine (quoted t) y d xs before u g n f h =
        one_ends y (reached (and_address before (address_meaning (quoted t))) u) f
        ((address_meaning (quoted t), refl, record { no_include = (refl, tt); within = omega (arith, n); item = writable.quoted t.meaning g.0; is = refl }), h)
    address_fine (typed t a c b) y d xs before u g n f h =
        typed_ends y d before a.meaning (eqb (kind_number (typed_kind a.meaning)) (kind_number rfc733.include)) refl g.1.0
        (expand_include store opening y (place_of t.start) d (and_address no_address (address_meaning b)) before u) (address_expansion store opening place_of true (d + 1) b no_address u) f
        (include_fine y (place_of t.start) d (and_address no_address (address_meaning b)) before u f h)
        (address_fine b true (d + 1) xs no_address u g.1.1.1 (omega (arith, n)) (fine_none (d + 1) (omega (arith, n))) h)

  -- a derivation of the symbols of any text
  pub forest_fine : (text : List ℕ) (at : ℕ) (k : Derivation) (d : ℕ) (before : Addresses) (u : ℕ) → DerivedList k (symbols_of (scan text at)) → d + levels k ≤ level_limit → Fine d before → u ≤ opening_limit
      → FineEnd d (expand_forest store opening place_of false d k before u)
  forest_fine text at k d before u derived n f h =
      let (l, e, d') = tree_derived derived in
      let g : WritableSymbols (list_then l []) = rw d'.yields (writable_symbols text at) in
      let n' : d + levels (as_forest l) ≤ level_limit = rw e at n in
      rw (e, forest_expansion store opening place_of l d before u) (list_fine l d [] before u g (omega (arith, n', forest_levels l)) f h)

-- ---- stored lists

module _ (store : List ℕ) where
  stored_fine : (opening : Opening) → GoodOpening opening → (i p d : ℕ) (before : Addresses) (u : ℕ) → Fine d before → suc u ≤ opening_limit → FineEnd d (expand_stored store opening i p d before u)
  stored_fine opening good i p d before u f h = by (judged text 0 (length text))
    where
      text : List ℕ
      text = list_in store i

      refuse : ℕ → ℕ → Expansion
      refuse n q = stopped n i u

      derive : Derivation → Expansion
      derive k = pick (ltb level_limit (d + levels k)) (stopped too_many_levels p u) (expand_forest store opening (λ start. p) false d k before (suc u))

      joined : (k : Derivation) (z : Bool) → ltb level_limit (d + levels k) ≡ z → DerivedList k (symbols_of (scan (take (length text) text) 0))
          → FineEnd d (pick z (stopped too_many_levels p u) (expand_forest store opening (λ start. p) false d k before (suc u)))
      joined k true z e = omega (arith, h)
      joined k false z e = forest_fine store opening good (λ start. p) (take (length text) text) 0 k d before (suc u) e (ltb-false _ _ z) f h

      by : Judged text 0 (length text) → FineEnd d (expand_stored store opening i p d before u)
      by (refused_at n q e) = rw (e Expansion refuse derive) (omega (arith, h))
      by (listed k b) = rw (listed_read b refuse derive) (joined k _ refl b.list.derived)

  within_budget : (p d u : ℕ) (e : Expansion) (z : Bool) → leb opening_limit u ≡ z → u ≤ opening_limit → (suc u ≤ opening_limit → FineEnd d e) → FineEnd d (pick z (stopped too_many_openings p u) e)
  within_budget p d u e true z h k = h
  within_budget p d u e false z h k = k (leb-false _ _ z)

  pub opening_fine : (deep : ℕ) → GoodOpening (λ i p d before u. opened_within store deep i p d before u)
  opening_fine zero i p d before u f h = h
  opening_fine (suc deep) i p d before u f h =
      within_budget p d u (expand_stored store (λ i' p' d' before' u'. opened_within store deep i' p' d' before' u') i p d before u) (leb opening_limit u) refl h
      (λ k. stored_fine (λ i' p' d' before' u'. opened_within store deep i' p' d' before' u') (opening_fine deep) i p d before u f k)

-- ---- what is promised

reads_back : (w : WritableList) → addresses_depth (list_of w) ≤ level_limit → length (addresses_text (list_of w) []) ≤ message_limit → ReadsBack (list_of w)
reads_back w n h =
    let r = reread_writable w in
    let t = addresses_text (list_of w) [] in
    record {
      again = r.again;
      accepted =
          record {
            scans = in_order Refused t 0 (length t) (fault_of (scan (take (length t) t) 0)) h (omega arith) (omega arith) ∙ rw take-length r.faultless;
            list = record { derived = rw take-length r.derived; within = omega (arith, r.deep, n) };
          };
      means = r.means;
      text = ap (λ m. addresses_text m []) r.means;
    }

promised : (e : Expansion) → FineEnd 0 e → Promised e
promised (stopped n p u) f = f
promised (reached m u) (f, h) =
    record {
      no_include = f.no_include;
      reads_back = λ n. rw f.is at (reads_back f.list (rw f.is (omega (arith, f.within))) (rw f.is n));
      counted = h;
    }

pub expansion_promised : {message : List ℕ} {start end : ℕ} (store : List ℕ) {k : Derivation} → AcceptedBody message start end k → Promised (expansion store k)
expansion_promised {message} {start} {end} store {k} a =
    promised (expansion store k)
    (forest_fine store (λ i p d before u. opened_within store opening_limit i p d before u) (opening_fine store opening_limit) (λ s. s) (take end message) start k 0 no_address 0 a.list.derived (omega (arith, a.list.within)) (fine_none 0 (omega arith)) (omega arith))
