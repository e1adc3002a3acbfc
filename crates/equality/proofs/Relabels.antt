-- Symbols of the same classes are derived alike: by the same rules, with the same levels and as many addresses; with the same meanings too, the same addresses. Assumes nothing.
use Prim.Native.Nat.{ℕ, zero, suc, ◌+◌, max}
use mathlib.Core.Path.{◌≡◌, refl, sym, ap, ap₂, ◌∙◌}
use mathlib.Core.Bool.{Bool}
use mathlib.Core.List.{List, [], ◌∷◌, ◌++◌}
use mathlib.Core.Option.{Option, none, some}
use Rattle.octets.specs.Believed.Choice.{pick, both}
use Rattle.grammar.specs.Believed.Grammar.{Item, Makes, Rule, Grammar, Forest, nil, leaf, branch, yield_then, yield, levels, begins, Allowed, Fits, done, take, apply}
use Rattle.grammar.specs.Believed.Records.{meaning_of, part_of, name_of, count}
use Rattle.grammar.specs.Believed.Rfc733.{Derivation, DerivedList}
use Rattle.grammar.specs.Executable.Trees733.{Class, Sym}
use Rattle.plain.specs.Believed.Meaning.{no_word, and_symbol, Words, words_after, Addresses, no_address, and_address, address_of, addresses_after, meaning}
use Rattle.equality.proofs.Pairs.{Pairwise, no_symbol, one_symbol, KeepsClass}
use Rattle.equality.proofs.Shifts.{AlikeSymbols, AlikeSymbol}

-- ---- forests of the same rules over related symbols

pub data AlikeForests (R : Sym → Sym → Type 0) {N : Type 0} : Forest Class N → Forest Class N → Type 0 where
  nils : AlikeForests R nil nil
  leaves : {x y : Sym} {forest forest' : Forest Class N} → R x y → AlikeForests R forest forest' → AlikeForests R (leaf x forest) (leaf y forest')
  branches : (rule : Rule Class N) {parts parts' forest forest' : Forest Class N} → AlikeForests R parts parts' → AlikeForests R forest forest' → AlikeForests R (branch rule parts forest) (branch rule parts' forest')

-- other symbols, related to those of a forest and then others: a forest over them, and the rest
record Relabelled (R : Sym → Sym → Type 0) {N : Type 0} (forest : Forest Class N) (xs ys : List Sym) : Type 0 where
  again : Forest Class N
  rest : List Sym
  is : ys ≡ yield_then again rest
  alike : AlikeForests R forest again
  left : Pairwise R xs rest

module _ {R : Sym → Sym → Type 0} {N : Type 0} where
  relabelled : (forest : Forest Class N) (xs ys : List Sym) → Pairwise R (yield_then forest xs) ys → Relabelled R forest xs ys
  relabelled nil xs ys a = record { again = nil; rest = ys; is = refl; alike = nils; left = a }
  relabelled (leaf x forest) xs ys (one_symbol {y = y} {ys = zs} h a) =
      let r = relabelled forest xs zs a in
      record { again = leaf y r.again; rest = r.rest; is = ap (λ l. y ∷ l) r.is; alike = leaves h r.alike; left = r.left }
  relabelled (branch rule parts forest) xs ys a =
      let p = relabelled parts (yield_then forest xs) ys a in
      let r = relabelled forest xs p.rest p.left in
      record { again = branch rule p.again r.again; rest = r.rest; is = p.is ∙ ap (yield_then p.again) r.is; alike = branches rule p.alike r.alike; left = r.left }

  -- ---- they have the same levels, as many addresses and the same parts

  same_levels : {forest forest' : Forest Class N} → AlikeForests R forest forest' → levels forest' ≡ levels forest
  same_levels nils = refl
  same_levels (leaves h a) = same_levels a
  same_levels (branches rule p a) = ap₂ (λ m n. max (pick rule.opens 1 0 + m) n) (same_levels p) (same_levels a)

  pub same_count : {forest forest' : Forest Class N} → AlikeForests R forest forest' → count forest' ≡ count forest
  same_count nils = refl
  same_count (leaves h a) = same_count a
  same_count (branches rule p a) = ap₂ (λ m n. elim rule.makes [ none ↦ 0 | some makes ↦ 1 ] + m + n) (same_count p) (same_count a)

  pub alike_yields : {forest forest' : Forest Class N} → AlikeForests R forest forest' → {xs ys : List Sym} → Pairwise R xs ys → Pairwise R (yield_then forest xs) (yield_then forest' ys)
  alike_yields nils b = b
  alike_yields (leaves h a) b = one_symbol h (alike_yields a b)
  alike_yields (branches rule p a) b = alike_yields p (alike_yields a b)

  alike_parts : (i : ℕ) {forest forest' : Forest Class N} → AlikeForests R forest forest' → Pairwise R (part_of i forest) (part_of i forest')
  alike_parts zero nils = no_symbol
  alike_parts zero (leaves h a) = one_symbol h no_symbol
  alike_parts zero (branches rule p a) = alike_yields p no_symbol
  alike_parts (suc i) nils = no_symbol
  alike_parts (suc i) (leaves h a) = alike_parts i a
  alike_parts (suc i) (branches rule p a) = alike_parts i a

  pub alike_names : (name : Option ℕ) {forest forest' : Forest Class N} → AlikeForests R forest forest' → Pairwise R (name_of name forest) (name_of name forest')
  alike_names none a = no_symbol
  alike_names (some i) a = alike_parts i a

-- ---- a derivation over other symbols of the same classes, with the same levels and count

pub record DerivedAlike (R : Sym → Sym → Type 0) (k : Derivation) (ys : List Sym) : Type 0 where
  pub again : Derivation
  pub derived : DerivedList again ys
  pub alike : AlikeForests R k again
  pub deep : levels again ≡ levels k
  pub counted : count again ≡ count k

module _ {R : Sym → Sym → Type 0} (keeps : KeepsClass R) where
  same_begins : (same : Class → Class → Bool) (cs : List Class) {xs ys : List Sym} → Pairwise R xs ys → begins same cs ys ≡ begins same cs xs
  same_begins same [] a = refl
  same_begins same (c ∷ cs) no_symbol = refl
  same_begins same (c ∷ cs) (one_symbol h a) = ap₂ (λ d t. both (same c d) t) (keeps.class h) (same_begins same cs a)

  still_allowed : (same : Class → Class → Bool) (never : Option (List Class)) {xs ys : List Sym} → Pairwise R xs ys → Allowed same never xs → Allowed same never ys
  still_allowed same none a h = tt
  still_allowed same (some cs) a h = same_begins same cs a ∙ h

  fits_too : {N : Type 0} {G : Grammar Class N} {items : List (Item Class N)} {forest forest' : Forest Class N} → Fits G items forest → AlikeForests R forest forest' → Fits G items forest'
  fits_too done nils = done
  fits_too (take e f) (leaves h a) = take (keeps.class h ∙ e) (fits_too f a)
  fits_too {G = G} (apply m f l g) (branches rule p a) = apply m (fits_too f p) (still_allowed G.same rule.never (alike_yields p no_symbol) l) (fits_too g a)

  none_left : {ys : List Sym} → Pairwise R [] ys → ys ≡ []
  none_left no_symbol = refl

  pub derived_alike : {k : Derivation} {xs ys : List Sym} → DerivedList k xs → Pairwise R xs ys → DerivedAlike R k ys
  derived_alike {k} {xs} {ys} d a =
      let r = relabelled {R = R} k [] ys (rw d.yields a) in
      let e : ys ≡ yield r.again = r.is ∙ ap (yield_then r.again) (none_left r.left) in
      record { again = r.again; derived = record { fits = fits_too d.fits r.alike; yields = sym e }; alike = r.alike; deep = same_levels r.alike; counted = same_count r.alike }

-- ---- over symbols of the same meanings it means the same

same_meaning : {xs ys : List Sym} → AlikeSymbols xs ys → meaning_of ys ≡ meaning_of xs
same_meaning no_symbol = refl
same_meaning (one_symbol h a) = ap₂ (λ t u. t ++ u) h.meaning (same_meaning a)

same_words : (before : Words) {xs ys : List Sym} → AlikeSymbols xs ys → words_after before ys ≡ words_after before xs
same_words before no_symbol = refl
same_words before (one_symbol {x} {y} {xs} {ys} h a) = same_words (and_symbol before y.class y.lexeme.meaning) a ∙ ap₂ (λ c t. words_after (and_symbol before c t) xs) h.class h.meaning

same_address : (makes : Makes) (members : Addresses) {parts parts' : Derivation} → AlikeForests AlikeSymbol parts parts' → address_of makes parts' members ≡ address_of makes parts members
same_address makes members {parts} {parts'} a =
    let n = alike_names makes.name a in
    rw (same_meaning n, same_words no_word n, same_words no_word (alike_parts 1 a))

same_addresses : {forest forest' : Derivation} → AlikeForests AlikeSymbol forest forest' → (before : Addresses) → addresses_after before forest' ≡ addresses_after before forest
same_addresses nils before = refl
same_addresses (leaves h a) before = same_addresses a before
same_addresses (branches rule {parts} {parts'} {forest} {forest'} p a) before =
    by rule.makes (same_addresses p before) (same_addresses p no_address) (λ l. same_addresses a l)
  where
    by : (makes : Option Makes) → addresses_after before parts' ≡ addresses_after before parts → addresses_after no_address parts' ≡ addresses_after no_address parts
        → ((l : Addresses) → addresses_after l forest' ≡ addresses_after l forest)
        → addresses_after (elim makes [ none ↦ addresses_after before parts' | some m ↦ and_address before (address_of m parts' (addresses_after no_address parts')) ]) forest'
        ≡ addresses_after (elim makes [ none ↦ addresses_after before parts | some m ↦ and_address before (address_of m parts (addresses_after no_address parts)) ]) forest
    by none e f g = g _ ∙ ap (λ l. addresses_after l forest) e
    by (some m) e f g = g _ ∙ ap (λ x. addresses_after (and_address before x) forest) (same_address m (addresses_after no_address parts') p ∙ ap (address_of m parts) f)

pub same_lists : {k j : Derivation} → AlikeForests AlikeSymbol k j → meaning j ≡ meaning k
same_lists a = same_addresses a no_address
