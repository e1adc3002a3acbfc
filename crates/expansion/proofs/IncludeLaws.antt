-- An Include by its first symbols, as the code looks at them. Assumes nothing.
use Prim.Native.Nat.{ℕ}
use lib.Dec.{eqb}
use mathlib.Core.Path.{◌≡◌, refl, sym, ap, ap₂, ◌∙◌}
use mathlib.Core.Bool.{Bool, true, false, not}
use mathlib.Core.List.{List, [], ◌∷◌}
use Rattle.std.specs.Prelude.{Option, None}
use Rattle.octets.specs.Believed.Choice.{pick, both}
use Rattle.octets.specs.Believed.Text.{part}
use Rattle.octets.proofs.ChoiceLaws.{both_false}
use Rattle.scanner.specs.Believed.Scanning.{scan_by}
use Rattle.scanner.specs.Believed.Answers.{next_of}
use Rattle.scanner.specs.declared.Class.{Class}
use Rattle.scanner.specs.declared.Class.TheVariants.{Atom, Quoted, At, LessThan, GreaterThan, Comma, Semicolon, Colon, Stray, Dot, Literal}
use Rattle.scanner.specs.contracts.Class as class-declared
use denote.Enum.Bare.{sameb}
use borrow.Author.Tests.{eq-eqb, ne_eqb, eqb-true, eqb-false}
use Rattle.scanner.specs.declared.Next.{Next}
use Rattle.scanner.specs.Ties.Meanings.{meaning_at}
use Rattle.scanner.proofs.Unfolding.{SymbolAt}
use Rattle.grammar.specs.Believed.Grammar.{begins}
use Rattle.grammar.specs.Believed.Rfc733.{same_class, class_number, kind_number, typed_kind, include}
use Rattle.addresses.proofs.ClassCases.{tag, is_false}
use Rattle.expansion.specs.Ties.Walk.{include_next, after_one, sought}
use Rattle.addresses.specs.Ties.Steps.{symbols_from}
use Rattle.expansion.specs.Ties.Steps.{InTypedIs, IncludeComes, OpenedIs}
use Rattle.expansion.specs.declared.levels.Levels.{Levels}
use Rattle.expansion.proofs.SeekSteps.{NotFound, no_symbols, next_symbol}

-- the kind of a typed address is that of an Include
abbrev pub is_include : List ℕ → Bool
is_include letters = eqb (kind_number (typed_kind letters)) (kind_number include)

-- a class's number is its place in its declaration
tag_is : (c : Class) → tag c ≡ class_number c
tag_is Atom = refl
tag_is Quoted = refl
tag_is At = refl
tag_is LessThan = refl
tag_is GreaterThan = refl
tag_is Comma = refl
tag_is Semicolon = refl
tag_is Colon = refl
tag_is Stray = refl
tag_is Dot = refl
tag_is Literal = refl

-- the code's test of two classes
abbrev pub is_class : Class → Class → Bool
is_class c d = sameb class-declared.the_type c d

turned : (x y : ℕ) (z : Bool) → eqb y x ≡ z → eqb x y ≡ z
turned x y true e = eq-eqb x y (sym (eqb-true y x e))
turned x y false e = ne_eqb x y (λ f. eqb-false y x e (sym f))

class_test : (c d : Class) → is_class c d ≡ same_class d c
class_test c d = ap₂ eqb (tag_is c) (tag_is d) ∙ turned (class_number c) (class_number d) _ refl

pub class_is : (c d : Class) {z : Bool} → z ≡ not (is_class c d) → z ≡ false → same_class d c ≡ true
class_is c d e f = sym (class_test c d) ∙ is_true (is_class c d) (sym e ∙ f)
  where
    is_true : (b : Bool) → not b ≡ false → b ≡ true
    is_true true e = refl
    is_true false e = sym e

pub class_is_not : (c d : Class) {z : Bool} → z ≡ not (is_class c d) → z ≡ true → same_class d c ≡ false
class_is_not c d e f = sym (class_test c d) ∙ is_false (is_class c d) (sym e ∙ f)

module _ (classes text : List ℕ) where
  pub nothing_comes : (coming : Next) (at : ℕ) → coming ≡ next_of (scan_by classes text at) → NotFound coming → include_next (symbols_from classes text at) ≡ false
  nothing_comes coming at e h = ap include_next (no_symbols classes text coming at e h)

  module _ {at : ℕ} {word : Class} {first end : ℕ} (x : SymbolAt classes text at word first end) where
    word_is : include_next (symbols_from classes text at) ≡ both (both (same_class Atom word) (begins same_class (Colon ∷ []) (symbols_from classes text end))) (is_include (meaning_at classes text word first end))
    word_is = ap include_next (next_symbol classes text x)

    pub no_atom : same_class Atom word ≡ false → include_next (symbols_from classes text at) ≡ false
    no_atom e = word_is ∙ rw e

    module _ (a : word ≡ Atom) where
      atom_is : (b c : Bool) → begins same_class (Colon ∷ []) (symbols_from classes text end) ≡ b → is_include (part text first end) ≡ c → include_next (symbols_from classes text at) ≡ both b c
      atom_is b c e f = word_is ∙ rw a (ap₂ both e f)

      pub other_word : is_include (part text first end) ≡ false → include_next (symbols_from classes text at) ≡ false
      other_word l = atom_is _ false refl l ∙ both_false (begins same_class (Colon ∷ []) (symbols_from classes text end))

      pub no_more : (coming : Next) → coming ≡ next_of (scan_by classes text end) → NotFound coming → include_next (symbols_from classes text at) ≡ false
      no_more coming e h = atom_is false _ (ap (begins same_class (Colon ∷ [])) (no_symbols classes text coming end e h)) refl

      module _ {mark : Class} {place behind : ℕ} (y : SymbolAt classes text end mark place behind) where
        colon_is : begins same_class (Colon ∷ []) (symbols_from classes text end) ≡ both (same_class Colon mark) true
        colon_is = ap (begins same_class (Colon ∷ [])) (next_symbol classes text y)

        pub no_colon : same_class Colon mark ≡ false → include_next (symbols_from classes text at) ≡ false
        no_colon e = atom_is false _ (colon_is ∙ rw e) refl

        pub include_comes : is_include (part text first end) ≡ true → same_class Colon mark ≡ true → IncludeComes classes text at behind
        include_comes l e =
            record {
              is = atom_is true true (colon_is ∙ rw e) l;
              rest = sym (ap (λ xs. after_one (after_one xs)) (next_symbol classes text x) ∙ ap after_one (next_symbol classes text y));
            }

-- ---- where it leads

module _ (classes text : List ℕ) (at : ℕ) (levels : Levels) (store : List ℕ) where
  pub opened_nowhere : InTypedIs levels true → OpenedIs classes text at levels store None
  opened_nowhere e s i = ap (λ z. pick z None (sought store (symbols_from classes text at))) (e s i)

  pub opened_sought : InTypedIs levels false → {r : Option ℕ} → r ≡ sought store (symbols_from classes text at) → OpenedIs classes text at levels store r
  opened_sought e f s i = f ∙ ap (λ z. pick z None (sought store (symbols_from classes text at))) (e s i)
