-- The symbols of both editions: the test of classes tells them apart; symbols that stand one after the other. Assumes nothing.
use Prim.Native.Nat.{ℕ, ◌+◌, ◌≤◌}
use mathlib.Core.Path.{◌≡◌, refl, sym, ap, ◌∙◌}
use mathlib.Core.Bool.{Bool, true, false, not, true≢false}
use mathlib.Core.List.{List, [], ◌∷◌}
use lib.ListN.{get_or}
use borrow.Author.Tests.{eqb-true}
use Rattle.octets.specs.Believed.Choice.{pick, either}
use Rattle.grammar.specs.Believed.Rfc733.{class_number, same_class}
use Rattle.grammar.specs.Executable.Trees733.{Class, Atom, Quoted, At, LessThan, GreaterThan, Comma, Semicolon, Colon, Stray, Dot, Literal, Lexeme, Sym, one_of}

-- a lexeme, where it does not matter which
abbrev pub nowhere : Lexeme
nowhere = record { start = 0; end = 0; meaning = []; apart = false }

-- ---- the test of classes tells them apart

abbrev all_classes : List Class
all_classes = Atom ∷ Quoted ∷ At ∷ LessThan ∷ GreaterThan ∷ Comma ∷ Semicolon ∷ Colon ∷ Stray ∷ Dot ∷ Literal ∷ []

abbrev class_at : ℕ → Class
class_at n = get_or all_classes n Stray

class_at_lem : (c : Class) → class_at (class_number c) ≡ c
class_at_lem Atom = refl
class_at_lem Quoted = refl
class_at_lem At = refl
class_at_lem LessThan = refl
class_at_lem GreaterThan = refl
class_at_lem Comma = refl
class_at_lem Semicolon = refl
class_at_lem Colon = refl
class_at_lem Stray = refl
class_at_lem Dot = refl
class_at_lem Literal = refl

pub same_class_lem : (c d : Class) → same_class c d ≡ true → c ≡ d
same_class_lem c d e = sym (class_at_lem c) ∙ ap class_at (eqb-true (class_number c) (class_number d) e) ∙ class_at_lem d

-- every class is one of them
among : (c : Class) → one_of all_classes c ≡ true
among Atom = refl
among Quoted = refl
among At = refl
among LessThan = refl
among GreaterThan = refl
among Comma = refl
among Semicolon = refl
among Colon = refl
among Stray = refl
among Dot = refl
among Literal = refl

-- ---- what is shown of some classes, one by one

-- it holds for each of these that fails a test
abbrev pub EachOther : (Class → Type 0) → (Class → Bool) → List Class → Type 0
EachOther P test [] = Unit {0}
EachOther P test (d ∷ ds) = pick (test d) (EachOther P test ds) (P d × EachOther P test ds)

other_of : (P : Class → Type 0) (test : Class → Bool) (ds : List Class) → EachOther P test ds → (c : Class) → one_of ds c ≡ true → test c ≡ false → P c
other_of P test [] each c o f = absurd (true≢false (sym o))
other_of P test (d ∷ ds) each c o f = by (same_class d c) refl o (test d) refl each (λ e. other_of P test ds e c)
  where
    by : (b : Bool) → same_class d c ≡ b → either b (one_of ds c) ≡ true → (b' : Bool) → test d ≡ b' → pick b' (EachOther P test ds) (P d × EachOther P test ds)
        → (EachOther P test ds → one_of ds c ≡ true → test c ≡ false → P c) → P c
    by true h o true e each more = let g : c ≡ d = sym (same_class_lem d c h) in absurd (true≢false (sym e ∙ rw g at f))
    by true h o false e each more = rw (sym (same_class_lem d c h)) each.0
    by false h o true e each more = more each o f
    by false h o false e each more = more each.1 o f

-- .. so for each class that fails it
pub each_other : (P : Class → Type 0) (test : Class → Bool) → EachOther P test all_classes → (c : Class) → test c ≡ false → P c
each_other P test each c f = other_of P test all_classes each c (among c) f

-- .. and for each that passes another
pub each_of : (P : Class → Type 0) (test : Class → Bool) → EachOther P (λ c. not (test c)) all_classes → (c : Class) → test c ≡ true → P c
each_of P test each c e = each_other P (λ d. not (test d)) each c (ap not e)

-- ---- symbols in order

-- the fewest bytes of a symbol: a quoted-string has its quotes
abbrev pub least_bytes : Class → ℕ
least_bytes c = pick (same_class c Quoted) 2 1

-- the symbols stand one after the other between two positions
abbrev pub InOrder : ℕ → ℕ → List Sym → Type 0
InOrder from to [] = from ≤ to
InOrder from to (x ∷ xs) = (from ≤ x.lexeme.start) × (x.lexeme.start + least_bytes x.class ≤ x.lexeme.end) × InOrder x.lexeme.end to xs
