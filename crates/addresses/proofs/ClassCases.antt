-- From an arm of a `match` on a class, or on what comes next, to a test of it. Assumes nothing.
use mathlib.Core.Path.{◌≡◌, refl, sym}
use mathlib.Core.Bool.{Bool, true, false, not, true≢false}
use mathlib.Core.List.{List, [], ◌∷◌}
use Prim.Native.Nat.{ℕ}
use lib.Dec.{T, lit<}
use mir.Val.{has_key}
use types.Run.{OneOf, miss}
use denote.Enum.Declared.{tag_of}
use Rattle.octets.proofs.Tables.{at}
use Rattle.octets.specs.Believed.Tests.{every}
use Rattle.scanner.specs.contracts.Class as class-declared
use Rattle.scanner.specs.contracts.Next as next-declared
use Rattle.scanner.specs.declared.Next.{Next}
use Rattle.scanner.specs.declared.Next.TheVariants.{Found, Ended, Fault}
use Rattle.grammar.proofs.Rfc733.Readers.{ends_address}
use Rattle.grammar.specs.Executable.Trees733.{Class, Atom, Quoted, At, LessThan, GreaterThan, Comma, Semicolon, Colon, Stray, Dot, Literal, one_of}

-- a class's place in its declaration
abbrev pub tag : Class → ℕ
tag class = tag_of class-declared.the_type class

-- a class with one of these keys passes the test
abbrev implies : Bool → Bool → Bool
implies true b = b
implies false b = true

abbrev all : List Class
all = Atom ∷ Quoted ∷ At ∷ LessThan ∷ GreaterThan ∷ Comma ∷ Semicolon ∷ Colon ∷ Stray ∷ Dot ∷ Literal ∷ []

abbrev each : List ℕ → (Class → Bool) → Bool
each ks test = every (λ n class. implies (has_key ks n) (test class)) 0 all

of_key : (ks : List ℕ) (n : ℕ) (b k : Bool) → has_key ks n ≡ k → T (implies k b) → OneOf ks n → b ≡ true
of_key ks n true k e t o = refl
of_key ks n false true e t o = absurd t
of_key ks n false false e t o = absurd (miss ks n (rw e tt) o)

pub by_class : (ks : List ℕ) (test : Class → Bool) → T (each ks test) → (class : Class) → OneOf ks (tag class) → test class ≡ true
by_class ks test t Atom o = of_key ks 0 (test Atom) (has_key ks 0) refl (at (λ n class. implies (has_key ks n) (test class)) all Stray t 0 (lit< tt)) o
by_class ks test t Quoted o = of_key ks 1 (test Quoted) (has_key ks 1) refl (at (λ n class. implies (has_key ks n) (test class)) all Stray t 1 (lit< tt)) o
by_class ks test t At o = of_key ks 2 (test At) (has_key ks 2) refl (at (λ n class. implies (has_key ks n) (test class)) all Stray t 2 (lit< tt)) o
by_class ks test t LessThan o = of_key ks 3 (test LessThan) (has_key ks 3) refl (at (λ n class. implies (has_key ks n) (test class)) all Stray t 3 (lit< tt)) o
by_class ks test t GreaterThan o = of_key ks 4 (test GreaterThan) (has_key ks 4) refl (at (λ n class. implies (has_key ks n) (test class)) all Stray t 4 (lit< tt)) o
by_class ks test t Comma o = of_key ks 5 (test Comma) (has_key ks 5) refl (at (λ n class. implies (has_key ks n) (test class)) all Stray t 5 (lit< tt)) o
by_class ks test t Semicolon o = of_key ks 6 (test Semicolon) (has_key ks 6) refl (at (λ n class. implies (has_key ks n) (test class)) all Stray t 6 (lit< tt)) o
by_class ks test t Colon o = of_key ks 7 (test Colon) (has_key ks 7) refl (at (λ n class. implies (has_key ks n) (test class)) all Stray t 7 (lit< tt)) o
by_class ks test t Stray o = of_key ks 8 (test Stray) (has_key ks 8) refl (at (λ n class. implies (has_key ks n) (test class)) all Stray t 8 (lit< tt)) o
by_class ks test t Dot o = of_key ks 9 (test Dot) (has_key ks 9) refl (at (λ n class. implies (has_key ks n) (test class)) all Stray t 9 (lit< tt)) o
by_class ks test t Literal o = of_key ks 10 (test Literal) (has_key ks 10) refl (at (λ n class. implies (has_key ks n) (test class)) all Stray t 10 (lit< tt)) o

pub is_false : (b : Bool) → not b ≡ true → b ≡ false
is_false true e = absurd (true≢false (sym e))
is_false false e = refl

-- .. or fails it
pub by_class_not : (ks : List ℕ) (test : Class → Bool) → T (each ks (λ c. not (test c))) → (class : Class) → OneOf ks (tag class) → test class ≡ false
by_class_not ks test t class o = is_false (test class) (by_class ks (λ c. not (test c)) t class o)

-- what comes next is no symbol
pub no_symbol : {A : Type 0} (f : Next → A) (a : A) → f Ended ≡ a → ((number p : ℕ) → f (Fault number p) ≡ a) → (r : Next) → OneOf (1 ∷ 2 ∷ []) (tag_of next-declared.the_type r) → f r ≡ a
no_symbol f a e g (Found symbol) o = absurd (miss (1 ∷ 2 ∷ []) 0 tt o)
no_symbol f a e g Ended o = e
no_symbol f a e g (Fault number p) o = g number p

-- a class that begins no address and does not end one: "at", or what fits no rule
abbrev pub begins_none : Class → Bool
begins_none c = one_of (At ∷ Stray ∷ Dot ∷ Literal ∷ []) c

-- what neither ends an address nor begins one
pub begins_none_lem : (class : Class) → ends_address class ≡ false → (class ≡ Atom → ⊥) → (class ≡ Quoted → ⊥) → (class ≡ LessThan → ⊥) → (class ≡ Colon → ⊥) → begins_none class ≡ true
begins_none_lem Atom e a q l c = absurd (a refl)
begins_none_lem Quoted e a q l c = absurd (q refl)
begins_none_lem At e a q l c = refl
begins_none_lem LessThan e a q l c = absurd (l refl)
begins_none_lem GreaterThan e a q l c = absurd (true≢false e)
begins_none_lem Comma e a q l c = absurd (true≢false e)
begins_none_lem Semicolon e a q l c = absurd (true≢false e)
begins_none_lem Colon e a q l c = absurd (c refl)
begins_none_lem Stray e a q l c = refl
begins_none_lem Dot e a q l c = refl
begins_none_lem Literal e a q l c = refl

-- what does not end an address
pub ends_not : (class : Class) → (class ≡ Comma → ⊥) → (class ≡ GreaterThan → ⊥) → (class ≡ Semicolon → ⊥) → ends_address class ≡ false
ends_not Atom c g s = refl
ends_not Quoted c g s = refl
ends_not At c g s = refl
ends_not LessThan c g s = refl
ends_not GreaterThan c g s = absurd (g refl)
ends_not Comma c g s = absurd (c refl)
ends_not Semicolon c g s = absurd (s refl)
ends_not Colon c g s = refl
ends_not Stray c g s = refl
ends_not Dot c g s = refl
ends_not Literal c g s = refl
