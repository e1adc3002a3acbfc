-- Lists at the bounds of levels and of records, refused ones, and kinds, as evaluations of the executable answer; document 01's examples stand in crate `examples`. Assumes nothing.
use Prim.Native.Nat.{ℕ, zero, suc, ◌+◌}
use Prim.Native.String.{String, len}
use native.Mathlib.Omega.{arith}
use mathlib.Core.Path.{◌≡◌, refl}
use mathlib.Core.Bool.{false}
use mathlib.Core.List.{List, [], ◌∷◌}
use lib.ListN.{length}
use Rattle.octets.specs.Believed.Letters.{lower, same}
use Rattle.octets.specs.Believed.Numbers.{level_limit}
use Rattle.octets.specs.Believed.Text.{bytes}
use Rattle.records.specs.Believed.AddressRecords.{AddressRecord}
use Rattle.grammar.specs.Believed.Grammar.{levels}
use Rattle.grammar.specs.Believed.Language.{Verdict, accepted, refused, verdict_number, verdict_position}
use Rattle.grammar.specs.Believed.Records.{records}
use Rattle.grammar.specs.Believed.Rfc733.{Derivation, DerivedList}
use Rattle.grammar.proofs.Any.OnlyRight.{unfit_none}
use Rattle.grammar.specs.Executable.Trees733.{Class, Atom, Quoted, At, LessThan, GreaterThan, Semicolon, Colon, Stray, Sym, of}
use Rattle.grammar.proofs.Symbols.{InOrder}
use Rattle.grammar.specs.Executable.Machine733.{answer}
use Rattle.grammar.proofs.Rfc733.Condition3.{answer_right}

-- a symbol from a position to another, its meaning left out
abbrev s : Class → ℕ → ℕ → Sym
s c i j = of c record { start = i; end = j; meaning = []; apart = false }

abbrev records_of : Verdict Class Derivation → List AddressRecord
records_of (accepted k) = records k
records_of (refused why rest) = []

-- `""` has one record for two bytes: more there are not
half_met : InOrder 0 2 (s Quoted 0 2 ∷ []) × (length (records_of (answer level_limit (s Quoted 0 2 ∷ []))) ≡ 1)
half_met = ((omega arith, omega arith, omega arith), refl)

-- ---- levels

-- symbols of one byte each
abbrev placed : ℕ → List Class → List Sym
placed i [] = []
placed i (c ∷ cs) = s c i (suc i) ∷ placed (suc i) cs

abbrev times : ℕ → Class → List Class → List Class
times zero c cs = cs
times (suc n) c cs = c ∷ times n c cs

-- number, position and count
abbrev Gives : List Class → ℕ → ℕ → ℕ → Type 0
Gives cs number position count =
    let v = answer level_limit (placed 0 cs) in
    (verdict_number v ≡ number) × (verdict_position (length cs) v ≡ position) × (length (records_of v) ≡ count)

levels_64 : Gives (times 64 LessThan (times 64 GreaterThan [])) 0 0 64
levels_64 = (refl, refl, refl)

-- .. and so many levels
abbrev levels_of : Verdict Class Derivation → ℕ
levels_of (accepted k) = levels k
levels_of (refused why rest) = 0

levels_of_64 : levels_of (answer level_limit (placed 0 (times 64 LessThan (times 64 GreaterThan [])))) ≡ 64
levels_of_64 = refl

levels_65 : Gives (times 65 LessThan (times 65 GreaterThan [])) 10 64 0
levels_65 = (refl, refl, refl)

-- with 63 levels open the second colon of a typed address opens nothing
typed_64 : Gives (times 63 LessThan (Colon ∷ Atom ∷ Colon ∷ Quoted ∷ times 63 GreaterThan [])) 0 0 65
typed_64 = (refl, refl, refl)

-- with 64 open a colon after a mailbox is no list's, and one after a phrase is a level too many
mailbox_colon : Gives (times 64 LessThan (Atom ∷ At ∷ Atom ∷ Colon ∷ [])) 8 67 0
mailbox_colon = (refl, refl, refl)

phrase_colon : Gives (times 64 LessThan (Atom ∷ Colon ∷ [])) 10 65 0
phrase_colon = (refl, refl, refl)

-- a lone ")" or backslash, and "at" where a word or a typed atom is wanted
stray : Gives (Atom ∷ Stray ∷ []) 8 1 0
stray = (refl, refl, refl)

at_no_word : Gives (At ∷ []) 8 0 0
at_no_word = (refl, refl, refl)

at_no_typed : Gives (Colon ∷ At ∷ Colon ∷ Quoted ∷ []) 8 1 0
at_no_typed = (refl, refl, refl)

-- `Men at Work: ;` is no group
men_at_work : Gives (Atom ∷ At ∷ Atom ∷ Colon ∷ Semicolon ∷ []) 8 3 0
men_at_work = (refl, refl, refl)

-- `: A : : A : "q" ; ;` has no derivation, of whatever levels
abbrev typed_in_typed : List Sym
typed_in_typed = placed 0 (Colon ∷ Atom ∷ Colon ∷ Colon ∷ Atom ∷ Colon ∷ Quoted ∷ Semicolon ∷ Semicolon ∷ [])

typed_in_typed_lem : (k : Derivation) → DerivedList k typed_in_typed → ⊥
typed_in_typed_lem k d = unfit_none DerivedList levels level_limit {rest = placed 7 (Semicolon ∷ Semicolon ∷ [])} (answer_right level_limit typed_in_typed) k d

-- ---- kinds

-- the kinds of `:` text `:` and a quoted-string
abbrev kinds_of : List AddressRecord → List ℕ
kinds_of [] = []
kinds_of (r ∷ rs) = r.kind ∷ kinds_of rs

abbrev typed_kinds : String → List ℕ
typed_kinds text =
    kinds_of (records_of (answer level_limit (s Colon 0 1 ∷ of Atom record { start = 1; end = 1 + len text; meaning = bytes text; apart = false } ∷ s Colon 20 21 ∷ s Quoted 22 24 ∷ [])))

-- Include is 5, Postal 6, any other atom 7; case ignored
typed_kinds_lem : (typed_kinds "Include" ≡ 5 ∷ 4 ∷ []) × (typed_kinds "iNCLUDE" ≡ 5 ∷ 4 ∷ []) × (typed_kinds "PoStAl" ≡ 6 ∷ 4 ∷ []) × (typed_kinds "Includes" ≡ 7 ∷ 4 ∷ [])
unfolding lower same
typed_kinds_lem = (refl, refl, refl, refl)
