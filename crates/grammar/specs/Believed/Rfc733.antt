-- Document 01, "Addresses": the address rules of RFC 733, house rules included, as data.
use Rattle.std.specs.Prelude.{ℕ, Bool, true, false, List, [], ◌∷◌, eqb}
use Rattle.std.proofs.Math.Option.{Option, none, some}
use Rattle.octets.specs.Believed.Choice.{pick}
use Rattle.octets.specs.Believed.Letters.{same_letters}
use Rattle.octets.specs.Believed.Numbers.{level_limit}
use Rattle.octets.specs.Believed.Text.{bytes}
use Rattle.scanner.specs.Believed.Symbols.{Symbol}
use Rattle.scanner.specs.declared.Class.{Class}
use Rattle.scanner.specs.declared.Class.TheVariants.{Atom, Quoted, At, LessThan, GreaterThan, Comma, Semicolon, Colon, Stray, Dot, Literal}
use Rattle.grammar.specs.Believed.Grammar.{Item, symbol, nonterminal, Rule, Grammar, Forest, Derived, levels}
use Rattle.grammar.specs.Believed.Language.{Verdict, Right}

-- ---- the classes of symbols

-- house rule: "@" and the atom "at", in any case of letters, are the class `At`; so that atom is never a word nor a typed atom
abbrev pub class_number : Class → ℕ
class_number Atom = 0
class_number Quoted = 1
class_number At = 2
class_number LessThan = 3
class_number GreaterThan = 4
class_number Comma = 5
class_number Semicolon = 6
class_number Colon = 7
class_number Stray = 8
class_number Dot = 9
class_number Literal = 10

abbrev pub same_class : Class → Class → Bool
same_class c d = eqb (class_number c) (class_number d)

-- ---- the kinds of records

pub data Kind : Type 0 where
  mailbox angle_list group quoted include postal other_typed : Kind

abbrev pub kind_number : Kind → ℕ
kind_number mailbox = 1
kind_number angle_list = 2
kind_number group = 3
kind_number quoted = 4
kind_number include = 5
kind_number postal = 6
kind_number other_typed = 7

-- what the typed atom tells, case ignored
abbrev pub typed_kind : List ℕ → Kind
typed_kind atom = pick (same_letters atom (bytes "Include")) include (pick (same_letters atom (bytes "Postal")) postal other_typed)

-- ---- the rules, in document 01's order

pub data Nonterminal : Type 0 where
  list slot address phrase at_nodes node word : Nonterminal

-- a rule that makes no record
abbrev pub plain : {N : Type 0} → List (Item Class N) → Rule Class N
plain items = record { items = items; opens = false; never = none; makes = none }

-- a rule of an address: its kind, which the name's meaning may tell; which of its items is the name; the items. It is no level ..
abbrev pub flat : {N : Type 0} → (List ℕ → Kind) → Option ℕ → List (Item Class N) → Rule Class N
flat kind name items =
    record { items = items; opens = false; never = none; makes = some record { name = name; kind = λ meaning. kind_number (kind meaning) } }

-- .. or one level
abbrev pub level : {N : Type 0} → (List ℕ → Kind) → Option ℕ → List (Item Class N) → Rule Class N
level kind name items = let rule = flat kind name items in record { items = rule.items; opens = true; never = rule.never; makes = rule.makes }

-- a rule whose symbols never begin so
abbrev pub never_begins : {N : Type 0} → List Class → Rule Class N → Rule Class N
never_begins classes rule = record { items = rule.items; opens = rule.opens; never = some classes; makes = rule.makes }

-- a kind that no name changes
abbrev pub always : Kind → List ℕ → Kind
always kind meaning = kind

abbrev pub rules_of : Nonterminal → List (Rule Class Nonterminal)
-- any number of addresses, separated by one or more commas, which may also lead, trail or stand alone: a slot, with an address or without ..
rules_of list = plain (nonterminal slot ∷ nonterminal address ∷ []) ∷ plain (nonterminal slot ∷ []) ∷ []
-- .. and a slot is at the start and after each comma
rules_of slot = plain [] ∷ plain (nonterminal list ∷ symbol Comma ∷ []) ∷ []
-- mailbox; angle list with a phrase and without; group likewise; one quoted-string alone; typed.
-- House rule: what begins with ":", an atom and ":" is never a nameless group
rules_of address =
    flat (always mailbox) (some 0) (nonterminal phrase ∷ nonterminal at_nodes ∷ [])
    ∷ level (always angle_list) (some 0) (nonterminal phrase ∷ symbol LessThan ∷ nonterminal list ∷ symbol GreaterThan ∷ [])
    ∷ level (always angle_list) none (symbol LessThan ∷ nonterminal list ∷ symbol GreaterThan ∷ [])
    ∷ level (always group) (some 0) (nonterminal phrase ∷ symbol Colon ∷ nonterminal list ∷ symbol Semicolon ∷ [])
    ∷ never_begins (Colon ∷ Atom ∷ Colon ∷ []) (level (always group) none (symbol Colon ∷ nonterminal list ∷ symbol Semicolon ∷ []))
    ∷ flat (always quoted) (some 0) (symbol Quoted ∷ [])
    ∷ level typed_kind (some 1) (symbol Colon ∷ symbol Atom ∷ symbol Colon ∷ nonterminal address ∷ [])
    ∷ []
-- one or more words
rules_of phrase = plain (nonterminal word ∷ []) ∷ plain (nonterminal phrase ∷ nonterminal word ∷ []) ∷ []
-- one or more of ("at" or "@", node)
rules_of at_nodes = plain (symbol At ∷ nonterminal node ∷ []) ∷ plain (nonterminal at_nodes ∷ symbol At ∷ nonterminal node ∷ []) ∷ []
-- one word
rules_of node = plain (nonterminal word ∷ []) ∷ []
-- atom or quoted-string
rules_of word = plain (symbol Atom ∷ []) ∷ plain (symbol Quoted ∷ []) ∷ []

abbrev pub rfc733 : Grammar Class Nonterminal
rfc733 = record { same = same_class; rules = rules_of }

-- ---- condition 3 for RFC 733

abbrev pub Derivation : Type 0
Derivation = Forest Class Nonterminal

-- a derivation of these symbols from `list`
abbrev pub DerivedList : Derivation → List (Symbol Class) → Type 0
DerivedList forest xs = Derived rfc733 list forest xs

-- a verdict on these symbols is right, with at most `limit` levels
abbrev pub RightWithin : ℕ → List (Symbol Class) → Verdict Class Derivation → Type 0
RightWithin limit xs verdict = Right DerivedList levels limit xs verdict

-- .. with document 01's 64
abbrev pub RightVerdict : List (Symbol Class) → Verdict Class Derivation → Type 0
RightVerdict xs verdict = RightWithin level_limit xs verdict
