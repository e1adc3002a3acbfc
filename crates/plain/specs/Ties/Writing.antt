-- What the functions below the entry points do.
use Rattle.std.specs.Prelude.{Bool, false, List, ℕ, ltb, leb, length}
use Rattle.octets.specs.Believed.Choice.{pick, both}
use Rattle.scanner.specs.declared.Class.{Class}
use Rattle.scanner.specs.declared.Class.TheVariants.{Colon}
use Rattle.scanner.specs.declared.Next.{Next}
use Rattle.scanner.specs.declared.Next.TheVariants.{Found, Ended, Fault}
use Rattle.scanner.specs.declared.cursor.Ahead.{Ahead}
use Rattle.scanner.specs.declared.cursor.Ahead.TheVariants.{Symbol, End, Faulty}
use Rattle.grammar.specs.Believed.Rfc733.{same_class}
use Rattle.plain.specs.Ties.Walking.{symbol_text}
use Rattle.plain.specs.declared.places.Place.{Place}

-- texts up to this length have plain texts whose length a count holds
abbrev pub text_limit : ℕ
text_limit = 1073741824

-- the most that is written before a symbol
abbrev pub written_limit : ℕ
written_limit = 4611686018427387904

-- a symbol from `start` to `end` stands in a text, and a count holds the text written from n on
abbrev pub can_write : List ℕ → ℕ → ℕ → ℕ → Bool
can_write text start end n = both (both (ltb start end) (leb end (length text))) (both (leb (length text) text_limit) (leb n written_limit))

-- a symbol with what stands before it, if it can be written
abbrev pub symbol_if : Bool → Class → List ℕ → Place → Bool → List ℕ → List ℕ
symbol_if can class meaning place colon rest = pick can (symbol_text class meaning place colon rest) rest

-- the next symbol is ":"
abbrev pub is_colon : Next → Bool
is_colon (Found symbol) = same_class Colon symbol.class
is_colon Ended = false
is_colon (Fault number p) = false

-- ":" stands ahead of a cursor
abbrev pub colon_ahead : Ahead → Bool
colon_ahead (Symbol class) = same_class Colon class
colon_ahead End = false
colon_ahead (Faulty number) = false
