-- An edition of the address rules, as data: how a body is scanned, how the rules take its symbols, and the rules. CR 11: RFC 733 and RFC 822.
use Rattle.std.specs.Prelude.{ℕ, ◌+◌, List, [], ◌∷◌, eqb, take}
use Rattle.octets.specs.Believed.Choice.{pick}
use Rattle.octets.specs.Believed.Classes.{class_table, class_table822}
use Rattle.scanner.specs.Believed.Symbols.{Symbol}
use Rattle.scanner.specs.Believed.Scanning.{scan_by, symbols_of}
use Rattle.scanner.specs.declared.Class.{Class}
use Rattle.scanner.specs.declared.Class.TheVariants.{Atom, At}
use Rattle.grammar.specs.Believed.Grammar.{Grammar}
use Rattle.grammar.specs.Believed.Rfc733 as of733
use Rattle.grammar.specs.Believed.Rfc822 as of822

pub record Edition (N : Type 0) : Type 0 where
  -- the class of each of the 256 byte values
  pub classes : List ℕ
  -- the scanner's symbols, as the rules take them
  pub taken : List (Symbol Class) → List (Symbol Class)
  -- the rules, and the nonterminal of a list in them
  pub grammar : Grammar Class N
  pub list : N

-- the symbols of the body of a message from `start` up to `end`, as the rules of an edition take them
abbrev pub symbols_in : {N : Type 0} → Edition N → List ℕ → ℕ → ℕ → List (Symbol Class)
symbols_in edition message start end = edition.taken (symbols_of (scan_by edition.classes (take end message) start))

-- RFC 733 takes the symbols as they are
abbrev pub edition733 : Edition of733.Nonterminal
edition733 = record { classes = class_table; taken = λ xs. xs; grammar = of733.rfc733; list = of733.list }

-- the symbols of a body in RFC 733
abbrev pub body_symbols : List ℕ → ℕ → ℕ → List (Symbol Class)
body_symbols message start end = symbols_in edition733 message start end

-- RFC 822 has no rule of its own for the atom "at", which is an atom as any other; it has two bytes, and "@" one
abbrev pub class_in822 : Class → ℕ → ℕ → Class
class_in822 class start end = pick (of733.same_class At class) (pick (eqb end (start + 1)) At Atom) class

abbrev pub taken_in822 : List (Symbol Class) → List (Symbol Class)
taken_in822 [] = []
taken_in822 (x ∷ xs) = record { class = class_in822 x.class x.lexeme.start x.lexeme.end; lexeme = x.lexeme } ∷ taken_in822 xs

abbrev pub edition822 : Edition of822.Nonterminal
edition822 = record { classes = class_table822; taken = taken_in822; grammar = of822.rfc822; list = of822.list }
