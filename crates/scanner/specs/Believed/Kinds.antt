-- What the scanner tells apart: the kind of a byte, from its class.
use Rattle.std.specs.Prelude.{ℕ, Bool, List, eqb, get_or}
use Rattle.octets.specs.Believed.Choice.{pick}
use Rattle.octets.specs.Believed.Classes.{white, control, open_parenthesis, close_parenthesis, less_than, greater_than, at_sign, comma, semicolon, colon, backslash, quote, above127, dot, open_bracket, close_bracket}
use Rattle.octets.specs.Believed.Octets.{return_byte}
use Rattle.scanner.specs.declared.Class.TheVariants.{At, LessThan, GreaterThan, Comma, Semicolon, Colon, Dot}
use Rattle.scanner.specs.declared.ByteKind.{ByteKind}
use Rattle.scanner.specs.declared.ByteKind.TheVariants.{White, Control, Return, Plain, Open, Close, Quote, Backslash, Mark, Above, OpenBracket, CloseBracket}

-- the kind of a class: a special that is a symbol of the address rules is a mark
abbrev pub kind_of_class : ℕ → ByteKind
kind_of_class class =
    pick (eqb class white) White (pick (eqb class control) Control
    (pick (eqb class open_parenthesis) Open (pick (eqb class close_parenthesis) Close
    (pick (eqb class less_than) (Mark LessThan) (pick (eqb class greater_than) (Mark GreaterThan)
    (pick (eqb class at_sign) (Mark At) (pick (eqb class comma) (Mark Comma)
    (pick (eqb class semicolon) (Mark Semicolon) (pick (eqb class colon) (Mark Colon)
    (pick (eqb class backslash) Backslash (pick (eqb class quote) Quote
    (pick (eqb class above127) Above (pick (eqb class dot) (Mark Dot)
    (pick (eqb class open_bracket) OpenBracket (pick (eqb class close_bracket) CloseBracket Plain)))))))))))))))

-- the kind of a byte, by a table of classes: CR is told apart from the other control bytes
unfoldable pub kind_of : List ℕ → ℕ → ByteKind
kind_of classes b = pick (eqb b return_byte) Return (kind_of_class (get_or classes b 0))

-- the kind of a character: the one after the CRLF of a fold is white space
abbrev pub character_kind : List ℕ → ℕ → Bool → ByteKind
character_kind classes b folded = pick folded White (kind_of classes b)
