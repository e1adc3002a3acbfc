-- Answers as numbers: in a lent array, and as the value of a function.
use Rattle.std.specs.Prelude.{ℕ, List, [], ◌∷◌, ℤ, Result}
use Rattle.std.proofs.lemmas.List.Edits.{sets}
use Rattle.octets.specs.Believed.Choice.{pick}
use Rattle.octets.specs.Believed.Numbers.{accepted}
use Rattle.octets.specs.Believed.Answers.{number_of, position_of, count_of}
use Rattle.octets.specs.declared.answers.Answer.{Answer}
use Rattle.scanner.specs.declared.Class.{Class}
use Rattle.scanner.specs.declared.Class.TheVariants.{Atom, Quoted, At, LessThan, GreaterThan, Comma, Semicolon, Colon, Stray, Dot, Literal}
use Rattle.scanner.specs.declared.Next.{Next}
use Rattle.scanner.specs.declared.Next.TheVariants.{Found, Ended, Fault}
use Rattle.dates.specs.Believed.Answers as date
use Rattle.octets.specs.declared.answers.Fault.{Fault as DateFault}
use Rattle.reply.specs.Believed.Reply.{left_for_from}
use Rattle.touch.specs.Believed.Answers as touch

-- a lent array afterwards: the number, position and count at its front, as far as it reaches
abbrev pub told_in : List ℕ → Answer → List ℕ
told_in lent answer = sets lent 0 (number_of answer ∷ position_of answer ∷ count_of answer ∷ [])

-- of an expansion: the openings, too
abbrev pub expansion_told_in : List ℕ → Answer → ℕ → List ℕ
expansion_told_in lent answer openings = sets lent 0 (number_of answer ∷ position_of answer ∷ count_of answer ∷ openings ∷ [])

-- the number by which C tells a symbol's class: atom, quoted-string, "at" or "@", each mark; 9 for any other
abbrev pub class_number : Class → ℕ
class_number Atom = 1
class_number Quoted = 2
class_number At = 3
class_number LessThan = 4
class_number GreaterThan = 5
class_number Comma = 6
class_number Semicolon = 7
class_number Colon = 8
class_number Stray = 9
class_number Dot = 9
class_number Literal = 9

-- of the next symbol: the number and position of a fault, or 0 and 0; its class, its place, the length of its meaning, and 1 where it stands apart; zeros where there is none
abbrev pub symbol_numbers : Next → List ℕ
symbol_numbers (Found symbol) = accepted ∷ 0 ∷ class_number symbol.class ∷ symbol.start ∷ symbol.end ∷ symbol.length ∷ pick symbol.apart 1 0 ∷ []
symbol_numbers Ended = accepted ∷ 0 ∷ 0 ∷ 0 ∷ 0 ∷ 0 ∷ 0 ∷ []
symbol_numbers (Fault number position) = number ∷ position ∷ 0 ∷ 0 ∷ 0 ∷ 0 ∷ 0 ∷ []

-- a lent array afterwards, with these numbers at its front, as far as it reaches
abbrev pub symbol_told_in : List ℕ → Next → List ℕ
symbol_told_in lent next = sets lent 0 (symbol_numbers next)

-- the same of a date's answer
abbrev pub date_told_in : List ℕ → Result ℤ DateFault → List ℕ
date_told_in lent answer = sets lent 0 (date.number_of answer ∷ date.position_of answer ∷ date.count_of answer ∷ [])

-- of what is answered for a touched byte: what the byte is and what could have stood there, too
abbrev pub touch_told_in : List ℕ → touch.Touched → List ℕ
touch_told_in lent answer = sets lent 0 (touch.number_of answer ∷ touch.position_of answer ∷ touch.count_of answer ∷ touch.category_of answer ∷ touch.names_of answer ∷ [])

-- which of the two bodies to reply to: 0 for Reply-To's, 1 for From's
abbrev pub reply_number : List ℕ → ℕ
reply_number reply = pick (left_for_from reply) 1 0
