-- Document 02, CR 3: what the tool answers for a touched byte, in the order of its checks: 1, 13 of the body, the faults of
-- scanning, 8, 9 or 10 with what could have stood there, 11 of its own table, 13 of the touched place.
-- The verdict is that of the executable layer, the only right one by `Decides`; `ByGrammar` says the same over the grammar alone.
use Rattle.std.specs.Prelude.{ℕ, List, take, Err}
use Rattle.octets.specs.Believed.Answers.{fault}
use Rattle.octets.specs.Believed.Numbers.{level_limit}
use Rattle.scanner.specs.Believed.Scanning.{scan}
use Rattle.scanner.specs.Believed.Answers.{body_checked, unless_fault}
use Rattle.scanner.specs.declared.Class.{Class}
use Rattle.grammar.specs.Believed.Language.{Verdict, refused, number}
use Rattle.grammar.specs.Believed.Language as language
use Rattle.grammar.specs.Believed.Rfc733.{Derivation}
use Rattle.grammar.specs.Executable.Machine733.{answer}
use Rattle.addresses.specs.Believed.Editions.{body_symbols}
use Rattle.expected.specs.Executable.Named.{expected_in}
use Rattle.touch.specs.Believed.Answers.{Outcome, unchanged, refusal, of_list}
use Rattle.touch.specs.declared.Untouched.TheVariants.{Expected}

module _ (message : List ℕ) (start end place : ℕ) (path : List ℕ) where
  -- a verdict on the body: a list, or the refusal with what could have stood there
  abbrev pub decided : Verdict Class Derivation → Outcome
  decided (language.accepted k) = of_list message start end place path k
  decided (refused why rest) = unchanged path (Err (Expected (fault (number why) (language.start_of end rest)) (expected_in message start end)))

  -- the outcome for any message, positions, touched place and path
  abbrev pub touched : Outcome
  touched =
      body_checked (refusal path) message start end
      (unless_fault (refusal path) (scan (take end message) start) (decided (answer level_limit (body_symbols message start end))))
