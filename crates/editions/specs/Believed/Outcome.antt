-- Document 02, CR 11: the address reader is told the edition, 733 or 822. What it answers, in the order 1, 21, 13 and then as document 01
-- has it; and condition 3, which takes the rules of the edition.
use Rattle.std.specs.Prelude.{ℕ, ◌≡◌, List, eqb, ltb, length}
use Rattle.octets.specs.Believed.Choice.{pick}
use Rattle.octets.specs.Believed.Answers.{number_of}
use Rattle.octets.specs.Believed.Numbers.{message_limit, level_limit, message_too_long, too_many_levels, edition_unknown}
use Rattle.octets.specs.declared.answers.Answer.{Answer}
use Rattle.scanner.specs.Believed.Symbols.{Symbol}
use Rattle.scanner.specs.declared.Class.{Class}
use Rattle.grammar.specs.Believed.Grammar.{Forest}
use Rattle.grammar.specs.Believed.Language.{Verdict}
use Rattle.grammar.specs.Believed.Rfc733 as rules733
use Rattle.grammar.specs.Believed.Rfc822.{Nonterminal}
use Rattle.grammar.specs.Executable.Machine822.{read}
use Rattle.addresses.specs.Believed.Editions.{edition733, taken_in822, edition822}
use Rattle.addresses.specs.Believed.Outcome.{Outcome, refusal, derived, read_in, body_read}
use Rattle.addresses.specs.Believed.Condition3.{Condition3In}

-- the verdict on the scanner's symbols is that of the executable layer for RFC 822, the only right one by `Decides`
abbrev pub verdict822 : List (Symbol Class) → Verdict Class (Forest Class Nonterminal)
verdict822 xs = read level_limit (taken_in822 xs)

-- what is answered in RFC 822, of a derivation or of a refusal
abbrev pub body_read822 : {A : Type 0} → (ℕ → ℕ → A) → (Forest Class Nonterminal → A) → List ℕ → ℕ → ℕ → A
body_read822 refuse derive message start end = read_in edition822 (read level_limit) refuse derive message start end

-- the outcome in RFC 822
abbrev pub outcome822 : List ℕ → ℕ → ℕ → List ℕ → Outcome
outcome822 message start end table = body_read822 (refusal table) (derived table) message start end

-- what is answered in the edition with a number, of a derivation in its rules or of a refusal; the edition is the whole number
abbrev pub read_of : {A : Type 0} → ℕ → (ℕ → ℕ → A) → ((N : Type 0) → Forest Class N → A) → List ℕ → ℕ → ℕ → A
read_of edition refuse derive message start end =
    pick (ltb message_limit (length message)) (refuse message_too_long message_limit)
    (pick (eqb edition 733) (body_read refuse (derive rules733.Nonterminal) message start end)
    (pick (eqb edition 822) (body_read822 refuse (derive Nonterminal) message start end) (refuse edition_unknown 0)))

-- the outcome for any edition, message, positions and table
abbrev pub outcome_of : ℕ → List ℕ → ℕ → ℕ → List ℕ → Outcome
outcome_of edition message start end table = read_of edition (refusal table) (λ N k. derived table k) message start end

-- condition 3 takes the rules of the edition; of any other number it does not speak
pub record Condition3Of (edition : ℕ) (message : List ℕ) (start end : ℕ) (table : List ℕ) (r : Answer) (after : List ℕ) : Type 0 where
  pub of733 : edition ≡ 733 → Condition3In edition733 message start end table r after
  pub of822 : edition ≡ 822 → Condition3In edition822 message start end table r after

-- a list of RFC 822 has at most 2 levels: 10 is never answered there
abbrev pub NeverTooDeep : ℕ → Answer → Type 0
NeverTooDeep edition r = edition ≡ 822 → number_of r ≡ too_many_levels → ⊥
