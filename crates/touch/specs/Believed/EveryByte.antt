-- Document 02, CR 3: every byte of an accepted body is white space, comment, word, "at" or mark.
use Rattle.std.specs.Prelude.{ℕ, ◌≤◌, ◌<◌, ◌≡◌, List}
use Rattle.octets.specs.declared.answers.Answer.TheVariants.{Accepted}
use Rattle.scanner.specs.Believed.Answers.{body_scanned}
use Rattle.scanner.specs.Believed.Categories.{category_at, Told}
use Rattle.grammar.specs.Believed.Rfc733.{Derivation}
use Rattle.addresses.specs.Believed.Editions.{body_symbols}
use Rattle.addresses.specs.Believed.Condition3.{IsList}

-- of a body that passes the checks and scans without fault, to a list
abbrev pub EveryByte : List ℕ → ℕ → ℕ → Type 0
EveryByte message start end =
    body_scanned message start end ≡ Accepted 0 → (k : Derivation) → IsList (body_symbols message start end) k
    → (place : ℕ) → start ≤ place → place < end → Told (category_at message start end place)
