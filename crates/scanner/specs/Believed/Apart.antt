-- Document 02, CR 4: what it says of a symbol that it stands apart; and that a symbol which is looked for from the end of the one before it says the same as in the scan of the whole.
use Rattle.std.specs.Prelude.{◌≡◌, ℕ, ◌-◌, ◌<◌, true, false, List}
use Rattle.scanner.specs.Believed.Symbols.{Symbol, Lexeme}
use Rattle.scanner.specs.Believed.Characters.{characters_at}
use Rattle.scanner.specs.Believed.Scanning.{Scanned, next, outside, scan_by}
use Rattle.scanner.specs.Believed.Categories.{between}
use Rattle.scanner.specs.declared.Class.{Class}
use Rattle.scanner.specs.declared.Category.{Category}
use Rattle.scanner.specs.declared.Category.TheVariants as category

-- white space, folds too, or part of a comment
abbrev pub WhiteOrComment : Category → Type 0
WhiteOrComment category.White = Unit {0}
WhiteOrComment category.Comment = Unit {0}
WhiteOrComment category.Word = ⊥
WhiteOrComment category.At = ⊥
WhiteOrComment category.Mark = ⊥
WhiteOrComment category.Nothing = ⊥

-- the first symbol from a position on: where it stands apart, the byte right before it lies there and is white space or part of a comment; else it starts at the position
pub record ApartIs (classes text : List ℕ) (at : ℕ) (x : Lexeme) : Type 0 where
  pub stands_apart : x.apart ≡ true → (at < x.start) × WhiteOrComment (between classes (x.start - 1) (characters_at text at) outside)
  pub adjoins : x.apart ≡ false → x.start ≡ at

-- of every text and position: the first symbol from there on, and that all others are those which scanning from its end gives
abbrev pub EachFromTheEndBefore : Type 0
EachFromTheEndBefore =
    (classes text : List ℕ) (at : ℕ) (x : Symbol Class) (rest : Scanned) → scan_by classes text at ≡ next x rest
    → ApartIs classes text at x.lexeme × (rest ≡ scan_by classes text x.lexeme.end)
