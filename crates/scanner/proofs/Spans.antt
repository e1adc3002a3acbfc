-- The symbols of a text lie in it, ascend and do not overlap. Assumes nothing.
use mathlib.Core.Path.{◌≡◌, refl}
use mathlib.Core.List.{List, [], ◌∷◌}
use Prim.Native.Nat.{ℕ, zero, suc, ◌+◌, ◌≤◌, ◌<◌}
use native.Mathlib.Omega.{arith}
use lib.ListN.{length}
use Rattle.scanner.specs.Believed.Symbols.{Symbol}
use Rattle.scanner.specs.Believed.Scanning.{symbols_of, symbol, apart_from, scan_by}
use Rattle.scanner.specs.declared.Class.{Class}
use Rattle.scanner.specs.declared.Class.TheVariants.{Quoted}
use Rattle.scanner.specs.Ties.Meanings.{meaning_at}
use Rattle.scanner.proofs.Unfolding.{Unfolded, no_symbol, a_symbol, a_fault, unfolded}

-- symbols from a position on, up to another, each with the meaning of its place; a quoted-string has its two quotes
pub data Placed (classes text : List ℕ) (end : ℕ) : ℕ → List (Symbol Class) → Type 0 where
  none : {at : ℕ} → Placed classes text end at []
  one : {at : ℕ} {x : Symbol Class} {rest : List (Symbol Class)} → at ≤ x.lexeme.start → x.lexeme.start < x.lexeme.end → x.lexeme.end ≤ end
      → (x.class ≡ Quoted → x.lexeme.start + 2 ≤ x.lexeme.end) → x.lexeme.meaning ≡ meaning_at classes text x.class x.lexeme.start x.lexeme.end
      → Placed classes text end x.lexeme.end rest → Placed classes text end at (x ∷ rest)

module _ (classes text : List ℕ) where
  by_step : (at : ℕ) → Unfolded classes text at → ((q : ℕ) → at < q → q ≤ length text → Placed classes text (length text) q (symbols_of (scan_by classes text q)))
      → Placed classes text (length text) at (symbols_of (scan_by classes text at))
  unfolding symbols_of
  by_step at (no_symbol e) f = rw e none
  by_step at (a_symbol {class} {start} {end} x) f =
      rw x.same
      (one {x = apart_from at (symbol class start end (meaning_at classes text class start end))} x.from x.starts x.within x.quotes refl (f end (omega (arith, x.from, x.starts)) x.within))
  by_step at (a_fault e) f = rw e none

  run : (n at : ℕ) → length text ≤ at + n → Placed classes text (length text) at (symbols_of (scan_by classes text at))
  run zero at h = by_step at (unfolded classes text at) (λ q a b. absurd (omega arith))
  run (suc n) at h = by_step at (unfolded classes text at) (λ q a b. run n q (omega arith))

  -- the symbols that a text scans to from a position on
  pub placed : (at : ℕ) → Placed classes text (length text) at (symbols_of (scan_by classes text at))
  placed at = run (length text) at (omega arith)
