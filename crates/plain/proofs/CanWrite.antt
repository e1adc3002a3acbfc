-- When a symbol can be written. Assumes nothing.
use Prim.Native.Nat.{ℕ, ◌≤◌, ◌<◌}
use mathlib.Core.Path.{◌≡◌, refl}
use mathlib.Core.Bool.{true}
use mathlib.Core.List.{List}
use borrow.Author.Tests.{lt-ltb, le-leb}
use lib.ListN.{length}
use Rattle.plain.specs.Ties.Writing.{text_limit, written_limit, can_write}

module _ (text : List ℕ) (start end n : ℕ) where
  -- it stands in the text, and a count holds what is written
  pub record Written : Type 0 where
    pub starts : start < end
    pub inside : end ≤ length text
    pub short : length text ≤ text_limit
    pub low : n ≤ written_limit

  pub can_write_lem : Written → can_write text start end n ≡ true
  can_write_lem w = rw (lt-ltb start end w.starts, le-leb end (length text) w.inside, le-leb (length text) text_limit w.short, le-leb n written_limit w.low) refl
