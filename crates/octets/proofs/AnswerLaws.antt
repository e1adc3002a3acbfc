-- What follows from an equation of answers: the same is told. Assumes nothing.
use Prim.Native.Nat.{ℕ}
use mathlib.Core.Path.{◌≡◌, ap}
use mathlib.Core.List.{List}
use Rattle.octets.specs.Believed.Answers.{told, Answered}
use Rattle.octets.specs.declared.answers.Answer.{Answer}

pub answered : {answer r : Answer} {bytes after : List ℕ} → r ≡ answer → after ≡ bytes → Answered answer bytes r after
answered e f = record { told_is = ap told e; bytes_are = f; answer_is = e }
