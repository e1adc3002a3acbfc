-- Document 02, CR 5: the examples of its issue, worked out by hand, in one table. Assumes nothing.
use Prim.Native.Nat.{ℕ}
use mathlib.Core.Path.{◌≡◌, refl}
use mathlib.Core.List.{List, [], ◌∷◌, map}
use Rattle.octets.specs.Believed.Letters.{lower, same}
use Rattle.octets.specs.Believed.Text.{bytes}
use Rattle.header.specs.Believed.Names.{known_names, known_in, known_of, same_length_and_first, one_has, compared_of}
use Rattle.header.specs.declared.names.Known.{Known}
use Rattle.header.specs.declared.names.Known.TheVariants.{ReplyTo, To, Other}

-- a name, which known name it is, and how many are compared with it
record Example : Type 0 where
  pub name : List ℕ
  pub known : Known
  pub compared : ℕ

abbrev of : List ℕ → Known → ℕ → Example
of name known compared = record { name = name; known = known; compared = compared }

abbrev examples : List Example
examples =
    of (bytes "To") To 1
    ∷ of (bytes "tx") Other 1
    ∷ of (bytes "xo") Other 0
    ∷ of [] Other 0
    ∷ of (bytes "T") Other 0
    ∷ of (bytes "cc ") Other 0
    ∷ of (bytes "rEPLY-tO") ReplyTo 1
    ∷ of (82 ∷ 101 ∷ 112 ∷ 108 ∷ 121 ∷ 13 ∷ 84 ∷ 111 ∷ []) Other 1
    ∷ of (227 ∷ 227 ∷ []) Other 0
    ∷ of (20 ∷ 111 ∷ []) Other 0
    ∷ []

pub as_told : map (λ e. of e.name (known_of e.name) (compared_of e.name)) examples ≡ examples
unfolding known_names known_in same_length_and_first one_has same lower
as_told = refl
