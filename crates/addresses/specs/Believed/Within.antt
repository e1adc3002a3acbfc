-- Whether a text is an address list of few levels.
use Rattle.std.specs.Prelude.{ℕ, min, Bool, true, false, List, length}
use Rattle.octets.specs.Believed.Numbers.{level_limit}
use Rattle.addresses.specs.Believed.Outcome.{read_within}

-- a text is, whole, an address list of at most this many levels, and never of more than 64
abbrev pub list_within : ℕ → List ℕ → Bool
list_within limit text = read_within (min limit level_limit) (λ n p. false) (λ k. true) text 0 (length text)
