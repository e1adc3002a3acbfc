-- Document 01, "Checked examples": bytes in, answers out, in a single table with one statement over its rows.
use Rattle.std.specs.Prelude.{ℕ, ◌≡◌, List, [], ◌∷◌, ℤ, pos, neg_ℤ, length, replicate, Ok}
use Rattle.octets.specs.Believed.Text.{bytes}
use Rattle.octets.specs.Believed.Numbers.{no_list_goes_on, ends_too_soon}
use Rattle.octets.specs.declared.answers.Answer.{Answer}
use Rattle.octets.specs.declared.answers.Answer.TheVariants.{Accepted, Refused}
use Rattle.addresses.specs.Believed.Outcome.{outcome}
use Rattle.dates.specs.Believed.Outcome.{date_answer}

-- so many bytes of a lent table that nobody wrote to
abbrev pub untouched : ℕ → List ℕ
untouched many = replicate many 170

-- a body, read as a message of its own, and what comes of it
pub data Row : Type 0 where
  -- as an address list, into a table of 36 bytes: the answer, and every byte of the table afterwards
  addresses : List ℕ → Answer → List ℕ → Row
  -- as a date: accepted with these seconds
  seconds : List ℕ → ℤ → Row

-- what a row says
abbrev pub Holds : Row → Type 0
Holds (addresses body answer table) = outcome body 0 (length body) (untouched 36) ≡ record { answer = answer; table = table }
Holds (seconds body value) = date_answer body 0 (length body) ≡ Ok value

-- each row of a table holds
abbrev pub AllHold : List Row → Type 0
AllHold [] = Unit {0}
AllHold (row ∷ rows) = Holds row × AllHold rows

-- the table
abbrev pub examples : List Row
examples =
    -- 1 and 2: no address
    addresses (bytes "") (Accepted 0) (untouched 36)
    ∷ addresses (bytes ",,") (Accepted 0) (untouched 36)
    -- 3: one mailbox
    ∷ addresses (bytes "Neuman@BBN-TENEXA") (Accepted 1) (1 ∷ 0 ∷ 0 ∷ 0 ∷ 0 ∷ 0 ∷ 0 ∷ 17 ∷ 0 ∷ 0 ∷ 0 ∷ 6 ∷ untouched 24)
    -- 4: 9 at 1
    ∷ addresses (bytes "x") (Refused ends_too_soon 1) (untouched 36)
    -- 5: one quoted
    ∷ addresses (bytes "\"x\"") (Accepted 1) (4 ∷ 0 ∷ 0 ∷ 0 ∷ 0 ∷ 0 ∷ 0 ∷ 3 ∷ 0 ∷ 0 ∷ 0 ∷ 3 ∷ untouched 24)
    -- 6: 8 at 7
    ∷ addresses (bytes "a at b c") (Refused no_list_goes_on 7) (untouched 36)
    -- 7: 8 at 3
    ∷ addresses (bytes ":A:;;") (Refused no_list_goes_on 3) (untouched 36)
    -- 8: two groups, depths 0 and 1
    ∷ addresses (bytes ":,A:;;") (Accepted 2)
    (3 ∷ 0 ∷ 0 ∷ 0 ∷ 0 ∷ 0 ∷ 0 ∷ 6 ∷ 0 ∷ 0 ∷ 0 ∷ 0 ∷ 3 ∷ 1 ∷ 0 ∷ 1 ∷ 0 ∷ 2 ∷ 0 ∷ 5 ∷ 0 ∷ 2 ∷ 0 ∷ 3 ∷ untouched 12)
    -- 9: 8 at 14
    ∷ addresses (bytes ":A: :B: x at H;;") (Refused no_list_goes_on 14) (untouched 36)
    -- 10: 9 at 7
    ∷ addresses (bytes "<a at b") (Refused ends_too_soon 7) (untouched 36)
    -- 11 to 13: dates
    ∷ seconds (bytes "Monday, 21 Nov 77 1430-EST") (pos 2457977400)
    ∷ seconds (bytes "1 Jan 1900 0000 +0100") (neg_ℤ (pos 3600))
    ∷ seconds (bytes "1 Jan 1900 0000 A") (pos 3600)
    ∷ []

-- the one statement over its rows
abbrev pub ExamplesHold : Type 0
ExamplesHold = AllHold examples
